-- Gaps and distances, as words and read from them.
use Rattle.std.proofs.Common.{◌≡◌, ◌≢◌, ◌⊎◌, ℕ, ◌-◌, ◌<◌, ◌≤◌, ◌==◌, refl, inl, inr, arith}
use Rattle.std.proofs.lemmas.Bool.{cases_eq, cases_lt}
use Rattle.std.proofs.lemmas.Grind.{common_steps}
use Rattle.agc_wait.specs.Table.{gap_of}
use Rattle.agc_wait.specs.Parts.{distance_of}
use Rattle.agc_wait.specs.Writing.{counter_at, gap_word}

pub gap_of-gap_word : (gap : ℕ) → gap ≤ 16250 → gap_of (gap_word gap) ≡ gap
gap_of-gap_word gap le = elim (cases_lt gap 2) [
  | inl lt ↦
      let w : gap_word gap ≡ 1 - gap = grind (arith, common_steps) in
      let o : gap_of (gap_word gap) ≡ 1 - gap_word gap = grind (arith, common_steps) in omega arith
  | inr ge ↦
      let w : gap_word gap ≡ 32768 - gap = grind (arith, common_steps) in
      let o : gap_of (gap_word gap) ≡ 32768 - gap_word gap = grind (arith, common_steps) in omega arith
]

pub gap_word-legal : (gap : ℕ) → gap ≤ 16250 → (gap_word gap ≤ 1) ⊎ (16384 ≤ gap_word gap)
gap_word-legal gap le = elim (cases_lt gap 2) [
  | inl lt ↦ let w : gap_word gap ≡ 1 - gap = grind (arith, common_steps) in inl (omega arith)
  | inr ge ↦ let w : gap_word gap ≡ 32768 - gap = grind (arith, common_steps) in inr (omega arith)
]

pub gap_word-tidy : (gap : ℕ) → gap_word gap ≢ 32767
gap_word-tidy gap e = elim (cases_lt gap 2) [
  | inl lt ↦ let w : gap_word gap ≡ 1 - gap = grind (arith, common_steps) in omega arith
  | inr ge ↦ let w : gap_word gap ≡ 32768 - gap = grind (arith, common_steps) in omega arith
]

pub gap_word-word : (gap : ℕ) → gap_word gap < 32768
gap_word-word gap = elim (cases_lt gap 2) [
  | inl lt ↦ let w : gap_word gap ≡ 1 - gap = grind (arith, common_steps) in omega arith
  | inr ge ↦ let w : gap_word gap ≡ 32768 - gap = grind (arith, common_steps) in omega arith
]

pub distance_of-counter_at : (d : ℕ) → d ≤ 16250 → distance_of (counter_at d) ≡ d
distance_of-counter_at d le = elim (cases_eq d 0) [
  | inl e ↦ rw e refl
  | inr ne ↦
      let c : counter_at d ≡ 16384 - d = grind (arith, common_steps) in
      let far : counter_at d ≢ 0 = λ e. omega arith in
      let open_up : distance_of (counter_at d) ≡ 16384 - counter_at d = grind (arith, common_steps) in
      omega arith
]

pub counter_at-low : (d : ℕ) → counter_at d < 16384
counter_at-low d = elim (cases_eq d 0) [
  | inl z ↦ let c : counter_at d ≡ 0 = grind (arith, common_steps) in omega arith
  | inr nz ↦ let c : counter_at d ≡ 16384 - d = grind (arith, common_steps) in omega arith
]

pub distance_of-zero : (t : ℕ) → t < 16384 → (distance_of t == 0) ≡ (t == 0)
distance_of-zero t lt = elim (cases_eq t 0) [
  | inl e ↦ rw e refl
  | inr ne ↦
      let d : distance_of t ≡ 16384 - t = grind (arith, common_steps) in
      let far : distance_of t ≢ 0 = λ e. omega arith in
      grind (arith, common_steps)
]
