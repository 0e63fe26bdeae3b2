-- What a write to one set, and an exchange of two, do to the plain list of jobs.
use Rattle.std.proofs.Common.{◌≡◌, ◌≢◌, ◌⊎◌, ℕ, ◌<◌, ◌≤◌, ◌==◌, cond, List, Option, Some, None, map, length, slice_index_or, slice_set, swap, refl, ap, sym, ◌∙◌, inl, inr, arith}
use Rattle.agc_exec.specs.Stages.{IsFreeAt}
use Rattle.std.proofs.lemmas.Bool.{cases_eq, cases_lt}
use Rattle.std.proofs.lemmas.List.{get_or-set_same, get_or-set_other, length-set, length-map, map-set, get_or-map, get_or_past}
use Rattle.std.proofs.lemmas.List.Edits.{swap_is, length-swap}
use Rattle.std.proofs.lemmas.Grind.{common_steps}
use Rattle.agc_plan.specs.Jobs.{Job, with_job}
use Rattle.agc_exec.specs.HeldJob.{HeldJob}
use Rattle.agc_exec.specs.Sets.{job_of, job_numbered, slots_of, number_in, Holds, IsLawful}
use Rattle.agc_exec.proofs.Slots.{job_numbered-none, job_numbered-at, job_numbered-other, job_numbered-found, None-job_numbered, slots_from-set, slots_from-same}

pub Holds-within : (sets : List (Option HeldJob)) (i : ℕ) (r : HeldJob) → Holds sets i r → i < length sets
Holds-within sets i r at = elim (cases_lt i (length sets)) [
  | inl lt ↦ lt
  | inr past ↦ let none : slice_index_or sets i None ≡ None = get_or_past sets i None past in absurd (cc)
]

-- where a set's job stands after set 0 and set k were exchanged
abbrev pub moved : ℕ → ℕ → ℕ
moved k i = cond (i == 0) k (cond (i == k) 0 i)

pub moved-moved : (k i : ℕ) → moved k (moved k i) ≡ i
moved-moved k i = grind (arith, common_steps)

pub get_or-swap : (sets : List (Option HeldJob)) (k i : ℕ) → k < length sets → slice_index_or (swap sets 0 k) i None ≡ slice_index_or sets (moved k i) None
get_or-swap sets k i lt =
    let is : slice_set (slice_set sets 0 (slice_index_or sets k None)) k (slice_index_or sets 0 None) ≡ swap sets 0 k = swap_is sets 0 k None (omega arith) lt in
    rw (← is) (grind (arith, common_steps))

pub Holds-swap : (sets : List (Option HeldJob)) (k i : ℕ) (r : HeldJob) → k < length sets → Holds (swap sets 0 k) i r → Holds sets (moved k i) r
Holds-swap sets k i r lt at = sym (get_or-swap sets k i lt) ∙ at

pub swap-Holds : (sets : List (Option HeldJob)) (k i : ℕ) (r : HeldJob) → k < length sets → Holds sets i r → Holds (swap sets 0 k) (moved k i) r
swap-Holds sets k i r lt at = get_or-swap sets k (moved k i) lt ∙ ap (λ x. slice_index_or sets x None) (moved-moved k i) ∙ at

moved_apart : (k i j : ℕ) → moved k i ≡ moved k j → i ≡ j
moved_apart k i j e = sym (moved-moved k i) ∙ ap (moved k) e ∙ moved-moved k j

-- an exchange keeps the list lawful
pub IsLawful-swap : (sets : List (Option HeldJob)) (k : ℕ) → k < length sets → IsLawful sets → IsLawful (swap sets 0 k)
IsLawful-swap sets k lt lawful = record {
  distinct = λ i j r s at_i at_j same. moved_apart k i j (lawful.distinct (moved k i) (moved k j) r s (Holds-swap sets k i r lt at_i) (Holds-swap sets k j s lt at_j) same);
  low = λ i r at. lawful.low (moved k i) r (Holds-swap sets k i r lt at);
  high = λ i r at. rw length-swap (lawful.high (moved k i) r (Holds-swap sets k i r lt at));
  areas = λ i j r s at_i at_j own same. moved_apart k i j (lawful.areas (moved k i) (moved k j) r s (Holds-swap sets k i r lt at_i) (Holds-swap sets k j s lt at_j) own same);
}

-- the same jobs stand in both lists
pub job_numbered-swap : (sets : List (Option HeldJob)) (k n : ℕ) → k < length sets → IsLawful sets → job_numbered (swap sets 0 k) n ≡ job_numbered sets n
job_numbered-swap sets k n lt lawful = go (job_numbered sets n) refl where
  go : (o : Option Job) → job_numbered sets n ≡ o → job_numbered (swap sets 0 k) n ≡ o
  go None e = job_numbered-none (swap sets 0 k) n (λ i r at. None-job_numbered sets n e (moved k i) r (Holds-swap sets k i r lt at))
  go (Some job) e =
      let (i, r, at, is, same) = job_numbered-found sets n job e in
      job_numbered-at (swap sets 0 k) (moved k i) r n is (λ j s at_j number. moved_apart k j (moved k i) (lawful.distinct (moved k j) i s r (Holds-swap sets k j s lt at_j) at (number ∙ sym is) ∙ sym (moved-moved k i))) (swap-Holds sets k i r lt at)
      ∙ ap Some same

pub slots_of-swap : (sets : List (Option HeldJob)) (k : ℕ) → k < length sets → IsLawful sets → slots_of (swap sets 0 k) ≡ slots_of sets
slots_of-swap sets k lt lawful =
    let len : length (swap sets 0 k) ≡ length sets = length-swap sets 0 k in
    rw len (slots_from-same (length sets) 1 sets (swap sets 0 k) (λ n low. job_numbered-swap sets k n lt lawful))

pub map-swap : {X Y : Type 0} (f : X → Y) (xs : List X) (k : ℕ) (d : X) → k < length xs → map f (swap xs 0 k) ≡ swap (map f xs) 0 k
map-swap f xs k d lt =
    let lt' : k < length (map f xs) = simp length-map lt in
    let zero_lt : 0 < length xs = omega arith in
    let zero_lt' : 0 < length (map f xs) = omega arith in
    ap (map f) (sym (swap_is xs 0 k d zero_lt lt))
    ∙ map-set f (slice_set xs 0 (slice_index_or xs k d)) k (slice_index_or xs 0 d)
    ∙ ap (λ ys. slice_set ys k (f (slice_index_or xs 0 d))) (map-set f xs 0 (slice_index_or xs k d))
    ∙ ap (λ y. slice_set (slice_set (map f xs) 0 y) k (f (slice_index_or xs 0 d))) (sym (get_or-map f xs k d (f d) lt))
    ∙ ap (λ y. slice_set (slice_set (map f xs) 0 (slice_index_or (map f xs) k (f d))) k y) (sym (get_or-map f xs 0 d (f d) zero_lt))
    ∙ swap_is (map f xs) 0 k (f d) zero_lt' lt'

-- a job came to free set k
pub slots_of-written : (sets : List (Option HeldJob)) (k : ℕ) (r : HeldJob) → k < length sets → IsFreeAt sets k → 1 ≤ r.number → job_numbered sets r.number ≡ None → slots_of (slice_set sets k (Some r)) ≡ with_job (slots_of sets) r.number (Some (job_of r))
slots_of-written sets k r lt free low unused =
    let len : length (slice_set sets k (Some r)) ≡ length sets = length-set sets k (Some r) in
    let here : job_numbered (slice_set sets k (Some r)) r.number ≡ Some (job_of r) = job_numbered-at (slice_set sets k (Some r)) k r r.number refl (written_apart sets k r unused) (get_or-set_same sets k (Some r) None lt) in
    let other : (n : ℕ) → 1 ≤ n → n ≢ r.number → job_numbered (slice_set sets k (Some r)) n ≡ job_numbered sets n = λ n low_n ne. job_numbered-other sets k (Some r) n (free_number_ne n low_n) (λ e. ne (sym e)) in
    rw len (slots_from-set (length sets) 1 sets (slice_set sets k (Some r)) r.number (Some (job_of r)) low other here)
  where
    free_number_ne : (n : ℕ) → 1 ≤ n → number_in (slice_index_or sets k None) ≢ n
    free_number_ne n low_n e = let z : number_in (slice_index_or sets k None) ≡ 0 = ap number_in free in omega arith

    written_apart : (sets : List (Option HeldJob)) (k : ℕ) (r : HeldJob) → job_numbered sets r.number ≡ None → (j : ℕ) (s : HeldJob) → Holds (slice_set sets k (Some r)) j s → s.number ≡ r.number → j ≡ k
    written_apart sets k r unused j s at same = elim (cases_eq j k) [
      | inl e ↦ e
      | inr ne ↦ absurd (None-job_numbered sets r.number unused j s (sym (get_or-set_other sets k j (Some r) None ne) ∙ at) same)
    ]

-- a job of this number may come to set k
pub record Fits (sets : List (Option HeldJob)) (k : ℕ) (r : HeldJob) : Type 0 where
  pub low : 1 ≤ r.number
  pub high : r.number ≤ length sets
  pub apart : (j : ℕ) (s : HeldJob) → j ≢ k → Holds sets j s → s.number ≢ r.number
  pub own : (j : ℕ) (s : HeldJob) → j ≢ k → Holds sets j s → 0 < r.area → s.area ≢ r.area

-- what a set holds after a write to set k
pub Holds-set : (sets : List (Option HeldJob)) (k : ℕ) (v : Option HeldJob) (j : ℕ) (s : HeldJob) → Holds (slice_set sets k v) j s → ((j ≡ k) × (v ≡ Some s)) ⊎ ((j ≢ k) × Holds sets j s)
Holds-set sets k v j s at = elim (cases_eq j k) [
  | inr ne ↦ inr (ne, sym (get_or-set_other sets k j v None ne) ∙ at)
  | inl e ↦
      let lt : k < length sets = let h : j < length (slice_set sets k v) = Holds-within (slice_set sets k v) j s at in let len : length (slice_set sets k v) ≡ length sets = length-set sets k v in omega arith in
      inl (e, sym (get_or-set_same sets k v None lt) ∙ ap (λ x. slice_index_or (slice_set sets k v) x None) (sym e) ∙ at)
]

pub IsLawful-set : (sets : List (Option HeldJob)) (k : ℕ) (v : Option HeldJob) → IsLawful sets → ((r : HeldJob) → v ≡ Some r → Fits sets k r) → IsLawful (slice_set sets k v)
IsLawful-set sets k v lawful fits =
    record {
      distinct = λ i j r s at_i at_j same. elim (Holds-set sets k v i r at_i) [
        | inl here ↦ elim (Holds-set sets k v j s at_j) [ inl there ↦ here.0 ∙ sym there.0 | inr there ↦ absurd ((fits r here.1).apart j s there.0 there.1 (sym same)) ]
        | inr here ↦ elim (Holds-set sets k v j s at_j) [ inl there ↦ absurd ((fits s there.1).apart i r here.0 here.1 same) | inr there ↦ lawful.distinct i j r s here.1 there.1 same ]
      ];
      low = λ i r at. elim (Holds-set sets k v i r at) [ inl here ↦ (fits r here.1).low | inr here ↦ lawful.low i r here.1 ];
      high = λ i r at. rw length-set (elim (Holds-set sets k v i r at) [ inl here ↦ (fits r here.1).high | inr here ↦ lawful.high i r here.1 ]);
      areas = λ i j r s at_i at_j own same. elim (Holds-set sets k v i r at_i) [
        | inl here ↦ elim (Holds-set sets k v j s at_j) [ inl there ↦ here.0 ∙ sym there.0 | inr there ↦ absurd ((fits r here.1).own j s there.0 there.1 own (sym same)) ]
        | inr here ↦ elim (Holds-set sets k v j s at_j) [ inl there ↦ absurd ((fits s there.1).own i r here.0 here.1 (omega arith) same) | inr there ↦ lawful.areas i j r s here.1 there.1 own same ]
      ];
    }

-- the job of set k was removed
pub slots_of-cleared : (sets : List (Option HeldJob)) (k : ℕ) (r : HeldJob) → IsLawful sets → Holds sets k r → slots_of (slice_set sets k None) ≡ with_job (slots_of sets) r.number None
slots_of-cleared sets k r lawful at =
    let len : length (slice_set sets k None) ≡ length sets = length-set sets k None in
    let here : job_numbered (slice_set sets k None) r.number ≡ None = job_numbered-none (slice_set sets k None) r.number (λ j s at_j same. elim (Holds-set sets k None j s at_j) [ inl there ↦ absurd (let no : None ≡ Some s = there.1 in cc) | inr there ↦ there.0 (lawful.distinct j k s r there.1 at same) ]) in
    rw len (slots_from-set (length sets) 1 sets (slice_set sets k None) r.number None (lawful.low k r at) (λ n low ne. job_numbered-other sets k None n (λ e. ne (sym e ∙ ap number_in at)) (λ e. let z : 0 ≡ n = e in omega arith)) here)

-- the job of set k became another of its number
pub slots_of-changed : (sets : List (Option HeldJob)) (k : ℕ) (r new : HeldJob) → IsLawful sets → Holds sets k r → new.number ≡ r.number → slots_of (slice_set sets k (Some new)) ≡ with_job (slots_of sets) r.number (Some (job_of new))
slots_of-changed sets k r new lawful at number =
    let len : length (slice_set sets k (Some new)) ≡ length sets = length-set sets k (Some new) in
    let here : job_numbered (slice_set sets k (Some new)) r.number ≡ Some (job_of new) = job_numbered-at (slice_set sets k (Some new)) k new r.number number (λ j s at_j same. elim (Holds-set sets k (Some new) j s at_j) [ inl there ↦ there.0 | inr there ↦ lawful.distinct j k s r there.1 at same ]) (get_or-set_same sets k (Some new) None (Holds-within sets k r at)) in
    rw len (slots_from-set (length sets) 1 sets (slice_set sets k (Some new)) r.number (Some (job_of new)) (lawful.low k r at) (λ n low ne. job_numbered-other sets k (Some new) n (λ e. ne (sym e ∙ ap number_in at)) (λ e. ne (sym e ∙ number))) here)
