-- Who runs and who is awake, read from the core sets.
use Rattle.std.proofs.Common.{◌≡◌, ◌≢◌, ℕ, ◌+◌, ◌-◌, ◌<◌, ◌≤◌, Bool, true, false, not, cond, List, [], ◌∷◌, map, length, Option, Some, None, option_map, slice_get, slice_index_or, IfSome, refl, sym, ap, subst, ◌∙◌, inl, inr, arith}
use Rattle.std.proofs.lemmas.List.{get_or_past, length-map}
use Rattle.std.specs.List.{range_with_len}
use Rattle.std.proofs.lemmas.List.FromFn.{length-range_with_len}
use Rattle.std.proofs.lemmas.Bool.{cases_lt}
use Rattle.std.proofs.lemmas.Option.{slice_get-map, slice_get-get_or, same_Some}
use Rattle.std.specs.Option.{option_and_then, option_map_or}
use Rattle.agc_word.specs.Layout.{sets_in}
use Rattle.agc_plan.specs.Jobs.{Job, job_in}
use Rattle.agc_exec.specs.HeldJob.{HeldJob}
use Rattle.agc_exec.specs.Image.{IsLawfulWords, jobs_in, sets_of}
use Rattle.agc_exec.specs.Seats.{seen, seats_in}
use Rattle.agc_exec.specs.Sets.{Holds, IsLawful, job_of, job_numbered, slots_of}
use Rattle.agc_exec.specs.Stages.{jobs_of}
use Rattle.agc_exec.specs.declared.seats.Seat.{Seat}
use Rattle.agc_exec.proofs.Decoding.{IsSet-lengths, length-sets}
use Rattle.agc_exec.proofs.Seating.{numbered}
use Rattle.agc_exec.proofs.Slots.{get_or-slots_from, job_numbered-none}
use Rattle.agc_exec.proofs.Swaps.{Holds-within}
use Rattle.agc_clock.specs.declared.counting.JobAt.{JobAt}
use Rattle.agc_clock.specs.Counts.{is_awake, runner_of}
use Rattle.agc_clock.specs.Reading.{awake_at}

-- what a set shows
shown : (words : List ℕ) (k : ℕ) (s : Option Seat) → k < sets_in words → slice_get (seats_in words) k ≡ Some s → option_map seen (slice_index_or (sets_of words) k None) ≡ s
unfolding seats_in
shown words k s lt is =
    let within : k < length (sets_of words) = rw (length-sets words) lt in
    same_Some _ _ (sym (slice_get-map (option_map seen) (sets_of words) k ∙ ap (option_map (option_map seen)) (slice_get-get_or (sets_of words) k None within)) ∙ is)

shows_job : (h : Option HeldJob) (s : Seat) → option_map seen h ≡ Some s → (r : HeldJob) × (h ≡ Some r) × (seen r ≡ s)
shows_job None s e = absurd (cc)
shows_job (Some r) s e = (r, refl, same_Some (seen r) s e)

pub shows_none : (words : List ℕ) (k : ℕ) → k < sets_in words → slice_get (seats_in words) k ≡ Some None → (r : HeldJob) → Holds (sets_of words) k r → ⊥
shows_none words k lt is r at = let no : None ≡ Some (seen r) = sym (shown words k None lt is) ∙ ap (option_map seen) at in absurd (cc)

pub shows_other : (words : List ℕ) (k number : ℕ) (s : Seat) → k < sets_in words → slice_get (seats_in words) k ≡ Some (Some s) → s.number ≢ number → (r : HeldJob) → Holds (sets_of words) k r → r.number ≢ number
shows_other words k number s lt is other r at same =
    let this : seen r ≡ s = same_Some (seen r) s (sym (ap (option_map seen) at) ∙ shown words k (Some s) lt is) in
    other (sym (ap (λ (x : Seat). x.number) this) ∙ same)

-- the job of this number is found
pub awake_found : (words : List ℕ) (k number : ℕ) (s : Seat) → IsLawfulWords words → k < sets_in words → slice_get (seats_in words) k ≡ Some (Some s) → s.number ≡ number → not s.asleep ≡ is_awake (jobs_in words) number
awake_found words k number s lawful lt is same =
    let (r, at, this) = shows_job (slice_index_or (sets_of words) k None) s (shown words k (Some s) lt is) in
    let its : r.number ≡ number = ap (λ (x : Seat). x.number) this ∙ same in
    let found : job_in (slots_of (sets_of words)) number ≡ Some (job_of r) = subst (λ (n : ℕ). job_in (slots_of (sets_of words)) n ≡ Some (job_of r)) its (numbered (sets_of words) k r lawful.sets.standing.lawful at) in
    sym (ap (λ (x : Seat). not x.asleep) this) ∙ sym (ap (λ (j : Option Job). option_map_or (λ (job : Job). not job.asleep) j false) found)

none_found : (sets : List (Option HeldJob)) (number : ℕ) → 1 ≤ number → ((i : ℕ) (r : HeldJob) → Holds sets i r → r.number ≢ number) → job_in (slots_of sets) number ≡ None
none_found sets number low others = elim (cases_lt (number - 1) (length sets)) [
  | inl lt ↦
      let same : 1 + (number - 1) ≡ number = omega arith in
      get_or-slots_from (length sets) 1 sets (number - 1) lt ∙ ap (job_numbered sets) same ∙ job_numbered-none sets number others
  | inr ge ↦ get_or_past (slots_of sets) (number - 1) None (rw (length-map (range_with_len 1 (length sets)) (job_numbered sets), length-range_with_len 1 (length sets)) ge)
]

pub awake_none : (words : List ℕ) (number : ℕ) → 1 ≤ number → ((i : ℕ) (r : HeldJob) → i < sets_in words → Holds (sets_of words) i r → r.number ≢ number) → false ≡ is_awake (jobs_in words) number
awake_none words number low others =
    let none : job_in (slots_of (sets_of words)) number ≡ None = none_found (sets_of words) number low (λ i r at. others i r (rw (sym (length-sets words)) (Holds-within (sets_of words) i r at)) at) in
    sym (ap (λ (j : Option Job). option_map_or (λ (job : Job). not job.asleep) j false) none)

-- who runs
front : (sets : List (Option HeldJob)) (seat : Option Seat) → IsLawful sets → slice_get (map (option_map seen) sets) 0 ≡ Some seat → awake_at seat ≡ runner_of (jobs_of sets)
front [] seat lawful is = absurd (cc)
front (None ∷ sets) seat lawful is = sym (ap awake_at (same_Some None seat is))
front (Some r ∷ sets) seat lawful is = sym (ap awake_at (same_Some (Some (seen r)) seat is)) ∙ each r.asleep where
  stands : ℕ → Job → JobAt
  stands n job = record { number = n; at = job.at }

  at_front : ℕ → Option JobAt
  at_front n = option_map (stands n) (job_in (slots_of (Some r ∷ sets)) n)

  each : (b : Bool) → cond b None (Some (record { number = r.number; at = r.at })) ≡ option_and_then at_front (cond b None (Some r.number))
  each true = refl
  each false = sym (ap (option_map (stands r.number)) (numbered (Some r ∷ sets) 0 r lawful refl))

pub runner_is : (words : List ℕ) (seat : Option Seat) → IsLawfulWords words → slice_get (seats_in words) 0 ≡ Some seat → awake_at seat ≡ runner_of (jobs_in words)
unfolding seats_in
runner_is words seat lawful is = front (sets_of words) seat lawful.sets.standing.lawful is

abbrev pub IsNumbered : JobAt → Type 0
IsNumbered job = (1 ≤ job.number) × (job.number ≤ 8)

seat_numbered : (seat : Option Seat) → ((s : Seat) → seat ≡ Some s → (1 ≤ s.number) × (s.number ≤ 8)) → IfSome (awake_at seat) IsNumbered
seat_numbered None each = tt
seat_numbered (Some s) each = go s.asleep where
  go : (b : Bool) → IfSome (cond b None (Some (record { number = s.number; at = s.at }))) IsNumbered
  go true = tt
  go false = each s refl

pub runner_numbered : (words : List ℕ) (seat : Option Seat) → IsLawfulWords words → slice_get (seats_in words) 0 ≡ Some seat → IfSome (awake_at seat) IsNumbered
runner_numbered words seat lawful is = seat_numbered seat each where
  each : (s : Seat) → seat ≡ Some s → (1 ≤ s.number) × (s.number ≤ 8)
  each s some =
      let here : slice_get (seats_in words) 0 ≡ Some (Some s) = is ∙ ap (λ (o : Option Seat). Some o) some in
      let all : length (sets_of words) ≡ sets_in words = length-sets words in
      let count : (7 ≤ length (sets_of words)) × (length (sets_of words) ≤ 8) = IsSet-lengths words lawful.sets.sized in
      let (r, at, this) = shows_job (slice_index_or (sets_of words) 0 None) s (shown words 0 (Some s) (omega arith) here) in
      let number : r.number ≡ s.number = ap (λ (x : Seat). x.number) this in
      let low : 1 ≤ r.number = lawful.sets.standing.lawful.low 0 r at in
      let high : r.number ≤ length (sets_of words) = lawful.sets.standing.lawful.high 0 r at in
      (omega arith, omega arith)
