-- Whom NEWJOB names, by its word.
use Rattle.std.proofs.Common.{◌≡◌, ◌≢◌, ◌⊎◌, ℕ, ◌*◌, ◌/◌, ◌<◌, ◌≤◌, nat_lt, Bool, true, false, cond, List, [], ◌∷◌, Option, Some, None, length, slice_get, slice_index, slice_index_or, option_map, refl, sym, ap, ◌∙◌, inl, inr, arith}
use Rattle.std.proofs.lemmas.Bool.{cases_lt}
use Rattle.std.proofs.lemmas.Grind.{common_steps}
use Rattle.std.proofs.lemmas.Option.{same_Some, slice_get-map, slice_get-get_or}
use Rattle.agc_word.specs.Layout.{sets_in}
use Rattle.agc_word.specs.Layout as layout
use Rattle.agc_plan.specs.Jobs.{Job, Ready, job_in}
use Rattle.agc_exec.specs.HeldJob.{HeldJob}
use Rattle.agc_exec.specs.Image.{sets_of, jobs_in, runner_in, IsLawfulWords}
use Rattle.agc_exec.specs.Stages.{newjob_of}
use Rattle.agc_exec.specs.Sets.{Holds, IsStanding, awake_in, running_in, slots_of}
use Rattle.agc_exec.specs.Stages.{jobs_of}
use Rattle.agc_exec.specs.Stages.{BestBelow}
use Rattle.agc_exec.proofs.Bests.{best_ready, running_in-awake}
use Rattle.agc_exec.proofs.Decoding.{length-sets}
use Rattle.agc_exec.proofs.Finishing.{newjob_of-best}
use Rattle.agc_exec.proofs.Named.{best_exists}
use Rattle.agc_exec.proofs.Swaps.{Holds-within}
use Rattle.agc_exec.specs.declared.seats.Seat.{Seat}
use Rattle.agc_exec.specs.Seats.{seen, seats_in, named_before, named_by, named_of}
use Rattle.agc_exec.proofs.Seating.{numbered}

-- where somebody runs, the job in set 0 does
front_runs : (sets : List (Option HeldJob)) (n : ℕ) → running_in sets ≡ Some n → (r : HeldJob) × Holds sets 0 r × (r.asleep ≡ false)
front_runs [] n e = absurd (cc)
front_runs (None ∷ sets) n e = absurd (cc)
front_runs (Some r ∷ sets) n e = go r.asleep refl where
  go : (a : Bool) → r.asleep ≡ a → (s : HeldJob) × Holds (Some r ∷ sets) 0 s × (s.asleep ≡ false)
  go true q = absurd (let no : None ≡ Some n = ap (λ (b : Bool). cond b None (Some r.number)) (sym q) ∙ e in cc)
  go false q = (r, refl, q)

-- NEWJOB names nobody, or the job of a set behind set 0
abbrev Says : List (Option HeldJob) → Type 0
Says sets =
    ((newjob_of sets ≡ 0) × (named_of (jobs_of sets) ≡ None))
    ⊎ ((k : ℕ) × (r : HeldJob) × (newjob_of sets ≡ 12 * k) × (1 ≤ k) × Holds sets k r × (named_of (jobs_of sets) ≡ Some r.number))

says : (sets : List (Option HeldJob)) (job : HeldJob) → IsStanding sets → Holds sets 0 job → job.asleep ≡ false → Says sets
unfolding named_of
says sets job standing here awake =
    let (o, h) = best_exists sets (length sets) in
    go o h
  where
    go : (o : Option (ℕ × HeldJob)) → BestBelow sets (length sets) o → Says sets
    go None h = absurd (let no : true ≡ false = sym (h 0 job (Holds-within sets 0 job here) here) ∙ awake in cc)
    go (Some b) h =
        let is : newjob_of sets ≡ cond (nat_lt job.priority b.1.priority) (12 * b.0) 0 = newjob_of-best sets b.0 b.1 job standing.lawful h here in
        let who : named_of (jobs_of sets) ≡ cond (nat_lt job.priority b.1.priority) (Some b.1.number) None =
        ap (λ (n : Option ℕ). named_by n (slots_of sets)) (running_in-awake sets job here awake)
        ∙ ap (λ (first : Option Ready). named_before first (job_in (slots_of sets) job.number)) (best_ready sets b.0 b.1 standing.lawful h)
        ∙ ap (λ (j : Option Job). named_before (Some (record { number = b.1.number; priority = b.1.priority })) j) (numbered sets 0 job standing.lawful here) in
        elim (cases_lt job.priority b.1.priority) [
          | inl lt ↦
              let yes : nat_lt job.priority b.1.priority ≡ true = grind (arith, common_steps) in
              let apart : b.0 ≢ 0 = λ z. let same : b.1 ≡ job = same_Some b.1 job (sym h.here ∙ ap (λ i. slice_index_or sets i None) z ∙ here) in let p : b.1.priority ≡ job.priority = ap (λ q. q.priority) same in omega arith in
              inr (b.0, b.1, is ∙ ap (λ (c : Bool). cond c (12 * b.0) 0) yes, omega arith, h.here, who ∙ ap (λ (c : Bool). cond c (Some b.1.number) None) yes)
          | inr ge ↦
              let no : nat_lt job.priority b.1.priority ≡ false = grind (arith, common_steps) in
              inl (is ∙ ap (λ (c : Bool). cond c (12 * b.0) 0) no, who ∙ ap (λ (c : Bool). cond c (Some b.1.number) None) no)
        ]

pub named_none : (words : List ℕ) → runner_in words ≡ None → named_of (jobs_in words) ≡ None
unfolding named_of
named_none words none = ap (λ (n : Option ℕ). named_by n (slots_of (sets_of words))) none

seat_holds : (words : List ℕ) (k : ℕ) (r : HeldJob) → Holds (sets_of words) k r → slice_get (seats_in words) k ≡ Some (Some (seen r))
unfolding seats_in
seat_holds words k r at =
    slice_get-map (option_map seen) (sets_of words) k
    ∙ ap (option_map (option_map seen)) (slice_get-get_or (sets_of words) k None (Holds-within (sets_of words) k r at) ∙ ap (λ (h : Option HeldJob). Some h) at)

-- the set that the word names is one of the sets
pub named_range : (words : List ℕ) (n : ℕ) → IsLawfulWords words → runner_in words ≡ Some n → slice_index words layout.newjob / 12 < sets_in words
named_range words n lawful runs =
    let (job, here, awake) = front_runs (sets_of words) n runs in
    let len : length (sets_of words) ≡ sets_in words = length-sets words in
    let first : 0 < length (sets_of words) = Holds-within (sets_of words) 0 job here in
    elim (says (sets_of words) job lawful.sets.standing here awake) [
      | inl both ↦
          let word : slice_index words layout.newjob ≡ 0 = lawful.newjob ∙ both.0 in
          omega arith
      | inr some ↦
          let (k, r, is, low, at, who) = some in
          let word : slice_index words layout.newjob ≡ 12 * k = lawful.newjob ∙ is in
          let within : k < length (sets_of words) = Holds-within (sets_of words) k r at in
          omega arith
    ]

-- the word says whom NEWJOB names
pub named_is : (words : List ℕ) (n : ℕ) (result : Option ℕ) → IsLawfulWords words → runner_in words ≡ Some n → (slice_index words layout.newjob / 12 ≡ 0 → result ≡ None) → ((s : Seat) → 0 < slice_index words layout.newjob / 12 → slice_get (seats_in words) (slice_index words layout.newjob / 12) ≡ Some (Some s) → result ≡ Some s.number) → result ≡ named_of (jobs_in words)
named_is words n result lawful runs first behind =
    let (job, here, awake) = front_runs (sets_of words) n runs in
    elim (says (sets_of words) job lawful.sets.standing here awake) [
      | inl both ↦
          let word : slice_index words layout.newjob ≡ 0 = lawful.newjob ∙ both.0 in
          first (omega arith) ∙ sym both.1
      | inr some ↦
          let (k, r, is, low, at, who) = some in
          let word : slice_index words layout.newjob ≡ 12 * k = lawful.newjob ∙ is in
          let place : slice_index words layout.newjob / 12 ≡ k = omega arith in
          behind (seen r) (omega arith) (ap (λ (i : ℕ). slice_get (seats_in words) i) place ∙ seat_holds words k r at) ∙ sym who
    ]
