-- Words whose core sets and Waitlist were cleared.
use Rattle.std.proofs.Common.{◌≡◌, ℕ, ◌+◌, ◌-◌, ◌/◌, ◌<◌, ◌≤◌, List, [], ◌∷◌, Option, length, drop, get_or, replicate, add-one, drop-cons, refl, ap, sym, subst, ◌∙◌}
use Rattle.std.proofs.lemmas.List.{drop_all}
use Rattle.agc_word.specs.Layout.{sets_in, others_size, set_size}
use Rattle.agc_word.specs.declared.sets.Sets.{Sets}
use Rattle.agc_word.specs.declared.sets.Sets.TheVariants.{Seven, Eight}
use Rattle.agc_word.specs.Profiles.{size_of, count_of}
use Rattle.agc_plan.specs.Begins.{Begins}
use Rattle.agc_plan.specs.Eras.{Work, no_work, active}
use Rattle.agc_plan.specs.Groups.{begun_from, group_begun, places_from}
use Rattle.agc_plan.specs.Jobs.{no_jobs}
use Rattle.agc_plan.specs.Groups.{no_places}
use Rattle.agc_exec.specs.Calls as cores
use Rattle.agc_exec.proofs.Decoding.{IsSized-kept}
use Rattle.agc_exec.proofs.Agreeing.{kept_by_waitlist, jobs_in-agrees, entries_in-agrees, IsTidy-agrees, IsLawfulWords-agrees}
use Rattle.agc_wait.specs.Calls as table
use Rattle.agc_wait.specs.Table.{waits_of}
use Rattle.agc_wait.specs.Waits.{due_now}
use Rattle.agc_phase.specs.Image.{base_of, IsLawfulTable}
use Rattle.agc_phase.proofs.Kept.{IsLawfulTable-kept}
use Rattle.agc_machine.specs.Stands.{IsSound, Stands, places_group}
use Rattle.agc_machine.proofs.Frames.{phases_by_cores, phases_by_waits, base_by_cores, base_by_waits}

-- one group more begins
pub record OneMore (entries : List Begins) (group : ℕ) (phases rest : List ℕ) (entry : Option Begins) (work : Work) (places : List ℕ) : Type 0 where
  pub works : begun_from entries group phases work ≡ begun_from entries (group + 1) rest (group_begun entry work)
  pub seats : places_from entries group phases work places ≡ places_from entries (group + 1) rest (group_begun entry work) (places_group entry work places)

one_more_is : (entries : List Begins) (group : ℕ) (phases rest : List ℕ) (phase : ℕ) (entry : Option Begins) (work : Work) (places : List ℕ) → phases ≡ phase ∷ rest → entry ≡ active entries group phase → OneMore entries group phases rest entry work places
one_more_is entries group phases rest phase entry work places phases_is entry_is = rw (phases_is, entry_is) (record { works = refl; seats = refl })

-- what the groups so far left, and one more
pub one_more : (entries : List Begins) (phases : List ℕ) (k phase group : ℕ) (entry : Option Begins) (work : Work) (places : List ℕ) → k < length phases → phase ≡ get_or phases k phase → group ≡ k + 1 → entry ≡ active entries group phase → OneMore entries (k + 1) (drop k phases) (drop (k + 1) phases) entry work places
one_more entries phases k phase group entry work places lt phase_is group_is entry_is =
    one_more_is entries (k + 1) (drop k phases) (drop (k + 1) phases) phase entry work places
    (rw (add-one) (drop-cons phases k phase lt) ∙ ap (λ (p : ℕ). p ∷ drop (k + 1) phases) (sym phase_is)) (entry_is ∙ ap (λ (g : ℕ). active entries g phase) group_is)

-- words that were made for so many core sets are for as many, whatever they hold
pub sets_made : (sets : Sets) (made new : List ℕ) → made ≡ replicate (size_of sets) 0 → length new ≡ length made → sets_in new ≡ count_of sets
sets_made Seven made new is same = ap (λ (n : ℕ). (n - others_size) / set_size) (same ∙ ap length is)
sets_made Eight made new is same = ap (λ (n : ℕ). (n - others_size) / set_size) (same ∙ ap length is)

-- all groups have begun
pub all_begun : (entries : List Begins) (phases : List ℕ) (k group : ℕ) (words : List ℕ) (work whole : Work) (places everywhere : List ℕ) → length phases ≤ k → Stands words work places → begun_from entries group (drop k phases) work ≡ whole → places_from entries group (drop k phases) work places ≡ everywhere → Stands words whole everywhere
all_begun entries phases k group words work whole places everywhere past stands works seats =
    let none : drop k phases ≡ [] = drop_all k phases past in
    let work_is : work ≡ whole = ap (λ (rest : List ℕ). begun_from entries group rest work) (sym none) ∙ works in
    let places_are : places ≡ everywhere = ap (λ (rest : List ℕ). places_from entries group rest work places) (sym none) ∙ seats in
    subst (λ (p : List ℕ). Stands words whole p) places_are (subst (λ (w : Work). Stands words w places) work_is stands)

-- nobody lives, nothing waits, and phases and codes stay
pub record Cleared (old new : List ℕ) : Type 0 where
  pub sound : IsSound new
  pub same_length : length new ≡ length old
  pub clear : Stands new (no_work (sets_in old)) (no_places (sets_in old))
  pub same_base : base_of new ≡ base_of old
  pub none_due : due_now (waits_of new) ≡ 0

-- the number of core sets stays with the number of words
pub same_sets : (old new : List ℕ) → length new ≡ length old → sets_in new ≡ sets_in old
same_sets old new same = ap (λ (n : ℕ). (n - others_size) / set_size) same

pub cleared : (old mid new : List ℕ) → IsLawfulTable old → cores.Clears old mid → table.Clears mid new → Cleared old new
cleared old mid new lawful exec wait = record {
  sound = record {
    size = IsSized-kept mid new wait.others.same_length exec.lawful.sets.sized;
    tidy_cores = IsTidy-agrees mid new (kept_by_waitlist mid new wait.others) exec.tidy;
    tidy_waits = wait.tidy;
    cores = IsLawfulWords-agrees mid new (kept_by_waitlist mid new wait.others) exec.lawful;
    waits = wait.lawful;
    phases = IsLawfulTable-kept mid new (phases_by_waits mid new wait.others) (IsLawfulTable-kept old mid (phases_by_cores old mid exec.others) lawful);
  };
  clear = record {
    jobs_is = sym (jobs_in-agrees mid new (kept_by_waitlist mid new wait.others) ∙ exec.jobs ∙ ap no_jobs (same_sets old mid exec.others.same_length));
    places_is = sym (entries_in-agrees mid new (kept_by_waitlist mid new wait.others) ∙ exec.placed ∙ ap (λ (n : ℕ). replicate n 0) (same_sets old mid exec.others.same_length));
    agenda = wait.stands 0;
  };
  same_length = wait.others.same_length ∙ exec.others.same_length;
  same_base = base_by_waits mid new wait.others ∙ base_by_cores old mid exec.others;
  none_due = wait.none_due;
}
