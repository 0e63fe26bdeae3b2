-- A step of the open image, whose words were written back, and the code of one.
use Rattle.std.proofs.Common.{◌≡◌, ℕ, ◌≤◌, List, Some, None, length, slice_get, refl, sym, subst, ◌∙◌, inl, inr, false}
use Rattle.std.proofs.lemmas.Option.{slice_get_cases}
use Rattle.agc_plan.specs.declared.reply.Reply.{Reply}
use Rattle.agc_plan.specs.declared.request.Request.{Request}
use Rattle.libagc.specs.declared.plans.AgcPhaseEntry.{AgcPhaseEntry}
use Rattle.libagc.specs.declared.plans.AgcRow.{AgcRow}
use Rattle.agc_plan.specs.Plans.{Planned}
use Rattle.agc_plan.specs.Steps.{begins}
use Rattle.agc_wait.specs.Table.{waits_of}
use Rattle.agc_wait.specs.Waits.{due_now}
use Rattle.agc_image.specs.Images.{IsSets, IsOpened, IsWritten, IsLawful, Changed, behind}
use Rattle.agc_image.proofs.Frames.{changed}
use Rattle.agc_machine.proofs.Beginning.{same_sets}
use Rattle.agc_machine.proofs.Stepping.{steps_on}
use Rattle.agc_machine.specs.Stands.{Acts, StepsTo, IsSound}
use Rattle.libagc.specs.Stepping.{plan_for}

pub lawful_of : (words : List ℕ) → IsSound words → IsLawful words
lawful_of words sound = record { cores = sound.cores; waits = sound.waits; phases = sound.phases }

pub stepped : (rows : List AgcRow) (entries : List AgcPhaseEntry) (asked : Request) (reply : Reply) (sets : ℕ) (old new words then : List ℕ) → IsSets sets → IsOpened sets old words → StepsTo (plan_for rows entries words) asked words reply then → IsWritten then old new → Changed (λ these those. StepsTo (plan_for rows entries these) asked these reply those) sets old new
stepped rows entries asked reply sets old new words then valid opened did written =
    changed (λ these those. StepsTo (plan_for rows entries these) asked these reply those) sets old new words then valid opened did did.same_length (lawful_of then did.ready.sound) written

pub acted : (rows : List AgcRow) (entries : List AgcPhaseEntry) (asked : Request) (reply : Reply) (sets : ℕ) (old new words then : List ℕ) → IsSets sets → IsOpened sets old words → Acts (plan_for rows entries words) asked words reply then → IsWritten then old new → Changed (λ these those. Acts (plan_for rows entries these) asked these reply those) sets old new
acted rows entries asked reply sets old new words then valid opened did written =
    changed (λ these those. Acts (plan_for rows entries these) asked these reply those) sets old new words then valid opened did did.same_length (lawful_of then did.sound) written

-- nothing begins, so what was done is the whole step
pub steps_at_once : (plan : Planned) (asked : Request) (reply : Reply) (old new : List ℕ) → Acts plan asked old reply new → begins reply ≡ false → due_now (waits_of new) ≡ 0 → StepsTo plan asked old reply new
steps_at_once plan asked reply old new did on none_due = record {
  ready = record { sound = did.sound; none_due = none_due };
  same_length = did.same_length;
  steps = λ plain places stands. steps_on plan asked plain places new reply (did.steps plain places stands) on;
}

-- words that were written in place of others that had been written
pub rewritten : (between then old mid new : List ℕ) → IsWritten between old mid → IsWritten then mid new → length then ≡ length between → IsWritten then old new
rewritten between then old mid new first second long = record {
  sized = second.sized;
  range = second.range;
  image = second.image;
  rest = second.rest ∙ subst (λ (n : ℕ). behind n mid ≡ behind n old) (sym (same_sets between then long)) first.rest;
}

-- what was written is written
pub as_written : (words old new : List ℕ) → IsWritten words old new → IsWritten words new new
as_written words old new written = record { sized = written.sized; range = written.range; image = written.image; rest = refl }

-- no element is there, so the list ends before it
pub past_end : {X : Type 0} (xs : List X) (k : ℕ) → slice_get xs k ≡ None → length xs ≤ k
past_end xs k is = elim (slice_get_cases xs k).1 [
  | inl found ↦ absurd (let no : Some found.0 ≡ None = sym found.2 ∙ is in cc)
  | inr past ↦ past.0
]
