-- An era that began in an image, which was written back.
use Rattle.std.proofs.Common.{◌≡◌, ◌↔◌, IsTrue, ℕ, Bool, List, [], length, ap, sym, subst, ◌∙◌}
use Rattle.agc_word.specs.Layout.{sets_in}
use Rattle.agc_word.specs.Profiles.{count_of, size_of}
use Rattle.agc_word.specs.declared.sets.Sets.{Sets}
use Rattle.agc_plan.specs.Base.{Base}
use Rattle.agc_plan.specs.Plans.{planned_with}
use Rattle.agc_plan.specs.Seats.{era_places}
use Rattle.agc_plan.specs.Steps.{begun}
use Rattle.agc_phase.specs.Image.{ArePairs, Becomes, base_of}
use Rattle.libagc.specs.declared.plans.AgcPhaseEntry.{AgcPhaseEntry}
use Rattle.agc_image.specs.Images.{IsSets, IsOpened, IsWritten, Changed, size_with, image_of, behind}
use Rattle.libagc.specs.Plans.{plan_from_c}
use Rattle.agc_image.proofs.Frames.{changed, sets_of_size}
use Rattle.agc_phase.specs.Image.{power_base}
use Rattle.agc_machine.specs.Stands.{BeginsEra, Stands}
use Rattle.agc_machine.proofs.Beginning.{same_sets}
use Rattle.libagc.specs.Stepping.{plan_for, base_after, BeginsWith, Begins, PowersUp, power_number}
use Rattle.libagc.proofs.Stepping.{lawful_of}

begun_with : (entries : List AgcPhaseEntry) (base : Base) (mid new : List ℕ) → base_of mid ≡ base → BeginsEra (plan_for [] entries mid) mid new → BeginsWith entries base new
begun_with entries base mid new is begins =
    let count : sets_in mid ≡ sets_in new = sym (same_sets mid new begins.same_length) in
    record {
      ready = begins.ready;
      base_is = begins.same_base ∙ is;
      stands = subst (λ (b : Base). Stands new (begun (plan_for [] entries new) b.phases) (era_places (plan_for [] entries new) b)) is
          (subst (λ (n : ℕ). Stands new (begun (planned_with (plan_from_c [] entries) n) (base_of mid).phases) (era_places (planned_with (plan_from_c [] entries) n) (base_of mid))) count begins.stands);
    }

pub era_begun : (entries : List AgcPhaseEntry) (alarm sets : ℕ) (old new words mid then : List ℕ) → IsSets sets → IsOpened sets old words → Becomes (base_after alarm (base_of words)) words mid → BeginsEra (plan_for [] entries mid) mid then → IsWritten then old new → Changed (Begins entries alarm) sets old new
era_begun entries alarm sets old new words mid then valid opened noted begins written =
    let same : length then ≡ length words = begins.same_length ∙ noted.others.same_length in
    changed (Begins entries alarm) sets old new words then valid opened
    (record { same_length = same; begins = begun_with entries (base_after alarm (base_of words)) mid then noted.base_is begins })
    same (lawful_of then begins.ready.sound) written

pub powered : (sets : ℕ) (count : Sets) (entries : List AgcPhaseEntry) (recovered : Bool) (phase_words old new words mid then : List ℕ) (number : ℕ) → IsSets sets → count_of count ≡ sets → length words ≡ size_of count → IsTrue recovered ↔ ArePairs phase_words → number ≡ power_number recovered → Becomes (power_base recovered phase_words) words mid → BeginsEra (plan_for [] entries mid) mid then → IsWritten then old new → PowersUp sets entries phase_words old new number
powered sets count entries recovered phase_words old new words mid then number valid same long agreed reply_to_c restored begins written =
    let last_count : sets_in then ≡ sets = sets_of_size sets then valid (begins.same_length ∙ restored.others.same_length ∙ long ∙ ap size_with same) in
    let is : image_of sets new ≡ then = subst (λ (n : ℕ). image_of n new ≡ then) last_count written.image in
    record {
      recovered = recovered;
      agreed = agreed;
      number_is = reply_to_c;
      image = record { count = valid; words = rw is written.range; lawful = rw is (lawful_of then begins.ready.sound) };
      begins = rw is (begun_with entries (power_base recovered phase_words) mid then restored.base_is begins);
      rest = subst (λ (n : ℕ). behind n new ≡ behind n old) last_count written.rest;
    }
