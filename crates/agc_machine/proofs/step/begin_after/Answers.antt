use Rattle.std.proofs.Common.{◌≡◌, ℕ, length, sym, ◌∙◌, subst}
use Rattle.agc_word.specs.Layout.{sets_in}
use Rattle.agc_plan.specs.Base.{Base}
use Rattle.agc_plan.specs.Steps.{begun}
use Rattle.agc_plan.specs.Plans.{planned_with}
use Rattle.agc_plan.specs.Seats.{era_places}
use Rattle.agc_machine.specs.Stands.{Stands, BeginsEra}
use Rattle.agc_machine.proofs.Beginning.{same_sets}
use Rattle.agc_machine.proofs.step.begin_after.Goals as goal

pub returns : goal.returns
returns g c =
    let same : length c.note_alarm.new.e ≡ length c.args.e.now = c.note_alarm.ensures.others.same_length in
    let era : BeginsEra (planned_with (g.P.Plans.written c.args.plan.now) (sets_in c.args.e.now)) c.note_alarm.new.e c.begin_era.new.e = subst (λ (n : ℕ). BeginsEra (planned_with (g.P.Plans.written c.args.plan.now) n) c.note_alarm.new.e c.begin_era.new.e) (same_sets c.args.e.now c.note_alarm.new.e same) c.begin_era.ensures in
    record {
      ready = era.ready;
      same_length = era.same_length ∙ same;
      base_is = era.same_base ∙ c.note_alarm.ensures.base_is;
      stands = subst (λ (b : Base). Stands c.begin_era.new.e (begun (planned_with (g.P.Plans.written c.args.plan.now) (sets_in c.args.e.now)) b.phases) (era_places (planned_with (g.P.Plans.written c.args.plan.now) (sets_in c.args.e.now)) b)) (sym era.same_base) era.stands;
    }
