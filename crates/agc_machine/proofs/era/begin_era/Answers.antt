use Rattle.std.proofs.Common.{List, ℕ, ◌∙◌, sym, subst}
use Rattle.agc_plan.specs.Base.{Base}
use Rattle.agc_plan.specs.Groups.{begun_from, places_from}
use Rattle.agc_plan.proofs.Groups.{begun_is, era_places_is}
use Rattle.agc_phase.specs.Image.{base_of}
use Rattle.agc_word.specs.Layout.{sets_in}
use Rattle.agc_plan.specs.Eras.{Work, no_work}
use Rattle.agc_plan.specs.Plans.{Planned, planned_with}
use Rattle.agc_plan.specs.Seats.{era_places}
use Rattle.agc_plan.specs.Groups.{no_places}
use Rattle.agc_machine.specs.Stands.{Stands, BeginsGroups}
use Rattle.agc_machine.proofs.Beginning.{Cleared, cleared, same_sets}
use Rattle.agc_machine.proofs.era.begin_era.Goals as goal

pub begin_groups-requires-clause-clear : goal.begin_groups-requires-clause-clear
begin_groups-requires-clause-clear g c =
    let start : Cleared c.args.e.now c.clear-2.new.e = cleared c.args.e.now c.clear.new.e c.clear-2.new.e c.requires c.clear.ensures.clears c.clear-2.ensures in
    subst (λ (n : ℕ). Stands c.clear-2.new.e (no_work n) (no_places n)) (sym (same_sets c.args.e.now c.clear-2.new.e start.same_length)) start.clear

pub begin_groups-requires-clause-sound : goal.begin_groups-requires-clause-sound
begin_groups-requires-clause-sound g c =
    (cleared c.args.e.now c.clear.new.e c.clear-2.new.e c.requires c.clear.ensures.clears c.clear-2.ensures).sound

pub returns : goal.returns
returns g c =
    let start : Cleared c.args.e.now c.clear-2.new.e = cleared c.args.e.now c.clear.new.e c.clear-2.new.e c.requires c.clear.ensures.clears c.clear-2.ensures in
    let groups : BeginsGroups (planned_with (g.P.Plans.written c.args.plan.now) (sets_in c.args.e.now)) c.phases-phases.result c.clear-2.new.e c.begin_groups.new.e = subst (λ (n : ℕ). BeginsGroups (planned_with (g.P.Plans.written c.args.plan.now) n) c.phases-phases.result c.clear-2.new.e c.begin_groups.new.e) (same_sets c.args.e.now c.clear-2.new.e start.same_length) c.begin_groups.ensures in
    record {
      ready = record { sound = groups.sound; none_due = groups.same_due ∙ start.none_due };
      same_length = groups.same_length ∙ start.same_length;
      same_base = groups.same_base ∙ start.same_base;
      stands =
          let plan : Planned = planned_with (g.P.Plans.written c.args.plan.now) (sets_in c.args.e.now) in
          let base : Base = base_of c.args.e.now in
          let by_groups : Stands c.begin_groups.new.e (begun_from plan.entries 1 base.phases (no_work plan.sets)) (places_from plan.entries 1 base.phases (no_work plan.sets) (no_places plan.sets)) =
          subst (λ (phases : List ℕ). Stands c.begin_groups.new.e (begun_from plan.entries 1 phases (no_work plan.sets)) (places_from plan.entries 1 phases (no_work plan.sets) (no_places plan.sets))) c.phases-phases.ensures groups.stands in
          subst (λ (work : Work). Stands c.begin_groups.new.e work (era_places plan base)) (sym (begun_is plan base.phases))
          (subst (λ (places : List ℕ). Stands c.begin_groups.new.e (begun_from plan.entries 1 base.phases (no_work plan.sets)) places) (sym (era_places_is plan base)) by_groups);
    }
