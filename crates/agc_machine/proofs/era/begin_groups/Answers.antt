use Rattle.std.proofs.Common.{◌≡◌, ◌+◌, refl, sym, ◌∙◌, arith}
use Rattle.agc_word.specs.Layout.{sets_in}
use Rattle.agc_plan.specs.Eras.{no_work}
use Rattle.agc_plan.specs.Groups.{group_begun, no_places}
use Rattle.agc_machine.specs.Stands.{places_group}
use Rattle.agc_machine.proofs.Beginning.{all_begun, one_more}
use Rattle.agc_machine.proofs.era.begin_groups.Goals as goal

pub loop-k-init : goal.loop-k-init
loop-k-init g c = record {
  stands = (no_work (sets_in c.args.e.now), no_places (sets_in c.args.e.now), c.requires.clear, refl, refl);
  sound = c.requires.sound;
  same_length = refl;
  same_base = refl;
  due = refl;
}

pub unwrap-group-requires : goal.unwrap-group-requires
unwrap-group-requires g c = c.new.ensures.valid.1 (omega arith, omega (arith, c.loop-k-test.true, c.requires.six))

pub loop-k-preserved : goal.loop-k-preserved
loop-k-preserved g c =
    let so_far = c.loop-k.invariant.stands in
    let group : c.unwrap-group.result ≡ c.loop-k.k + 1 = rw c.unwrap-group.ensures at c.new.ensures.value in
    let more = one_more (g.P.Plans.written c.args.plan.now).entries c.args.phases.now c.loop-k.k c.index-phases-k.result c.unwrap-group.result c.active.result so_far.0 so_far.1 c.loop-k-test.true c.index-phases-k.is group c.active.ensures in
    record {
      stands = (group_begun c.active.result so_far.0, places_group c.active.result so_far.0 so_far.1, c.begin_group.ensures.changes.stands so_far.0 so_far.1 so_far.2, sym more.works ∙ so_far.3, sym more.seats ∙ so_far.4);
      sound = c.begin_group.ensures.changes.sound;
      same_length = c.begin_group.ensures.changes.same_length ∙ c.loop-k.invariant.same_length;
      same_base = c.begin_group.ensures.changes.same_base ∙ c.loop-k.invariant.same_base;
      due = c.begin_group.ensures.due ∙ c.loop-k.invariant.due;
    }

pub returns : goal.returns
returns g c =
    let so_far = c.loop-k.invariant.stands in
    record {
      sound = c.loop-k.invariant.sound;
      same_length = c.loop-k.invariant.same_length;
      same_base = c.loop-k.invariant.same_base;
      same_due = c.loop-k.invariant.due;
      stands = all_begun (g.P.Plans.written c.args.plan.now).entries c.args.phases.now c.loop-k.k (c.loop-k.k + 1) c.loop-k.e so_far.0 _ so_far.1 _ c.loop-k-test.false so_far.2 so_far.3 so_far.4;
    }
