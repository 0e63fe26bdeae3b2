use Rattle.std.proofs.Common.{refl}
use Rattle.std.specs.Prelude.{IsSome}
use Rattle.agc_word.specs.Layout.{OutsideCores}
use Rattle.agc_word.proofs.Keeping.{kept}
use Rattle.agc_plan.specs.Jobs.{least_unused}
use Rattle.agc_exec.specs.Image.{sets_of}
use Rattle.agc_exec.specs.Sets.{slots_of}
use Rattle.agc_exec.proofs.Freeing.{first_free}
use Rattle.agc_exec.proofs.establish.establish.Goals as goal

pub admit-requires-clause-free : goal.admit-requires-clause-free
admit-requires-clause-free c =
    let room : IsSome (least_unused 1 (slots_of (sets_of c.args.e.now))) = rw (← c.in-Some.ensures) refl in
    let (lt, free, first) = first_free c.args.e.now c.mark_used-k.result c.requires.lawful.sets.sized c.requires.lawful.sets.standing.lawful c.mark_used-k.ensures.free room in
    (lt, free)

pub admit-requires-clause-first : goal.admit-requires-clause-first
admit-requires-clause-first c =
    let room : IsSome (least_unused 1 (slots_of (sets_of c.args.e.now))) = rw (← c.in-Some.ensures) refl in
    let (lt, free, first) = first_free c.args.e.now c.mark_used-k.result c.requires.lawful.sets.sized c.requires.lawful.sets.standing.lawful c.mark_used-k.ensures.free room in
    first

pub returns-in-None : goal.returns-in-None
returns-in-None c = rw (← c.in-None.ensures) (record { lawful = c.requires.lawful; outcome_is = refl; placed = refl; words = refl; tidy = λ t. t; others = kept OutsideCores c.args.e.now })

pub returns-in-Some : goal.returns-in-Some
returns-in-Some c = c.admit.ensures
