use Rattle.std.proofs.Common.{◌≡◌, ◌≤◌, length, sym, ap, ◌∙◌, arith}
use Rattle.std.proofs.lemmas.List.{ext_get_or}
use Rattle.agc_word.specs.Layout.{IsSized, sets_in}
use Rattle.agc_word.specs.Profiles.{count_of}
use Rattle.agc_machine.proofs.moment.copy_of.Goals as goal
use Rattle.agc_machine.proofs.moment.copy_of.Goals.{in-Seven, in-Eight}

pub returns : goal.returns
returns c =
    let sized : IsSized c.args.e.now = c.sets-sets.ensures.all in
    let far : length c.loop-place.copy ≤ c.loop-place.place = elim c.match-sets.branch [
      | in-Seven w ↦ let seven : sets_in c.args.e.now ≡ 7 = sym c.sets-sets.ensures.count ∙ ap count_of w.in-Seven.is in omega (arith, w.places-is, sized, c.loop-place.invariant.same_length, c.loop-place-test.false)
      | in-Eight w ↦ let eight : sets_in c.args.e.now ≡ 8 = sym c.sets-sets.ensures.count ∙ ap count_of w.in-Eight.is in omega (arith, w.places-is, sized, c.loop-place.invariant.same_length, c.loop-place-test.false)
    ] in
    ext_get_or 0 c.loop-place.copy c.args.e.now c.loop-place.invariant.same_length (λ i lt. c.loop-place.invariant.before i (omega arith))
