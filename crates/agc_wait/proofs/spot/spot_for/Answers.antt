use Rattle.std.proofs.Common.{◌≡◌, ◌≢◌, ◌≤◌, ◌∙◌, refl, ap, arith}
use Rattle.agc_wait.specs.Table.{waits_of, at_in, gap_of, lst1, time3}
use Rattle.agc_wait.specs.Parts.{distance_of}
use Rattle.agc_wait.proofs.Tables.{Carries-lawful}
use Rattle.agc_wait.proofs.Spots.{none_there, walked-start, walked-end, walked-here, walked-more, walked-near, walked-gap, Carries-occupied}
use Rattle.agc_wait.proofs.spot.spot_for.Goals as goal

pub returns-then-not-is_occupied : goal.returns-then-not-is_occupied
returns-then-not-is_occupied c =
    let e : at_in c.args.e.now c.loop-place.place ≡ 0 = none_there (at_in c.args.e.now c.loop-place.place) c.if-not-is_occupied.ensures.1 in
    walked-end c.args.e.now (waits_of c.args.e.now) c.args.distance c.loop-place.place c.loop-place.before c.loop-place.here (Carries-lawful c.args.e.now c.requires.lawful) c.loop-place.invariant c.loop-place-test.true e

pub returns-then-distance-here : goal.returns-then-distance-here
returns-then-distance-here c =
    let there : 1 ≤ at_in c.args.e.now c.loop-place.place = c.if-not-is_occupied.ensures.0 refl in
    let ne : at_in c.args.e.now c.loop-place.place ≢ 0 = λ e. omega arith in
    walked-here c.args.e.now (waits_of c.args.e.now) c.args.distance c.loop-place.place c.loop-place.before c.loop-place.here (Carries-lawful c.args.e.now c.requires.lawful) c.loop-place.invariant c.loop-place-test.true ne c.if-distance-here.true

pub overflow_add-here : goal.overflow_add-here
overflow_add-here c =
    let there : 1 ≤ at_in c.args.e.now c.loop-place.place = c.if-not-is_occupied.ensures.0 refl in
    let ne : at_in c.args.e.now c.loop-place.place ≢ 0 = λ e. omega arith in
    let near : c.loop-place.here ≤ 16250 = walked-near c.args.e.now (waits_of c.args.e.now) c.args.distance c.loop-place.place c.loop-place.before c.loop-place.here (Carries-lawful c.args.e.now c.requires.lawful) c.loop-place.invariant c.loop-place-test.true ne in
    omega arith

pub written_gap-here-requires : goal.written_gap-here-requires
written_gap-here-requires c =
    let there : 1 ≤ at_in c.args.e.now c.loop-place.place = c.if-not-is_occupied.ensures.0 refl in
    let ne : at_in c.args.e.now c.loop-place.place ≢ 0 = λ e. omega arith in
    rw (c.get-in-loop-place.ensures.value) (walked-gap c.args.e.now (waits_of c.args.e.now) (Carries-lawful c.args.e.now c.requires.lawful) c.requires.room c.loop-place.place
    (Carries-occupied c.args.e.now (waits_of c.args.e.now) (Carries-lawful c.args.e.now c.requires.lawful) c.loop-place.place c.loop-place-test.true ne))

pub loop-place-preserved : goal.loop-place-preserved
loop-place-preserved c =
    let there : 1 ≤ at_in c.args.e.now c.loop-place.place = c.if-not-is_occupied.ensures.0 refl in
    let ne : at_in c.args.e.now c.loop-place.place ≢ 0 = λ e. omega arith in
    let gap : c.written_gap-here.result ≡ gap_of (lst1 c.args.e.now c.loop-place.place) = c.written_gap-here.ensures.value ∙ ap gap_of c.get-in-loop-place.ensures.value in
    rw gap (walked-more c.args.e.now (waits_of c.args.e.now) c.args.distance c.loop-place.place c.loop-place.before c.loop-place.here (Carries-lawful c.args.e.now c.requires.lawful) c.loop-place.invariant c.loop-place-test.true ne c.if-distance-here.false)

pub loop-place-init : goal.loop-place-init
loop-place-init c =
    let here : c.distance_of-here.result ≡ distance_of (time3 c.args.e.now) = c.distance_of-here.ensures ∙ ap distance_of c.get.ensures.value in
    rw here (walked-start c.args.e.now (waits_of c.args.e.now) c.args.distance (Carries-lawful c.args.e.now c.requires.lawful))
