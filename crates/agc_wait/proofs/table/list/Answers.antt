use Rattle.std.proofs.Common.{◌≢◌, ◌≤◌, ◌<◌, ◌+◌, ◌∙◌, length, arith}
use Rattle.std.proofs.lemmas.Grind.{common_steps}
use Rattle.agc_word.specs.Layout as layout
use Rattle.agc_word.specs.Layout.{IsSized}
use Rattle.agc_wait.specs.Table.{waits_of, at_in}
use Rattle.agc_wait.proofs.Tables.{Carries-lawful}
use Rattle.agc_wait.proofs.Writes.{same_size, after_set}
use Rattle.agc_wait.proofs.Spots.{Carries-occupied, spot-after, spot-before, spot-small, few_wait}
use Rattle.agc_wait.proofs.Putting.{Stands, stands-by, Puts}
use Rattle.agc_wait.proofs.Listing.{lists-full, lists-by}
use Rattle.agc_wait.proofs.table.list.Goals as goal
use Rattle.agc_wait.proofs.table.list.Goals.{After-set}

pub returns-then-bits-ne0 : goal.returns-then-bits-ne0
returns-then-bits-ne0 c =
    let ne : at_in c.args.e.now 8 ≢ 0 = grind (arith, common_steps) in
    lists-full c.args.delay c.args.task c.args.e.now c.requires
    (Carries-occupied c.args.e.now (waits_of c.args.e.now) (Carries-lawful c.args.e.now c.requires) 8 (omega arith) ne)

pub spot_for-spot-requires-clause-room : goal.spot_for-spot-requires-clause-room
spot_for-spot-requires-clause-room c = few_wait c.args.e.now c.bits.result c.requires (c.bits.ensures.value ∙ c.get.ensures.value) c.if-bits-ne0.false

pub is_occupied-is_before-requires : goal.is_occupied-is_before-requires
is_occupied-is_before-requires c =
    let few : length (waits_of c.args.e.now) ≤ 8 = few_wait c.args.e.now c.bits.result c.requires (c.bits.ensures.value ∙ c.get.ensures.value) c.if-bits-ne0.false in
    spot-small c.args.e.now c.get-distance.result c.spot_for-spot.result.place c.spot_for-spot.result.before c.spot_for-spot.result.after few c.spot_for-spot.ensures

pub put_task-requires : goal.put_task-requires
put_task-requires c =
    let few : length (waits_of c.args.e.now) ≤ 8 = few_wait c.args.e.now c.bits.result c.requires (c.bits.ensures.value ∙ c.get.ensures.value) c.if-bits-ne0.false in
    spot-small c.args.e.now c.get-distance.result c.spot_for-spot.result.place c.spot_for-spot.result.before c.spot_for-spot.result.after few c.spot_for-spot.ensures

pub put_gap-requires-clause-room : goal.put_gap-requires-clause-room
put_gap-requires-clause-room c is =
    let few : length (waits_of c.args.e.now) ≤ 8 = few_wait c.args.e.now c.bits.result c.requires (c.bits.ensures.value ∙ c.get.ensures.value) c.if-bits-ne0.false in
    let small : c.spot_for-spot.result.place ≤ 8 =
    spot-small c.args.e.now c.get-distance.result c.spot_for-spot.result.place c.spot_for-spot.result.before c.spot_for-spot.result.after few c.spot_for-spot.ensures in
    let stands : Stands c.args.e.now c.spot_for-spot.result.place c.is_occupied-is_before.result =
    stands-by c.args.e.now c.spot_for-spot.result.place c.is_occupied-is_before.result c.requires small c.is_occupied-is_before.ensures in
    let within : c.spot_for-spot.result.place < length (waits_of c.args.e.now) = stands.some is in
    omega arith

pub put_gap-requires-clause-rises : goal.put_gap-requires-clause-rises
put_gap-requires-clause-rises c is =
    let few : length (waits_of c.args.e.now) ≤ 8 = few_wait c.args.e.now c.bits.result c.requires (c.bits.ensures.value ∙ c.get.ensures.value) c.if-bits-ne0.false in
    let small : c.spot_for-spot.result.place ≤ 8 =
    spot-small c.args.e.now c.get-distance.result c.spot_for-spot.result.place c.spot_for-spot.result.before c.spot_for-spot.result.after few c.spot_for-spot.ensures in
    let stands : Stands c.args.e.now c.spot_for-spot.result.place c.is_occupied-is_before.result =
    stands-by c.args.e.now c.spot_for-spot.result.place c.is_occupied-is_before.result c.requires small c.is_occupied-is_before.ensures in
    spot-after c.args.e.now (waits_of c.args.e.now) c.get-distance.result c.spot_for-spot.result.place c.spot_for-spot.result.before c.spot_for-spot.result.after
    (Carries-lawful c.args.e.now c.requires) c.spot_for-spot.ensures (stands.some is)

pub overflow_add-spot : goal.overflow_add-spot
overflow_add-spot c =
    let few : length (waits_of c.args.e.now) ≤ 8 = few_wait c.args.e.now c.bits.result c.requires (c.bits.ensures.value ∙ c.get.ensures.value) c.if-bits-ne0.false in
    let small : c.spot_for-spot.result.place ≤ 8 =
    spot-small c.args.e.now c.get-distance.result c.spot_for-spot.result.place c.spot_for-spot.result.before c.spot_for-spot.result.after few c.spot_for-spot.ensures in
    omega arith

pub set-requires : goal.set-requires
set-requires c =
    let few : length (waits_of c.args.e.now) ≤ 8 = few_wait c.args.e.now c.bits.result c.requires (c.bits.ensures.value ∙ c.get.ensures.value) c.if-bits-ne0.false in
    let small : c.spot_for-spot.result.place ≤ 8 =
    spot-small c.args.e.now c.get-distance.result c.spot_for-spot.result.place c.spot_for-spot.result.before c.spot_for-spot.result.after few c.spot_for-spot.ensures in
    omega arith

pub word_before-requires-clause-rises : goal.word_before-requires-clause-rises
word_before-requires-clause-rises c =
    spot-before (waits_of c.args.e.now) c.get-distance.result c.spot_for-spot.result.place c.spot_for-spot.result.before c.spot_for-spot.result.after c.spot_for-spot.ensures

puts : (c : After-set) → Puts c.args.e.now c.put_task.new.e c.put_gap.new.e c.set.new.self c.args.task c.spot_for-spot.result.place c.is_occupied-is_before.result c.get-distance.result c.spot_for-spot.result.before c.spot_for-spot.result.after
puts c =
    let few : length (waits_of c.args.e.now) ≤ 8 = few_wait c.args.e.now c.bits.result c.requires (c.bits.ensures.value ∙ c.get.ensures.value) c.if-bits-ne0.false in
    let small : c.spot_for-spot.result.place ≤ 8 =
    spot-small c.args.e.now c.get-distance.result c.spot_for-spot.result.place c.spot_for-spot.result.before c.spot_for-spot.result.after few c.spot_for-spot.ensures in
    record {
      by_task = c.put_task.ensures.put;
      by_gap = c.put_gap.ensures.put;
      by_lead = after_set _ _ (layout.time3 + c.spot_for-spot.result.place) _ _ c.set.ensures.value c.word_before.ensures c.set.ensures.all (omega arith);
    }

pub returns : goal.returns
returns c =
    let few : length (waits_of c.args.e.now) ≤ 8 = few_wait c.args.e.now c.bits.result c.requires (c.bits.ensures.value ∙ c.get.ensures.value) c.if-bits-ne0.false in
    let small : c.spot_for-spot.result.place ≤ 8 =
    spot-small c.args.e.now c.get-distance.result c.spot_for-spot.result.place c.spot_for-spot.result.before c.spot_for-spot.result.after few c.spot_for-spot.ensures in
    let stands : Stands c.args.e.now c.spot_for-spot.result.place c.is_occupied-is_before.result =
    stands-by c.args.e.now c.spot_for-spot.result.place c.is_occupied-is_before.result c.requires small c.is_occupied-is_before.ensures in
    lists-by c.args.delay c.get-distance.result c.args.task c.args.e.now c.put_task.new.e c.put_gap.new.e c.set.new.self c.spot_for-spot.result.place c.is_occupied-is_before.result
    c.spot_for-spot.result.before c.spot_for-spot.result.after c.get-distance.ensures.value c.get-distance.ensures.range c.requires few stands c.spot_for-spot.ensures
    c.put_task.ensures.low c.put_task.ensures.high c.put_task.ensures.word (puts c) (same_size _ _ _ _ c.set.ensures.value ∙ c.put_gap.ensures.all ∙ c.put_task.ensures.all)
