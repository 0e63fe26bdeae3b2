use Rattle.std.proofs.Common.{◌-◌, ◌≡◌, ◌≤◌, ◌∙◌, ap, arith, refl}
use Rattle.agc_word.specs.Layout as layout
use Rattle.agc_word.specs.Layout.{IsSized}
use Rattle.agc_wait.specs.Table.{waits_of, at_in, lst1, gap_of}
use Rattle.agc_wait.proofs.Tables.{Carries-lawful}
use Rattle.agc_wait.proofs.Taking.{IsFirstDue, Takes, first-due, dispatches}
use Rattle.agc_wait.proofs.Writes.{same_size, after_set}
use Rattle.agc_wait.proofs.table.dispatch.Goals as goal
use Rattle.agc_wait.proofs.table.dispatch.Goals.{After-set-4}

pub first_task-task-requires-clause-low : goal.first_task-task-requires-clause-low
first_task-task-requires-clause-low c =
    (first-due c.args.e.now (waits_of c.args.e.now) (Carries-lawful c.args.e.now c.requires.lawful) c.requires.due).low

pub next_counter-counter-requires : goal.next_counter-counter-requires
next_counter-counter-requires c some =
    let first : IsFirstDue c.args.e.now = first-due c.args.e.now (waits_of c.args.e.now) (Carries-lawful c.args.e.now c.requires.lawful) c.requires.due in
    let at : c.get.result ≡ at_in c.args.e.now 1 = c.get.ensures.value in
    let gap : gap_of c.get-2.result ≡ gap_of (lst1 c.args.e.now 0) = ap gap_of c.get-2.ensures.value in
    let near : gap_of (lst1 c.args.e.now 0) ≤ 16250 = first.near (omega arith) in
    omega arith

by : (c : After-set-4) → Takes c.args.e.now c.set.new.self c.move_up.new.e c.set-2.new.self c.move_up-2.new.e c.set-3.new.self c.set-4.new.self c.next_counter-counter.result
by c = record {
  counter = after_set _ _ layout.time3 _ _ c.set.ensures.value refl c.set.ensures.all (omega arith);
  gaps = c.move_up.ensures.moved;
  last_gap = after_set _ _ (layout.lst2 - 1) _ _ c.set-2.ensures.value c.of_bits.ensures c.set-2.ensures.all (omega arith);
  pairs = c.move_up-2.ensures.moved;
  last_at = after_set _ _ (layout.phase_words - 2) _ _ c.set-3.ensures.value c.zero.ensures c.set-3.ensures.all (omega arith);
  last_bank = after_set _ _ (layout.phase_words - 1) _ _ c.set-4.ensures.value c.zero-2.ensures c.set-4.ensures.all (omega arith);
}

pub returns : goal.returns
returns c =
    let at : c.get.result ≡ at_in c.args.e.now 1 = c.get.ensures.value in
    let gap : c.get-2.result ≡ lst1 c.args.e.now 0 = c.get-2.ensures.value in
    dispatches c.args.e.now _ _ _ _ _ c.set-4.new.self _ c.first_task-task.result c.requires.lawful c.requires.due (by c)
    (c.next_counter-counter.ensures ∙ rw (at, gap) refl) c.first_task-task.ensures (same_size _ _ _ _ c.set-4.ensures.value ∙ same_size _ _ _ _ c.set-3.ensures.value ∙ c.move_up-2.ensures.all ∙ same_size _ _ _ _ c.set-2.ensures.value ∙ c.move_up.ensures.all ∙ same_size _ _ _ _ c.set.ensures.value)
