use Rattle.std.proofs.Common.{◌≡◌, ◌+◌, ◌*◌, ◌≤◌, ◌++◌, length, take}
use Rattle.std.specs.List.{flat_map}
use Rattle.agc_text.specs.Replies.{fired_text}
use Rattle.agc_text.proofs.replies.add_tasks.Given as goal

abbrev pub invariant-loop-index : goal.invariant-loop-index
invariant-loop-index l = record {
  text : l.line.items ≡ l.initial.line.items ++ flat_map fired_text (take l.index l.fired);
  len : length l.line.items ≡ length l.initial.line.items + 12 * l.index;
  end : l.index-end ≡ length l.fired;
  nine : l.index-end ≤ 9;
}
