use Rattle.std.proofs.Common.{drop}
use Rattle.std.specs.List.{flat_map, range_with_len}
use Rattle.agc_text.specs.Writing.{AppendsUpTo}
use Rattle.agc_text.specs.Report.{set_line, sets_text}
use Rattle.agc_text.proofs.reporting.put_sets.Given as goal

abbrev pub invariant-loop-set : goal.invariant-loop-set
invariant-loop-set g l = AppendsUpTo (g.W.Write.contents l.initial.writer) (g.W.Write.contents l.writer) (sets_text l.sets l.words) (flat_map (set_line l.words) (drop l.set (range_with_len 0 l.sets)))
