use Rattle.std.proofs.Common.{drop}
use Rattle.std.specs.List.{flat_map}
use Rattle.agc_text.specs.Writing.{AppendsUpTo}
use Rattle.agc_text.specs.Report.{full_line, lines_text}
use Rattle.agc_text.proofs.reporting.put_lines.Given as goal

abbrev pub invariant-loop-line : goal.invariant-loop-line
invariant-loop-line g l = AppendsUpTo (g.W.Write.contents l.initial.writer) (g.W.Write.contents l.writer) (lines_text l.words l.totals) (flat_map (full_line l.words l.totals) (drop l.line-index l.line-items))
