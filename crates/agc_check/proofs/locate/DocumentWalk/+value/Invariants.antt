use denote.Shadow.{shadow}
use denote.Text.{Utf8}
use Rattle.agc_check.proofs.locate.DocumentWalk.+value.Given as goal

abbrev pub invariant-loop-number : goal.invariant-loop-number
invariant-loop-number l = shadow (Utf8 l.rest)

abbrev pub decreases-value : goal.decreases-value
decreases-value l = l.deepest
