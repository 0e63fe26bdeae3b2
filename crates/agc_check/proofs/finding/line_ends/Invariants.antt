use Rattle.std.proofs.Common.{◌≡◌, ◌+◌, ◌≤◌, drop}
use Rattle.agc_check.specs.Findings.{line_ends}
use Rattle.agc_check.proofs.finding.line_ends.Given as goal

abbrev pub invariant-loop-byte : goal.invariant-loop-byte
invariant-loop-byte l = record {
  few : l.count ≤ l.byte-index;
  text : l.count + line_ends (drop l.byte-index l.text) ≡ line_ends l.text;
}
