use Rattle.std.proofs.Common.{◌≡◌, length, map, take}
use Rattle.std.specs.List.{All}
use Rattle.agc_check.specs.Findings.{IsFindingOf, message_of}
use Rattle.agc_check.proofs.finding.findings_at.Given as goal

abbrev pub invariant-loop-note : goal.invariant-loop-note
invariant-loop-note g l = record {
  all : All (IsFindingOf l.document g.N.Note.fault) l.found.items;
  length : length l.found.items ≡ l.note-index;
  says : map message_of l.found.items ≡ map g.N.Note.says (take l.note-index l.notes);
}
