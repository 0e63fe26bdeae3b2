use Rattle.std.proofs.Common.{◌≡◌, ◌≤◌, length}
use Rattle.std.specs.Io.KnownBytes.{Consumes}
use Rattle.agc_text.specs.declared.input.TheConstants.{MOST_BYTES}
use Rattle.agc_text.specs.Input.{most_at_once}
use Rattle.agc_text.proofs.input.read_bytes.Given as goal

abbrev pub invariant-loop : goal.invariant-loop
invariant-loop g l = record {
  read : Consumes (g.R.Read.remaining l.initial.reader) (g.R.Read.remaining l.reader) l.bytes.items;
  fits : length l.bytes.items ≤ MOST_BYTES;
  counted : l.counter ≤ length l.bytes.items;
  made : l.reads.made ≡ l.counter;
  room : length l.piece ≡ most_at_once;
}
