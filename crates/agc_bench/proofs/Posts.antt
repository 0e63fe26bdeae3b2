-- What a device posts, one pulse after another.
use Rattle.std.proofs.Common.{ℕ}
use Rattle.atomic_table.specs.Seated.{TableId}
use Rattle.agc_plan.specs.declared.line.Line.{Line}
use Rattle.agc_latch.specs.Ends.{Posting}
use Rattle.agc_latch.specs.Lines.{raised, zeros}
use Rattle.agc_plan.specs.Pulses.{word_of}

-- a device that may post so many pulses and posted n of them on one line
abbrev pub posted_so_far : TableId → Line → ℕ → ℕ → Posting
posted_so_far latch line posts n = record { latch = latch; posts = posts; posted = raised (word_of line) n zeros }
