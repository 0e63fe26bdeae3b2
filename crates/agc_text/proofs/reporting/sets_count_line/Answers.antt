use Rattle.std.proofs.Common.{codes, refl, arith}
use Rattle.agc_text.proofs.Digits.{numbered}
use Rattle.agc_text.proofs.reporting.sets_count_line.Goals as goal

pub returns-in-Eight : goal.returns-in-Eight
returns-in-Eight c = rw c.in-Eight.is (numbered (codes "SETS ") 8 8 (omega arith) refl)
