use Rattle.std.proofs.Common.{sym, ◌∙◌}
use Rattle.agc_text.proofs.Steps.{none_taken, none_kept, not_empty, rest_written}
use Rattle.agc_text.proofs.writing.put.Goals as goal

pub returns-then-taken-eq0 : goal.returns-then-taken-eq0
returns-then-taken-eq0 g c =
    none_taken _ _ c.args.bytes.now (not_empty _ (sym c.is_empty.ensures ∙ c.if-is_empty.false)) (rw c.if-taken-eq0.true at c.in-Ok.ensures.bytes)

pub returns-else-taken-eq0 : goal.returns-else-taken-eq0
returns-else-taken-eq0 g c =
    rest_written _ _ _ c.args.bytes.now c.in-Ok.taken _ c.in-Ok.ensures.bytes (rw c.split_at.ensures.back at c.put_by_parts.ensures)

pub returns-in-Err : goal.returns-in-Err
returns-in-Err g c =
    none_kept _ _ c.args.bytes.now (not_empty _ (sym c.is_empty.ensures ∙ c.if-is_empty.false)) c.in-Err.ensures.bytes
