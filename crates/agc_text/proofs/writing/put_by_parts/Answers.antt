use Rattle.agc_text.proofs.Steps.{up_to_drop}
use Rattle.agc_text.proofs.writing.put_by_parts.Goals as goal

pub loop-rest-preserved : goal.loop-rest-preserved
loop-rest-preserved g c = rw c.split_at.ensures.back (up_to_drop _ _ _ c.args.bytes.now c.loop-rest.rest.now c.in-Ok.taken c.loop-rest.invariant c.in-Ok.ensures.bytes)
