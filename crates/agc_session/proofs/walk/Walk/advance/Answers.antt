use Rattle.std.proofs.Common.{arith, refl}
use Rattle.agc_session.proofs.Pieces.{at_here, at_script}
use Rattle.agc_session.proofs.walk.Walk.advance.Goals as goal

pub returns-then-self-gt0 : goal.returns-then-self-gt0
returns-then-self-gt0 c = rw (← c.self.view_is) (at_here _ c.if-self-gt0.true)

pub returns-then-not-self : goal.returns-then-not-self
returns-then-not-self c =
    rw (← c.self.view_is) (at_script _ c.self.inside.script.now (omega arith) c.if-not-self.true refl)
