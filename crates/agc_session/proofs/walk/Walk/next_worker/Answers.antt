use Rattle.std.proofs.Common.{ap, ◌∙◌, refl}
use Rattle.agc_session.specs.Pieces.{Walked}
use Rattle.agc_session.proofs.Pieces.{at_worker}
use Rattle.agc_session.proofs.walk.Walk.next_worker.Goals as goal

pub returns-then-self-workers-clause-some : goal.returns-then-self-workers-clause-some
returns-then-self-workers-clause-some c _ =
    rw (← c.self.view_is)
    (at_worker (λ w. w.items) _ c.self.inside.workers.now c.index-workers-self.result c.as_slice-self-inside.result.now refl
    (ap (λ (w : Walked). w.left) c.self.view_is ∙ c.requires.left) (ap (λ (w : Walked). w.begun) c.self.view_is ∙ c.requires.begun)
    c.if-self-workers.true c.index-workers-self.is c.as_slice-self-inside.ensures.value)
