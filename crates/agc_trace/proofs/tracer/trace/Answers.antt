use Rattle.std.proofs.Common.{subst}
use Rattle.agc_run.specs.Subjects.{machine_of, requests_of}
use Rattle.agc_run.proofs.Following.{asked_on, its_requests}
use Rattle.agc_trace.specs.Shown.{EndsIn}
use Rattle.agc_trace.proofs.tracer.trace.Goals as goal

pub returns : goal.returns
returns g c =
    subst (λ end. EndsIn end (g.W.Write.contents c.args.writer.now) (g.W.Write.contents c.show.new.writer) c.show.result)
    (asked_on _ _ (machine_of c.args.subject) (requests_of c.args.subject) c.in_ok-run.ensures.watched (its_requests c.args.subject _ c.in_ok-run.ensures.pending))
    c.show.ensures
