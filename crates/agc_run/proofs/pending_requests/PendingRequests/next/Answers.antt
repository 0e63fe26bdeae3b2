use Rattle.std.proofs.Common.{◌∙◌, ap, sym}
use Rattle.agc_exec.specs.Image.{jobs_in}
use Rattle.agc_run.specs.Runs.{Pending}
use Rattle.agc_run.proofs.Elapsing.{no_time}
use Rattle.agc_run.proofs.Passing.{listed_pulled, listed_over}
use Rattle.agc_run.proofs.pending_requests.PendingRequests.next.Goals as goal

pub returns-in-Some-clause-pulls : goal.returns-in-Some-clause-pulls
returns-in-Some-clause-pulls c m jobs =
    rw (← c.self.view_is) (listed_pulled m c.self.inside.listed c.next.new.self _ c.self.inside.alarms c.self.inside.clock c.in-Some.pending c.in-Some.ensures.untimed c.in-Some.ensures.next)

pub returns-in-Some-clause-elapsed : goal.returns-in-Some-clause-elapsed
returns-in-Some-clause-elapsed c =
    let old : Pending = c.args.self.now in
    c.none.ensures ∙ no_time old.timing (jobs_in c.args.words.now) old.alarms old.clock c.self.inside.clock (ap (λ (r : Pending). r.clock) c.self.view_is)

pub returns-in-None-clause-pulls : goal.returns-in-None-clause-pulls
returns-in-None-clause-pulls c m jobs =
    rw (← c.self.view_is) (listed_over m c.self.inside.listed c.next.new.self _ c.self.inside.alarms c.self.inside.clock c.next_in_time.result.0 c.next_in_time.new.self (c.in-None.ensures.next.0 ∙ sym c.in-None.ensures.next.1) (c.next_in_time.ensures.pulls m jobs))

pub returns-in-None-clause-elapsed : goal.returns-in-None-clause-elapsed
returns-in-None-clause-elapsed c = rw (← c.self.view_is) c.next_in_time.ensures.elapsed
