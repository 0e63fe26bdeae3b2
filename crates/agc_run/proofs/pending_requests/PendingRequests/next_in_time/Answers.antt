use Rattle.std.proofs.Common.{◌≡◌, ◌∙◌, ap, refl, subst, sym, Option, Some, None, Bor, []}
use Rattle.std.specs.Option.{option_map}
use Rattle.agc_exec.specs.Image.{jobs_in}
use Rattle.agc_clock.specs.Clocks.{AsksNext}
use Rattle.agc_clock.specs.declared.asked.Asked.{Asked}
use Rattle.agc_scenario.specs.Scenarios.{Timed, schedule_of}
use Rattle.agc_run.specs.Runs.{Pending, all_to_ask}
use Rattle.agc_session.specs.Pieces.{rest}
use Rattle.agc_run.proofs.Passing.{untimed, time_over, time_pulled}
use Rattle.agc_run.proofs.pending_requests.PendingRequests.next_in_time.Goals as goal

pub returns-in-None-clause-pulls : goal.returns-in-None-clause-pulls
returns-in-None-clause-pulls c m jobs =
    let v = c.self.view_is in
    let none : option_map (λ (t : Bor Timed). t.now) c.self.inside.timing ≡ None = rw c.in-None.is refl in
    let over : rest c.self.inside.listed ≡ [] = ap (λ (r : Pending). rest r.listed) v ∙ c.requires.over in
    ap (all_to_ask m) (sym v) ∙ untimed m c.self.inside.listed _ c.self.inside.alarms c.self.inside.clock none over

pub returns-in-None-asked-clause-pulls : goal.returns-in-None-asked-clause-pulls
returns-in-None-asked-clause-pulls c m jobs =
    let v = c.self.view_is in
    let some : option_map (λ (t : Bor Timed). t.now) c.self.inside.timing ≡ Some c.in-Some.timing.now = rw c.in-Some.is refl in
    let over : rest c.self.inside.listed ≡ [] = ap (λ (r : Pending). rest r.listed) v ∙ c.requires.over in
    let table = schedule_of c.in-Some.timing.now c.self.inside.alarms in
    let asks : AsksNext table (jobs_in c.args.words.now) c.self.inside.clock None c.next-asked.new.self =
    subst (λ (a : Option Asked). AsksNext table (jobs_in c.args.words.now) c.self.inside.clock a c.next-asked.new.self) c.in-None-asked.is c.next-asked.ensures.next in
    ap (all_to_ask m) (sym v) ∙ time_over m c.self.inside.listed _ _ c.self.inside.alarms _ c.self.inside.clock c.next-asked.new.self some jobs over asks

pub returns-in-Some-asked-clause-pulls : goal.returns-in-Some-asked-clause-pulls
returns-in-Some-asked-clause-pulls c m jobs =
    let v = c.self.view_is in
    let some : option_map (λ (t : Bor Timed). t.now) c.self.inside.timing ≡ Some c.in-Some.timing.now = rw c.in-Some.is refl in
    let over : rest c.self.inside.listed ≡ [] = ap (λ (r : Pending). rest r.listed) v ∙ c.requires.over in
    let table = schedule_of c.in-Some.timing.now c.self.inside.alarms in
    let asks : AsksNext table (jobs_in c.args.words.now) c.self.inside.clock (Some c.in-Some-asked.asked) c.next-asked.new.self =
    subst (λ (a : Option Asked). AsksNext table (jobs_in c.args.words.now) c.self.inside.clock a c.next-asked.new.self) c.in-Some-asked.is c.next-asked.ensures.next in
    rw (c.source_in_time-source.ensures, ← v) (time_pulled m c.self.inside.listed _ _ c.self.inside.alarms _ c.self.inside.clock c.next-asked.new.self c.in-Some-asked.asked some jobs over asks)
