use Rattle.std.proofs.Common.{◌≡◌, ◌-◌, ◌==◌, ℕ, cond, sym, ap, ◌∙◌, arith}
use Rattle.agc_exec.specs.Image.{jobs_in}
use Rattle.agc_clock.specs.Elapsing.{computes}
use Rattle.agc_clock.proofs.Elapsing.{nobody, up_to_a_tick}
use Rattle.agc_clock.proofs.Passing.{asks_if, is_none, passes_if, then_asks}
use Rattle.agc_clock.proofs.clock.Clock.next.Goals as goal

pub returns-then-is_some-clause-next : goal.returns-then-is_some-clause-next
returns-then-is_some-clause-next g c =
    let table = g.T.Timetables.set_down c.args.table.now in
    let jobs = jobs_in c.args.words.now in
    asks_if table jobs c.args.self.now c.next_event-asked.new.self c.next_event-asked.result (sym c.is_some.ensures ∙ c.if-is_some.true) (c.next_event-asked.ensures.stage jobs)

pub returns-then-is_some-2-clause-next : goal.returns-then-is_some-2-clause-next
returns-then-is_some-2-clause-next g c =
    let table = g.T.Timetables.set_down c.args.table.now in
    let jobs = jobs_in c.args.words.now in
    let none = sym c.is_some.ensures ∙ c.if-is_some.false in
    then_asks table jobs c.args.self.now c.next_event-asked.new.self c.look-asked.new.self c.look-asked.result
    (passes_if table jobs c.args.self.now c.next_event-asked.new.self c.next_event-asked.result none (c.next_event-asked.ensures.stage jobs))
    (asks_if table jobs c.next_event-asked.new.self c.look-asked.new.self c.look-asked.result (sym c.is_some-2.ensures ∙ c.if-is_some-2.true) (c.look-asked.ensures.stage table (c.next_event-asked.ensures.passed (is_none c.next_event-asked.result none))))

pub returns-then-is_some-3-clause-next : goal.returns-then-is_some-3-clause-next
returns-then-is_some-3-clause-next g c =
    let table = g.T.Timetables.set_down c.args.table.now in
    let jobs = jobs_in c.args.words.now in
    let none = sym c.is_some.ensures ∙ c.if-is_some.false in
    let none2 = sym c.is_some-2.ensures ∙ c.if-is_some-2.false in
    then_asks table jobs c.args.self.now c.next_event-asked.new.self c.work-asked.new.self c.work-asked.result
    (passes_if table jobs c.args.self.now c.next_event-asked.new.self c.next_event-asked.result none (c.next_event-asked.ensures.stage jobs))
    (then_asks table jobs c.next_event-asked.new.self c.look-asked.new.self c.work-asked.new.self c.work-asked.result
    (passes_if table jobs c.next_event-asked.new.self c.look-asked.new.self c.look-asked.result none2 (c.look-asked.ensures.stage table (c.next_event-asked.ensures.passed (is_none c.next_event-asked.result none))))
    (asks_if table jobs c.look-asked.new.self c.work-asked.new.self c.work-asked.result (sym c.is_some-3.ensures ∙ c.if-is_some-3.true) c.work-asked.ensures.stage))

pub returns-clause-next : goal.returns-clause-next
returns-clause-next g c =
    let table = g.T.Timetables.set_down c.args.table.now in
    let jobs = jobs_in c.args.words.now in
    let none = sym c.is_some.ensures ∙ c.if-is_some.false in
    let none2 = sym c.is_some-2.ensures ∙ c.if-is_some-2.false in
    let none3 = sym c.is_some-3.ensures ∙ c.if-is_some-3.false in
    then_asks table jobs c.args.self.now c.next_event-asked.new.self c.tick-asked.new.self c.tick-asked.result.0
    (passes_if table jobs c.args.self.now c.next_event-asked.new.self c.next_event-asked.result none (c.next_event-asked.ensures.stage jobs))
    (then_asks table jobs c.next_event-asked.new.self c.look-asked.new.self c.tick-asked.new.self c.tick-asked.result.0
    (passes_if table jobs c.next_event-asked.new.self c.look-asked.new.self c.look-asked.result none2 (c.look-asked.ensures.stage table (c.next_event-asked.ensures.passed (is_none c.next_event-asked.result none))))
    (then_asks table jobs c.look-asked.new.self c.work-asked.new.self c.tick-asked.new.self c.tick-asked.result.0
    (passes_if table jobs c.look-asked.new.self c.work-asked.new.self c.work-asked.result none3 c.work-asked.ensures.stage)
    (c.tick-asked.ensures.next jobs (nobody table jobs c.work-asked.result c.work-asked.new.self.left c.work-asked.ensures.worked (is_none c.work-asked.result none3)))))

pub returns-clause-elapsed : goal.returns-clause-elapsed
returns-clause-elapsed g c =
    let table = g.T.Timetables.set_down c.args.table.now in
    let jobs = jobs_in c.args.words.now in
    let old = c.args.self.now in
    let new = c.tick-asked.new.self in
    let none3 = sym c.is_some-3.ensures ∙ c.if-is_some-3.false in
    let time : c.work-asked.new.self.time ≡ old.time = c.work-asked.ensures.time ∙ c.look-asked.ensures.time ∙ c.next_event-asked.ensures.time in
    let before : c.left-left.result ≡ old.left = c.left-left.ensures ∙ c.look-asked.ensures.left ∙ c.next_event-asked.ensures.left in
    up_to_a_tick (computes table jobs) old new c.left-left.result c.left-idle.result c.tick-asked.result.1 before
    (λ is. c.left-idle.ensures ∙ c.work-asked.ensures.worked is (is_none c.work-asked.result none3))
    (λ is. c.left-idle.ensures ∙ (c.work-asked.ensures.nobody is).1 ∙ sym c.left-left.ensures)
    (c.tick-asked.ensures.stolen ∙ ap (λ (t : ℕ). cond (t == new.time) 0 (100 - new.left)) time)
    (omega (arith, c.tick-asked.ensures.time, time))
