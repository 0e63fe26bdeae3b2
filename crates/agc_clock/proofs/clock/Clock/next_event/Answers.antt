use Rattle.std.proofs.Common.{◌+◌, ℕ, List, slice_get, refl, sym, ap, ◌∙◌, arith}
use Rattle.agc_clock.specs.Clocks.{Clocked}
use Rattle.agc_clock.specs.Counts.{Counts}
use Rattle.agc_clock.specs.Reading.{first_of}
use Rattle.agc_clock.proofs.Passing.{event_asked, events_ask, events_pass, events_passed, nothing_left}
use Rattle.agc_clock.proofs.clock.Clock.next_event.Goals as goal

abbrev counted : List ℕ → ℕ → Counts
counted given lot = record { given = given; lot = lot }

pub returns-in-Some-clause-stage : goal.returns-in-Some-clause-stage
returns-in-Some-clause-stage g c = λ jobs.
    let table = g.T.Timetables.set_down c.args.table.now in
    let old = c.args.self.now in
    let new : Clocked = record { time = c.loop-event.self-inside.time; event = c.loop-event.event; asked = c.loop-event.asked + 1; looks = c.loop-event.self-inside.looks; left = c.loop-event.self-inside.left; counts = counted c.loop-event.self-inside.given c.loop-event.self-inside.lot } in
    event_asked table jobs old new c.loop-event.event c.in-Some.request
    (record {
      time_is = ap (λ s. s.time) c.loop-event.invariant.same ∙ ap (λ (s : Clocked). s.time) c.self.view_is;
      looks_is = ap (λ s. s.looks) c.loop-event.invariant.same ∙ ap (λ (s : Clocked). s.looks) c.self.view_is;
      left_is = ap (λ s. s.left) c.loop-event.invariant.same ∙ ap (λ (s : Clocked). s.left) c.self.view_is;
      counts_is = ap (λ s. counted s.given s.lot) c.loop-event.invariant.same ∙ ap (λ (s : Clocked). s.counts) c.self.view_is;
    })
    (sym c.loop-event.invariant.rest
    ∙ events_ask old.time c.loop-event.event c.loop-event.asked table.events (slice_get table.events c.loop-event.event) c.in-Some.request refl
    (ap (λ (t : ℕ). first_of t c.loop-event.asked (slice_get table.events c.loop-event.event)) (sym (ap (λ s. s.time) c.loop-event.invariant.same ∙ ap (λ (s : Clocked). s.time) c.self.view_is)) ∙ sym c.request_of.ensures.first ∙ c.in-Some.is))

pub loop-event-preserved : goal.loop-event-preserved
loop-event-preserved g c =
    let events = (g.T.Timetables.set_down c.args.table.now).events in
    let time = c.args.self.now.time in
    record {
      rest = sym (events_pass time c.loop-event.event c.loop-event.asked events (slice_get events c.loop-event.event) refl
          (ap (λ (t : ℕ). first_of t c.loop-event.asked (slice_get events c.loop-event.event)) (sym (ap (λ s. s.time) c.loop-event.invariant.same ∙ ap (λ (s : Clocked). s.time) c.self.view_is)) ∙ sym c.request_of.ensures.first ∙ c.in-None.is))
          ∙ c.loop-event.invariant.rest;
      end = c.loop-event.invariant.end;
      same = c.loop-event.invariant.same;
    }

pub returns-clause-stage : goal.returns-clause-stage
returns-clause-stage g c = λ jobs.
    let table = g.T.Timetables.set_down c.args.table.now in
    let old = c.args.self.now in
    let new : Clocked = record { time = c.loop-event.self-inside.time; event = c.events-self-inside.result; asked = 0; looks = c.loop-event.self-inside.looks; left = c.loop-event.self-inside.left; counts = counted c.loop-event.self-inside.given c.loop-event.self-inside.lot } in
    events_passed table jobs old new
    (record {
      time_is = ap (λ s. s.time) c.loop-event.invariant.same ∙ ap (λ (s : Clocked). s.time) c.self.view_is;
      looks_is = ap (λ s. s.looks) c.loop-event.invariant.same ∙ ap (λ (s : Clocked). s.looks) c.self.view_is;
      left_is = ap (λ s. s.left) c.loop-event.invariant.same ∙ ap (λ (s : Clocked). s.left) c.self.view_is;
      counts_is = ap (λ s. counted s.given s.lot) c.loop-event.invariant.same ∙ ap (λ (s : Clocked). s.counts) c.self.view_is;
    })
    (sym c.loop-event.invariant.rest
    ∙ nothing_left old.time c.loop-event.event c.loop-event.asked table.events (omega arith)
    ∙ sym (nothing_left old.time c.events-self-inside.result 0 table.events (omega arith)))
