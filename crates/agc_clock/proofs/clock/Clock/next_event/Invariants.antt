use Rattle.std.proofs.Common.{◌≡◌, length, drop}
use Rattle.agc_clock.specs.Clocks.{events_left}
use Rattle.agc_clock.proofs.clock.Clock.next_event.Given as goal

abbrev pub invariant-loop-event : goal.invariant-loop-event
invariant-loop-event g l = record {
  rest : events_left l.fn.self.time l.event l.asked
      (drop l.event (g.T.Timetables.set_down l.table).events)
      ≡ events_left l.fn.self.time l.fn.self.event l.fn.self.asked
      (drop l.fn.self.event (g.T.Timetables.set_down l.table).events);
  end : l.event-end ≡ length (g.T.Timetables.set_down l.table).events;
  same : l.self-inside ≡ l.initial.self-inside;
}
