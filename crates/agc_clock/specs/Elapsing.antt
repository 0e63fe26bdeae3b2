-- The time that passes from one request to the next.
use Rattle.std.specs.Prelude.{◌≡◌, ◌+◌, ◌-◌, ◌*◌, ◌==◌, Bool, if◌then◌else◌, is_some}
use Rattle.agc_plan.specs.Jobs.{Jobs}
use Rattle.agc_clock.specs.declared.elapsed.Elapsed.{Elapsed}
use Rattle.agc_clock.specs.Clocks.{Clocked}
use Rattle.agc_clock.specs.Counts.{worker_of}
use Rattle.agc_clock.specs.Timetables.{Schedule}

-- no time
abbrev pub none_elapsed : Elapsed
none_elapsed = record { computed = 0; stolen = 0; idle = 0 }

-- whether time is computed, or idle: whether a job with a cost is running
abbrev pub computes : Schedule → Jobs → Bool
computes table jobs = is_some (worker_of table.costs jobs)

-- from one clock to another: of one centisecond, what was left before and isn't now; else all that
-- was left, and what the next centisecond has less than 100
abbrev pub elapsed_between : (computes : Bool) → Clocked → Clocked → Elapsed
elapsed_between computes old new =
    let within = old.time == new.time in
    let given = if within then old.left - new.left else old.left in
    record {
      computed = if computes then given else 0;
      stolen = if within then 0 else 100 - new.left;
      idle = if computes then 0 else given;
    }

-- it is all the time that passed: a clock stands at its centisecond's end, less what is left of it
abbrev pub Elapses : Clocked → Elapsed → Clocked → Type 0
Elapses old elapsed new =
    (100 * old.time + new.left) + ((elapsed.computed + elapsed.stolen) + elapsed.idle)
    ≡ 100 * new.time + old.left
