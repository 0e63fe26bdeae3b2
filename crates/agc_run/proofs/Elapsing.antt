-- No time passes where the clock stays.
use Rattle.std.proofs.Common.{◌≡◌, ◌-◌, Bool, true, false, Option, Some, None, refl, arith}
use Rattle.std.proofs.lemmas.Bool.{eq-eqb}
use Rattle.agc_clock.specs.declared.alarms.Alarms.{Alarms}
use Rattle.agc_clock.specs.Clocks.{Clocked}
use Rattle.agc_clock.specs.Elapsing.{computes, elapsed_between, none_elapsed}
use Rattle.agc_plan.specs.Jobs.{Jobs}
use Rattle.agc_run.specs.Runs.{elapsed_by}
use Rattle.agc_scenario.specs.Scenarios.{Timed, schedule_of}

stays : (b : Bool) (k : Clocked) → none_elapsed ≡ elapsed_between b k k
stays true k =
    let none : k.left - k.left ≡ 0 = omega arith in
    rw (eq-eqb k.time k.time refl, none) refl
stays false k =
    let none : k.left - k.left ≡ 0 = omega arith in
    rw (eq-eqb k.time k.time refl, none) refl

pub no_time : (o : Option Timed) (jobs : Jobs) (alarms : Alarms) (old new : Clocked) → new ≡ old → none_elapsed ≡ elapsed_by o jobs alarms old new
no_time None jobs alarms old new same = refl
no_time (Some timed) jobs alarms old new same = rw same (stays (computes (schedule_of timed alarms) jobs) old)
