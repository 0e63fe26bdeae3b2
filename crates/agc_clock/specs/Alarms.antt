-- The first alarm of each code, and the events that count from it.
use Rattle.std.specs.Prelude.{ℕ, ◌+◌, max, min, nat_le, if◌then◌else◌, Option, Some, None}
use Rattle.agc_plan.specs.declared.reply.Alarm.{Alarm}
use Rattle.agc_plan.specs.declared.reply.Alarm.TheVariants.{A1201, A1202, A1203}
use Rattle.agc_clock.specs.declared.alarms.Alarms.{Alarms}
use Rattle.agc_clock.specs.declared.times.TheConstants.{LAST_TIME}
use Rattle.agc_clock.specs.Coming.{Coming}

-- no alarm came
abbrev pub none_came : Alarms
none_came = record { a1201 = None; a1202 = None; a1203 = None }

-- when the first alarm of a code came
abbrev pub first_came : Alarm → Alarms → Option ℕ
first_came A1201 alarms = alarms.a1201
first_came A1202 alarms = alarms.a1202
first_came A1203 alarms = alarms.a1203

-- an alarm comes at a time, if an answer has one: only the first of its code counts
abbrev pub first_or : Option ℕ → ℕ → Option ℕ
first_or None time = Some time
first_or (Some first) time = Some first

abbrev pub came : Option Alarm → ℕ → Alarms → Alarms
came None time alarms = alarms
came (Some A1201) time alarms = record alarms { a1201 = first_or alarms.a1201 time }
came (Some A1202) time alarms = record alarms { a1202 = first_or alarms.a1202 time }
came (Some A1203) time alarms = record alarms { a1203 = first_or alarms.a1203 time }

-- an event that counts from the first alarm of a code: it doesn't come before that, and then its
-- times are distances from it, of at least one centisecond; what would come after a day never comes
abbrev pub never : Coming
never = record { at = 1; every = 1; until = 0 }

abbrev pub times_after : Option ℕ → Coming → Coming
times_after None times = never
times_after (Some first) times =
    if nat_le (first + max 1 times.at) LAST_TIME
    then record {
      at = first + max 1 times.at;
      every = times.every;
      until = min (first + max 1 times.until) LAST_TIME;
    }
    else never
