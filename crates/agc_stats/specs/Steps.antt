-- For the proofs: the statistics of a run, with one request more.
use Rattle.std.specs.Prelude.{◌≡◌, ℕ, ◌+◌, max, if◌then◌else◌, List, [], ◌∷◌, ◌++◌, Option, Some}
use Rattle.std.specs.Prelude.{None, Result, IfSome}
use Rattle.std.specs.Option.{option_or}
use Rattle.agc_plan.specs.declared.reply.Alarm.{Alarm}
use Rattle.agc_plan.specs.declared.reply.Reply.{Reply}
use Rattle.agc_plan.specs.declared.request.Request.{Request}
use Rattle.agc_plan.specs.Steps.{is_tick}
use Rattle.agc_machine.specs.declared.answer.Refusal.{Refusal}
use Rattle.agc_machine.specs.Machines.{Machined, after, answer_of}
use Rattle.agc_run.specs.Events.{scene_at}
use Rattle.agc_stats.specs.Boundaries.{boundary_of}
use Rattle.agc_stats.specs.Eras.{IsEra, counted}
use Rattle.agc_stats.specs.Occupancies.{occupancy_of}
use Rattle.agc_stats.specs.Runs.{AreStatistics, Entry, IsEnded, occupancy_after, with_era}
use Rattle.agc_stats.specs.declared.era.EndedEra.{EndedEra}
use Rattle.agc_stats.specs.declared.occupancy.Occupancy.{Occupancy}
use Rattle.agc_stats.specs.declared.run_statistics.RunPeaks.{RunPeaks}
use Rattle.agc_stats.specs.declared.run_statistics.RunStatistics.{RunStatistics}
use Rattle.agc_stats.specs.declared.era.ServedRequest.{ServedRequest}

-- peaks, and an alarm, if there is one
abbrev pub with_alarm : Option Alarm → ℕ → RunPeaks → RunPeaks
with_alarm None time peaks = peaks
with_alarm (Some alarm) time peaks = record peaks {
  first_alarm = option_or peaks.first_alarm (Some (record { alarm = alarm; time = time }));
  alarms = counted (peaks.alarms + 1);
}

-- a machine was asked: it is now this one, with this answer, and the tables were left this full
pub record IsAnswered (m : Machined) (asked : Request) (now : Machined)
    (answer : Result Reply Refusal) (left : Occupancy) : Type 0 where
  pub now_is : now ≡ after m asked
  pub answer_is : answer ≡ answer_of m asked
  pub left_is : left ≡ occupancy_of (scene_at m asked)

-- a request was served
pub record IsNoted (asked : Request) (left : Occupancy) (logged : ℕ) (old new : RunStatistics)
    : Type 0 where
  pub time_is : new.time ≡ counted (old.time + (if is_tick asked then 1 else 0))
  pub requests_is : new.requests ≡ old.requests
  pub refused_is : new.refused ≡ old.refused
  pub longest_is : new.longest ≡ max old.longest logged
  pub occupancy_is : new.occupancy ≡ left
  pub number_is : new.number ≡ old.number
  pub by_is : new.by ≡ old.by
  pub peaks_is : new.peaks ≡ old.peaks
  pub era_is : (began : ℕ) (first : Occupancy) (records : List ServedRequest)
      → IsEra began first records old.era
      → IsEra began first
      (records
      ++ record { request = asked; time = new.time; before = old.occupancy; left = left } ∷ [])
      new.era

-- an era began with it, with tables this full; of the one that ended a row is made
pub record IsBegun (asked : Request) (alarm : Option Alarm) (now : Occupancy)
    (old new : RunStatistics) (row : EndedEra) : Type 0 where
  pub time_is : new.time ≡ old.time
  pub requests_is : new.requests ≡ old.requests
  pub refused_is : new.refused ≡ old.refused
  pub longest_is : new.longest ≡ old.longest
  pub occupancy_is : new.occupancy ≡ now
  pub number_is : new.number ≡ counted (old.number + 1)
  pub by_is : new.by ≡ boundary_of asked alarm
  pub peaks_is : new.peaks ≡ with_era old.era (with_alarm alarm old.time old.peaks)
  pub era_is : IsEra old.time now [] new.era
  pub ended_number : row.number ≡ old.number
  pub ended_by : row.by ≡ old.by
  pub ended_time : row.ended ≡ old.time
  pub ended_end : row.end ≡ boundary_of asked alarm
  pub ended_era : row.statistics ≡ old.era

-- the statistics with an entry more, and the row of the era that ended with it, if one did
pub record IsOneMore (start : Machined) (es : List Entry) (e : Entry) (new : RunStatistics)
    (row : Option EndedEra) : Type 0 where
  pub statistics : AreStatistics start (es ++ e ∷ []) new
  pub time : new.time ≡ e.time
  pub occupancy : new.occupancy ≡ occupancy_after e
  pub ended : IfSome row (λ r. IsEnded start es e r)
