-- A run: a machine is asked for requests, in order. What they come to.
use Rattle.std.specs.Prelude.{◌≡◌, ℕ, ◌+◌, ◌&&◌, max, Bool, not, if◌then◌else◌, List}
use Rattle.std.specs.Prelude.{[], ◌∷◌, ◌++◌, filter, length, map, reverse, Option, Some, None}
use Rattle.std.specs.Prelude.{is_some, Result}
use Rattle.std.specs.List.{count_by, find, flat_map, fold, take_while}
use Rattle.std.specs.Option.{option_map_or}
use Rattle.std.specs.Result.{is_err, is_ok}
use Rattle.agc_plan.specs.declared.reply.Alarm.{Alarm}
use Rattle.agc_plan.specs.declared.reply.Reply.{Reply}
use Rattle.agc_plan.specs.declared.request.Request.{Request}
use Rattle.agc_plan.specs.Steps.{is_tick}
use Rattle.agc_machine.specs.declared.answer.Refusal.{Refusal}
use Rattle.agc_machine.specs.Machines.{Machined, after, alarm_with, answer_of, begins_with}
use Rattle.agc_run.specs.Events.{scene_at, scene_now}
use Rattle.agc_stats.specs.Boundaries.{boundary_of}
use Rattle.agc_stats.specs.Eras.{IsEra, counted}
use Rattle.agc_stats.specs.Occupancies.{occupancy_of}
use Rattle.agc_stats.specs.declared.era.EraBoundary.{EraBoundary}
use Rattle.agc_stats.specs.declared.era.EraBoundary.TheVariants.{Start}
use Rattle.agc_stats.specs.declared.era.EraStatistics.{EraStatistics}
use Rattle.agc_stats.specs.declared.era.ServedRequest.{ServedRequest}
use Rattle.agc_stats.specs.declared.era.EndedEra.{EndedEra}
use Rattle.agc_stats.specs.declared.occupancy.Occupancy.{Occupancy}
use Rattle.agc_stats.specs.declared.run_statistics.FirstAlarm.{FirstAlarm}
use Rattle.agc_stats.specs.declared.run_statistics.RunPeaks.{RunPeaks}
use Rattle.agc_stats.specs.declared.run_statistics.RunStatistics.{RunStatistics}

-- an entry of a run: a machine, what it was asked for, and the ticks that were served up to and
-- with that
pub record Entry : Type 0 where
  pub machine : Machined
  pub request : Request
  pub time : ℕ

-- whether a request is a tick that is served
abbrev pub passes : Machined → Request → Bool
passes m asked = is_tick asked && is_ok (answer_of m asked)

-- the next entry, after so many ticks, and all entries
abbrev pub entry_of : Machined → ℕ → Request → Entry
entry_of m time asked = record {
  machine = m;
  request = asked;
  time = counted (time + (if passes m asked then 1 else 0));
}

abbrev pub entries : Machined → ℕ → List Request → List Entry
entries m time [] = []
entries m time (asked ∷ more) =
    entry_of m time asked ∷ entries (after m asked) (entry_of m time asked).time more

-- its answer
abbrev pub answer_in : Entry → Result Reply Refusal
answer_in e = answer_of e.machine e.request

abbrev pub is_served : Entry → Bool
is_served e = is_ok (answer_in e)

abbrev pub begins_era : Entry → Bool
begins_era e = begins_with (answer_in e)

abbrev pub alarm_in : Entry → Option Alarm
alarm_in e = alarm_with (answer_in e)

-- how full the tables are before a request; as it left them, before an era begins with it; and
-- after it
abbrev pub occupancy_now : Machined → Occupancy
occupancy_now m = occupancy_of (scene_now m)

abbrev pub occupancy_left : Entry → Occupancy
occupancy_left e = occupancy_of (scene_at e.machine e.request)

abbrev pub occupancy_after : Entry → Occupancy
occupancy_after e = occupancy_now (after e.machine e.request)

-- the entries are cut behind each with which an era begins: the entry with which the last piece
-- began, if it isn't the first piece; and that piece
abbrev pub beginning : List Entry → Option Entry
beginning es = find begins_era (reverse es)

abbrev pub present : List Entry → List Entry
present es = reverse (take_while (λ e. not (begins_era e)) (reverse es))

-- why the last piece began, and why an era ends with an entry
abbrev pub boundary_in : Entry → EraBoundary
boundary_in e = boundary_of e.request (alarm_in e)

abbrev pub began_by : List Entry → EraBoundary
began_by es = option_map_or boundary_in (beginning es) Start

-- the records of those that were served
abbrev pub record_of : Entry → ServedRequest
record_of e = record {
  request = e.request;
  time = e.time;
  before = occupancy_now e.machine;
  left = occupancy_left e;
}

abbrev pub records : List Entry → List ServedRequest
records es = map record_of (filter is_served es)

-- the statistics of the era that is present after these entries, if this piece was served in it
abbrev pub IsEraAfter : Machined → List Entry → List Entry → EraStatistics → Type 0
IsEraAfter start es piece era =
    IsEra (option_map_or (λ e. e.time) (beginning es) 0)
    (option_map_or occupancy_after (beginning es) (occupancy_now start))
    (records piece)
    era

-- the first alarm, and when it came
abbrev pub first_alarm : List Entry → Option FirstAlarm
first_alarm [] = None
first_alarm (e ∷ es) =
    option_map_or (λ alarm. Some (record { alarm = alarm; time = e.time })) (alarm_in e)
    (first_alarm es)

-- how full the tables were: at the start, and as each request that was served left them, before
-- and after an era began with it
abbrev pub occupancies : Machined → List Entry → List Occupancy
occupancies start es =
    occupancy_now start
    ∷ flat_map (λ e. occupancy_left e ∷ occupancy_after e ∷ []) (filter is_served es)

abbrev pub most : {X : Type 0} → (X → ℕ) → List X → ℕ
most {X} count all = fold (λ n x. max n (count x)) 0 all

-- the peaks of all eras
pub record AreRunPeaks (start : Machined) (es : List Entry) (peaks : RunPeaks) : Type 0 where
  pub first_is : peaks.first_alarm ≡ first_alarm es
  pub alarms_is : peaks.alarms ≡ counted (count_by (λ e. is_some (alarm_in e)) es)
  pub sets_is : peaks.sets ≡ most (λ o. o.sets) (occupancies start es)
  pub areas_is : peaks.areas ≡ most (λ o. o.areas) (occupancies start es)
  pub tasks_is : peaks.tasks ≡ most (λ o. o.tasks) (occupancies start es)

-- peaks, and an era
abbrev pub with_era : EraStatistics → RunPeaks → RunPeaks
with_era era peaks = record peaks {
  sets = max peaks.sets era.sets.count;
  areas = max peaks.areas era.areas.count;
  tasks = max peaks.tasks era.tasks.count;
}

-- the statistics of a run with these entries
pub record AreStatistics (start : Machined) (es : List Entry) (s : RunStatistics) : Type 0 where
  pub time_is : s.time ≡ counted (count_by (λ e. passes e.machine e.request) es)
  pub requests_is : s.requests ≡ counted (length es)
  pub refused_is : s.refused ≡ counted (count_by (λ e. is_err (answer_in e)) es)
  pub longest_is : s.longest
      ≡ most (λ e. length (after e.machine e.request).log) (filter is_served es)
  pub number_is : s.number ≡ counted (1 + count_by begins_era es)
  pub by_is : s.by ≡ began_by es
  pub era_is : IsEraAfter start es (present es) s.era
  pub peaks_are : AreRunPeaks start es (with_era s.era s.peaks)

-- those of a run from this machine on, which is asked for these requests; and its peaks
abbrev pub IsRunStatistics : Machined → List Request → RunStatistics → Type 0
IsRunStatistics start requests s = AreStatistics start (entries start 0 requests) s

abbrev pub ArePeaks : Machined → List Request → RunPeaks → Type 0
ArePeaks start requests peaks = AreRunPeaks start (entries start 0 requests) peaks

-- the row of an era that ended with an entry
pub record IsEnded (start : Machined) (es : List Entry) (e : Entry) (row : EndedEra) : Type 0 where
  pub number_is : row.number ≡ counted (1 + count_by begins_era es)
  pub by_is : row.by ≡ began_by es
  pub ended_is : row.ended ≡ e.time
  pub end_is : row.end ≡ boundary_in e
  pub era_is : IsEraAfter start es (present es ++ e ∷ []) row.statistics
