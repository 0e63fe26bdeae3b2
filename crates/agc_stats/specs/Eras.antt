-- An era: how full the tables are as it begins, and the requests that were served in it, in order.
use Rattle.std.specs.Prelude.{◌≡◌, ℕ, ◌+◌, ◌-◌, ◌^◌, ◌==◌, ◌&&◌, nat_lt, max, min, Bool, not, List}
use Rattle.std.specs.Prelude.{[], ◌∷◌, map, length, if◌then◌else◌}
use Rattle.std.specs.List.{count_by, sum_by}
use Rattle.agc_clock.specs.declared.elapsed.Elapsed.{Elapsed}
use Rattle.agc_plan.specs.Steps.{is_tick}
use Rattle.agc_stats.specs.declared.era.EraStatistics.{EraStatistics}
use Rattle.agc_stats.specs.declared.era.Peak.{Peak}
use Rattle.agc_stats.specs.declared.era.ServedRequest.{ServedRequest}
use Rattle.agc_stats.specs.declared.era_time.EraTime.{EraTime}
use Rattle.agc_stats.specs.declared.occupancy.Occupancy.{Occupancy}

-- a count is the greatest that there is a number for, at most
abbrev pub counted : ℕ → ℕ
counted n = min n (2 ^ 64 - 1)

-- the core sets that are in use after a request and not before it, and before it and not after it
abbrev pub more_sets : ServedRequest → ℕ
more_sets r = r.left.sets - r.before.sets

abbrev pub fewer_sets : ServedRequest → ℕ
fewer_sets r = r.before.sets - r.left.sets

-- a tick at which no job was running
abbrev pub is_idle : ServedRequest → Bool
is_idle r = is_tick r.request && not r.before.runs

-- how full a table is at a centisecond
pub record Level : Type 0 where
  pub count : ℕ
  pub time : ℕ

-- as an era begins, and after each of its requests
abbrev pub levels : (Occupancy → ℕ) → ℕ → Occupancy → List ServedRequest → List Level
levels table began first records =
    record { count = table first; time = began }
    ∷ map (λ r. record { count = table r.left; time = r.time }) records

-- the greatest of these levels, and the first time at which it was so high
abbrev pub greatest : List Level → ℕ
greatest [] = 0
greatest (level ∷ levels) = max level.count (greatest levels)

abbrev pub since : ℕ → List Level → ℕ
since count [] = 0
since count (level ∷ levels) = if level.count == count then level.time else since count levels

-- a table in which nothing was ever has its peak since the start
abbrev pub peak_of : List Level → Peak
peak_of levels =
    let most = greatest levels in
    record { count = most; since = if most == 0 then 0 else since most levels }

-- the statistics of an era that began at this centisecond
pub record IsEra (began : ℕ) (first : Occupancy) (records : List ServedRequest)
    (era : EraStatistics) : Type 0 where
  pub began_is : era.began ≡ began
  pub requests_is : era.requests ≡ counted (length records)
  pub begun_is : era.jobs_begun ≡ counted (first.sets + sum_by more_sets records)
  pub ended_is : era.jobs_ended ≡ counted (sum_by fewer_sets records)
  pub sets_is : era.sets ≡ peak_of (levels (λ o. o.sets) began first records)
  pub areas_is : era.areas ≡ peak_of (levels (λ o. o.areas) began first records)
  pub tasks_is : era.tasks ≡ peak_of (levels (λ o. o.tasks) began first records)
  pub idle_is : era.idle ≡ counted (count_by is_idle records)

-- how an era's time was used: all that passed from one of its requests to the next
abbrev pub used_in : EraTime → Elapsed
used_in era = record { computed = era.computed; stolen = era.stolen; idle = era.idle }

abbrev pub all_used : List Elapsed → Elapsed
all_used passed = record {
  computed = counted (sum_by (λ e. e.computed) passed);
  stolen = counted (sum_by (λ e. e.stolen) passed);
  idle = counted (sum_by (λ e. e.idle) passed);
}

-- for the proofs: a peak, if there is one more level
abbrev pub higher : ℕ → ℕ → Peak → Peak
higher count time peak =
    if nat_lt peak.count count then record { count = count; since = time } else peak
