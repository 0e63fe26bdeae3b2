-- The lives of a run's jobs: from a job's release to its end, or to where it is lost as an era
-- begins, or to the end of the run. A run is a list of snapshots, and a history has the newest
-- snapshot first.
use Rattle.std.specs.Prelude.{ℕ, ◌&&◌, ◌||◌, not, Bool, true, false, List, [], ◌∷◌, ◌++◌}
use Rattle.std.specs.Prelude.{Option, Some, None, if◌then◌else◌, is_some, slice_index_or}
use Rattle.std.specs.List.{count_by, filter_map, range_with_len, sum_by, take_while}
use Rattle.std.specs.Option.{option_map_or}
use Rattle.agc_stats.specs.Eras.{counted}
use Rattle.agc_stats.specs.declared.live_jobs.Activity.{Activity}
use Rattle.agc_stats.specs.declared.live_jobs.Activity.TheVariants.{Runs, Sleeps, Waits}
use Rattle.agc_stats.specs.declared.live_jobs.JobLife.{JobLife}
use Rattle.agc_stats.specs.declared.live_jobs.ObservedJob.{ObservedJob}
use Rattle.agc_stats.specs.declared.live_jobs.LiveJob.{LiveJob}
use Rattle.agc_stats.specs.declared.live_jobs.Snapshot.{Snapshot}

-- whether two states are the same
abbrev pub is_same_activity : Activity → Activity → Bool
is_same_activity Runs Runs = true
is_same_activity Waits Waits = true
is_same_activity Sleeps Sleeps = true
is_same_activity one other = false

-- the state of the job of a number, here from 0, in a snapshot, if the number is in use; its
-- address; and whether it has this state
abbrev pub state_in : ℕ → Snapshot → Option ObservedJob
state_in n s = slice_index_or s.jobs n None

abbrev pub is_alive : ℕ → Snapshot → Bool
is_alive n s = is_some (state_in n s)

abbrev pub at_in : ℕ → Snapshot → ℕ
at_in n s = option_map_or (λ job. job.at) (state_in n s) 0

abbrev pub activity_in : ℕ → Snapshot → Activity
activity_in n s = option_map_or (λ job. job.activity) (state_in n s) Waits

abbrev pub is_in : Activity → ℕ → Snapshot → Bool
is_in activity n s =
    option_map_or (λ job. is_same_activity job.activity activity) (state_in n s) false

-- a life up to the newest snapshot: those with this number in use, back to the job's release
abbrev pub life : ℕ → List Snapshot → List Snapshot
life n history = take_while (is_alive n) history

-- the snapshot of the release, of a life of which this is the newest
abbrev pub release : Snapshot → List Snapshot → Snapshot
release newest [] = newest
release newest (s ∷ life) = release s life

-- each two snapshots in a row, the later first
abbrev pub pairs : {X : Type 0} → List X → List (X × X)
pairs [] = []
pairs (x ∷ []) = []
pairs (x ∷ (y ∷ more)) = (x, y) ∷ pairs (y ∷ more)

-- what was computed while the job ran; how long it slept; and how often it was preempted: it ran,
-- and then was awake in another core set
abbrev pub computed : ℕ → List Snapshot → ℕ
computed n life = sum_by (λ p. if is_in Runs n p.1 then p.0.computed else 0) (pairs life)

abbrev pub slept : ℕ → List Snapshot → ℕ
slept n life = sum_by (λ p. if is_in Sleeps n p.1 then p.0.passed else 0) (pairs life)

abbrev pub preempted : ℕ → List Snapshot → ℕ
preempted n life = count_by (λ p. is_in Runs n p.1 && is_in Waits n p.0) (pairs life)

-- a job that is in these snapshots; its numbers are counted up to the first of the others, too
abbrev pub job_over : ℕ → List Snapshot → Snapshot → List Snapshot → LiveJob
job_over n over newest life = record {
  at = at_in n (release newest life);
  activity = activity_in n newest;
  released = (release newest life).time;
  computed = counted (computed n over);
  slept = counted (slept n over);
  preempted = counted (preempted n over);
}

-- the job of this number that is alive in the newest snapshot
abbrev pub live_in : ℕ → List Snapshot → Option LiveJob
live_in n [] = None
live_in n (newest ∷ life) = Some (job_over n (newest ∷ life) newest life)

abbrev pub alive_job : ℕ → List Snapshot → Option LiveJob
alive_job n history = live_in n (life n history)

-- the life that is over with a snapshot in which this number isn't in use any more
abbrev pub gone_in : ℕ → Snapshot → List Snapshot → Option JobLife
gone_in n s [] = None
gone_in n s (last ∷ life) = Some (record {
  job = job_over n (s ∷ (last ∷ life)) last life;
  time = s.time;
  end = s.end;
})

abbrev pub gone : ℕ → Snapshot → List Snapshot → Option JobLife
gone n s past = if is_alive n s then None else gone_in n s (life n past)

-- the address of a job that is released with a snapshot, in which this number is in use anew
abbrev pub release_in : ℕ → Snapshot → List Snapshot → Option ℕ
release_in n s past =
    if is_some (alive_job n past) || not (is_alive n s) then None else Some (at_in n s)

-- the addresses of all jobs in the order of their releases, and all lives that are over in the
-- order of their ends
abbrev pub releases : List Snapshot → List ℕ
releases [] = []
releases (s ∷ past) = releases past ++ filter_map (λ n. release_in n s past) (range_with_len 0 8)

abbrev pub lives : List Snapshot → List JobLife
lives [] = []
lives (s ∷ past) = lives past ++ filter_map (λ n. gone n s past) (range_with_len 0 8)
