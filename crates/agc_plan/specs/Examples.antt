-- The definitions on worked examples: what was asked, the replies, and what fired. Addresses and
-- priorities are octal, as in the listings.
use Rattle.std.specs.Prelude.{◌≡◌, ℕ, List, [], ◌∷◌, ◌++◌, Some, None, option_map, replicate}
use Rattle.agc_plan.specs.declared.reply.Alarm.TheVariants.{A1201, A1202, A1203}
use Rattle.agc_plan.specs.declared.reply.Code.TheVariants.{C1201, C1202, C1203}
use Rattle.agc_plan.specs.declared.reply.Reply.{Reply}
use Rattle.agc_plan.specs.declared.reply.Reply.TheVariants.{Established, Left, Roused, NoSleeper}
use Rattle.agc_plan.specs.declared.reply.Reply.TheVariants.{NoJob, Runs, Stored, Listed, Ticked}
use Rattle.agc_plan.specs.declared.reply.Reply.TheVariants.{Phased, Restarted, Alarmed}
use Rattle.agc_plan.specs.declared.request.Action.TheVariants as action
use Rattle.agc_plan.specs.declared.request.Entry.{Entry}
use Rattle.agc_plan.specs.declared.request.JobStart.TheVariants as start
use Rattle.agc_plan.specs.declared.request.Request.{Request}
use Rattle.agc_plan.specs.declared.request.Request.TheVariants.{Novac, Findvac, EndOfJob, Sleep}
use Rattle.agc_plan.specs.declared.request.Request.TheVariants.{Rouse, Prio, Change, Store, Tick}
use Rattle.agc_plan.specs.declared.request.Request.TheVariants.{SetPhase, Restart}
use Rattle.agc_plan.specs.declared.request.Request.TheVariants as request
use Rattle.agc_plan.specs.declared.request.Task.{Task}
use Rattle.agc_plan.specs.Jobs.{no_jobs, job_in}
use Rattle.agc_plan.specs.Places.{placed_new}
use Rattle.agc_plan.specs.Base.{fresh_base}
use Rattle.agc_plan.specs.Begins.{Begins}
use Rattle.agc_plan.specs.Plans.{Planned, Rows}
use Rattle.agc_plan.specs.Steps.{Plain, era, step, reached, fired_in}

-- where a job begins, in bank 5
abbrev pub entry : ℕ → Entry
entry at = record { at = at; bank = 5 }

-- a task in bank 5
abbrev pub task : ℕ → Task
task at = record { at = at; bank = 5 }

-- a plan with these rows and entries, in which key and radar do nothing, on seven core sets
abbrev pub planned : Rows → List Begins → Planned
planned rows entries = record
    { rows = rows; entries = entries; key = []; radar = []; sets = 7 }

-- the replies to these requests, one after another
abbrev pub replies_from : Planned → Plain → List Request → List Reply
replies_from plan plain [] = []
replies_from plan plain (asked ∷ log) = (step plan asked plain).reply ∷ replies_from plan
    (step plan asked plain).plain log

-- the replies after a fresh start, with this plan
abbrev pub replies_by : Planned → List Request → List Reply
replies_by plan log = replies_from plan (era plan fresh_base) log

-- the tasks that fire in each of these requests
abbrev pub fires_from : Planned → Plain → List Request → List (List Task)
fires_from plan plain [] = []
fires_from plan plain (asked ∷ log) =
    fired_in plan asked plain ∷ fires_from plan (step plan asked plain).plain log

-- the tasks that fire after a fresh start, with this plan
abbrev pub fires_by : Planned → List Request → List (List Task)
fires_by plan log = fires_from plan (era plan fresh_base) log

-- the replies after a fresh start, with an empty plan
abbrev pub replies : List Request → List Reply
replies log = replies_by (planned [] []) log

-- the replies on eight core sets, with an empty plan
abbrev pub replies_of_eight : List Request → List Reply
replies_of_eight log = replies_by (record (planned [] []) { sets = 8 }) log

-- the state after a fresh start, with an empty plan
abbrev pub state : List Request → Plain
state log = reached (planned [] []) fresh_base log

-- the replies to five jobs with areas, one after another
abbrev pub five_established : List Reply
five_established = Established 1 ∷ Established 2 ∷ Established 3 ∷ Established 4 ∷ Established 5 ∷
    []

-- the replies to seven jobs
abbrev pub seven_established : List Reply
seven_established = five_established ++ Established 6 ∷ Established 7 ∷ []

-- five jobs with areas, and a sixth
abbrev pub six_areas : List Request
six_areas = replicate 6 (Findvac 0o10 (entry 0o2000))

-- seven jobs without areas, and an eighth
abbrev pub eight_jobs : List Request
eight_jobs = replicate 8 (Novac 0o10 (entry 0o2000))

-- eight jobs without areas, and a ninth
abbrev pub nine_jobs : List Request
nine_jobs = replicate 9 (Novac 0o10 (entry 0o2000))

-- nine tasks, and a tenth
abbrev pub ten_tasks : List Request
ten_tasks = replicate 10 (request.List 5 (task 0o2000))

-- two jobs with areas, the end of the first, and a third
abbrev pub area_again : List Request
area_again = Findvac 0o10 (entry 0o2000) ∷ Findvac 0o10 (entry 0o2010) ∷ EndOfJob ∷ Findvac 0o10
    (entry 0o2020) ∷ []

-- three tasks, the first and the last due in five ticks, and these ticks
abbrev pub three_due : List Request
three_due = request.List 5 (task 0o2000) ∷ request.List 10 (task 0o2010) ∷ request.List 5
    (task 0o2020) ∷ replicate 5 Tick

-- a plan in which a task establishes a job; seven jobs, and three tasks due at once, it second
abbrev pub an_eighth_job : Planned
an_eighth_job = planned ((task 0o2010, action.Novac 0o10 (entry 0o3000) ∷ []) ∷ []) []

abbrev pub three_at_once : List Request
three_at_once = replicate 7 (Novac 0o10 (entry 0o2000))
    ++ request.List 1 (task 0o2000) ∷ request.List 1 (task 0o2010) ∷ request.List 1
    (task 0o2020) ∷ Tick ∷ []

-- a plan in which a task lists itself; it and another, and four ticks
abbrev pub again_in_three : Planned
again_in_three = planned ((task 0o2000, action.List 3 (task 0o2000) ∷ []) ∷ []) []

abbrev pub two_listed : List Request
two_listed = request.List 1 (task 0o2000) ∷ request.List 1 (task 0o2010) ∷ replicate 4 Tick

-- a plan with a job and a task for a phase; another job, that phase, and a restart
abbrev pub both_again : Planned
both_again = planned [] (record {
  group = 2;
  phase = 3;
  job = Some (start.Findvac 0o20 (entry 0o4100));
  task = Some (2, task 0o4000);
} ∷ [])

abbrev pub phase_and_restart : List Request
phase_and_restart = Novac 0o10 (entry 0o2000) ∷ SetPhase 2 3 ∷ Restart ∷ Tick ∷ Tick ∷ EndOfJob ∷
    []

-- each line is what was asked, and what was answered or fired
pub record Examples : Type 0 where
  -- one job, and its end
  pub one_job : replies (Novac 0o20 (entry 0o2000) ∷ EndOfJob ∷ []) ≡ Established 1 ∷ Left None ∷ []
  -- which leaves nobody
  pub nobody_left : (state (Novac 0o20 (entry 0o2000) ∷ EndOfJob ∷ [])).work.jobs ≡ no_jobs 7
  -- a more urgent job waits until the first ends
  pub end_hands_over : replies
      (Novac 0o20 (entry 0o2000) ∷ Novac 0o30 (entry 0o2100) ∷ EndOfJob ∷ [])
      ≡ Established 1 ∷ Established 2 ∷ Left (Some 2) ∷ []
  -- or until the first gives way
  pub change_of_job : replies
      (Novac 0o20 (entry 0o2000) ∷ Store 1 0o123 ∷ Novac 0o30 (entry 0o2100) ∷ Change ∷ [])
      ≡ Established 1 ∷ Stored ∷ Established 2 ∷ Runs 2 ∷ []
  -- with nobody running there is no job to act on
  pub nobody_runs :
      replies (Novac 0o20 (entry 0o2000) ∷ EndOfJob ∷ EndOfJob ∷ Store 1 1 ∷ Sleep 0o2044 ∷ Prio
      0o10 ∷ Change ∷ []) ≡ Established 1 ∷ Left None ∷ replicate 5 NoJob
  -- of equal priorities the least number, which is used again once it is unused
  pub equal_priorities :
      replies (Novac 0o37 (entry 0o2000) ∷ Novac 0o20 (entry 0o2010) ∷ Novac 0o20 (entry 0o2020) ∷
      EndOfJob ∷ Novac 0o20 (entry 0o2030) ∷ Prio 0o10 ∷ [])
      ≡ Established 1 ∷ Established 2 ∷ Established 3 ∷ Left (Some 2) ∷ Established 1 ∷ Runs 1 ∷ []
  -- the least number is used again
  pub least_again : replies area_again
      ≡ Established 1 ∷ Established 2 ∷ Left (Some 2) ∷ Established 1 ∷ []
  -- the lowest area that is free is given out again
  pub least_area_again : option_map (λ j. j.area) (job_in (state area_again).work.jobs.slots 1)
      ≡ Some 1
  -- a new job comes to the second core set, as a sleeper stands in the first, and is exchanged into
  -- it as it runs
  pub over_a_sleeper : placed_new (Some 2) (Some 2) (1 ∷ replicate 6 0) ≡ 2 ∷ 1 ∷ replicate 5 0
  -- a sleeper wakes once
  pub one_sleeper :
      replies (Novac 0o20 (entry 0o2000) ∷ Sleep 0o2044 ∷ Novac 0o10 (entry 0o2100) ∷ Rouse 0o2044 ∷
      Rouse 0o2044 ∷ [])
      ≡ Established 1 ∷ Left None ∷ Established 2 ∷ Roused 1 ∷ NoSleeper ∷ []
  -- the sixth area
  pub alarm_1201 : replies six_areas ≡ five_established ++ Alarmed A1201 ∷ []
  -- the eighth job
  pub alarm_1202 : replies eight_jobs ≡ seven_established ++ Alarmed A1202 ∷ []
  -- on eight core sets the ninth job
  pub alarm_1202_of_eight : replies_of_eight nine_jobs ≡ seven_established
      ++ Established 8 ∷ Alarmed A1202 ∷ []
  -- with neither area nor number, it is the area that is missed
  pub areas_before_numbers :
      replies (replicate 5 (Findvac 0o10 (entry 0o2000)) ++ replicate 2 (Novac 0o10 (entry 0o2000))
      ++ Findvac 0o10 (entry 0o2000) ∷ []) ≡ seven_established ++ Alarmed A1201 ∷ []
  -- with an area and no number
  pub area_without_number :
      replies (replicate 4 (Findvac 0o10 (entry 0o2000)) ++ replicate 3 (Novac 0o10 (entry 0o2000))
      ++ Findvac 0o10 (entry 0o2000) ∷ []) ≡ seven_established ++ Alarmed A1202 ∷ []
  -- the tenth task
  pub alarm_1203 : replies ten_tasks ≡ replicate 9 Listed ++ Alarmed A1203 ∷ []
  -- first, second and latest alarm
  pub three_alarms : (state (six_areas ++ eight_jobs ++ ten_tasks)).base.codes
      ≡ Some C1201 ∷ Some C1202 ∷ Some C1203 ∷ []
  -- tasks of one due time fire in order of arrival
  pub equal_due_times :
      (replies three_due ≡ replicate 3 Listed ++ replicate 5 (Ticked None))
      × (fires_by (planned [] []) three_due
      ≡ replicate 7 [] ++ (task 0o2000 ∷ task 0o2020 ∷ []) ∷ [])
  -- an alarm in an action ends the tick, and the third task is lost
  pub alarm_inside_a_tick :
      (replies_by an_eighth_job three_at_once
      ≡ seven_established ++ replicate 3 Listed ++ Ticked (Some A1202) ∷ [])
      × (fires_by an_eighth_job three_at_once
      ≡ replicate 10 [] ++ (task 0o2000 ∷ task 0o2010 ∷ []) ∷ [])
  -- a task that lists itself fires again three ticks later
  pub task_lists_itself :
      (replies_by again_in_three two_listed ≡ replicate 2 Listed ++ replicate 4 (Ticked None))
      × (fires_by again_in_three two_listed
      ≡ [] ∷ [] ∷ (task 0o2000 ∷ task 0o2010 ∷ []) ∷ [] ∷ [] ∷ (task 0o2000 ∷ []) ∷ [])
  -- the job and the task of a phase begin again with a restart
  pub phase_begins_again :
      (replies_by both_again phase_and_restart
      ≡ Established 1 ∷ Phased ∷ Restarted ∷ Ticked None ∷ Ticked None ∷ Left None ∷ [])
      × (fires_by both_again phase_and_restart
      ≡ replicate 4 [] ++ (task 0o4000 ∷ []) ∷ [] ∷ [])
