-- The machine's step over base, log and totals.
use Rattle.std.specs.Prelude.{ℕ, ◌+◌, ◌≤◌, ◌<◌, ◌^◌, ◌==◌, ◌&&◌, Bool, true, false, not}
use Rattle.std.specs.Prelude.{if◌then◌else◌, List, [], ◌∷◌, ◌++◌, length, Option, Some}
use Rattle.std.specs.Prelude.{None, Result, Ok, Err}
use Rattle.std.specs.List.{fold}
use Rattle.std.specs.Option.{option_map_or}
use Rattle.agc_plan.specs.declared.request.Request.{Request}
use Rattle.agc_plan.specs.declared.request.Request.TheVariants.{Restart, Fresh}
use Rattle.agc_plan.specs.declared.request.Task.{Task}
use Rattle.agc_plan.specs.declared.reply.Alarm.{Alarm}
use Rattle.agc_plan.specs.declared.reply.Reply.{Reply}
use Rattle.agc_plan.specs.Base.{Base}
use Rattle.agc_plan.specs.Plans.{Planned}
use Rattle.agc_plan.specs.Seats.{placed}
use Rattle.agc_plan.specs.Steps.{Plain, Stepped, step, reached, alarm_of, begins, fired_in}
use Rattle.agc_phase.specs.Image.{IsLawfulBase}
use Rattle.agc_machine.specs.declared.answer.Refusal.{Refusal}
use Rattle.agc_machine.specs.declared.answer.Refusal.TheVariants.{Spent, LogFull}
use Rattle.agc_machine.specs.declared.totals.Totals.{Totals}
use Rattle.agc_machine.specs.Said.{Said}
use Rattle.agc_machine.specs.Told.{add, reply_told, nothing}

-- a machine: its plan and its number of core sets, limit and allowance, with what the last era
-- began, the requests stored since, and the totals
pub record Machined : Type 0 where
  pub plan : Planned
  pub limit : ℕ
  pub allowance : ℕ
  pub base : Base
  pub log : List Request
  pub totals : Totals

-- the plain state that it stands for
abbrev pub plain_of : Machined → Plain
plain_of m = reached m.plan m.base m.log

-- the core sets of its jobs
abbrev pub places_of : Machined → List ℕ
places_of m = (placed m.plan m.base m.log).places

-- every machine is lawful; that its plan has no fault is kept by the type of plans
pub record IsLawful (m : Machined) : Type 0 where
  pub base : IsLawfulBase m.base
  pub least : 1 ≤ m.limit
  pub short : length m.log ≤ m.limit
  pub most : m.limit ≤ 1000000
  pub allowed : m.totals.served ≤ m.allowance
  pub fits : m.allowance < 2 ^ 64
  pub restarts : m.totals.restarts ≤ m.totals.served
  pub alarms : m.totals.a1201 + m.totals.a1202 + m.totals.a1203 ≤ m.totals.restarts

-- a full log refuses neither restart nor fresh start
abbrev pub starts_over : Request → Bool
starts_over Restart = true
starts_over Fresh = true
starts_over asked = false

-- the plain state after a request, and its reply
abbrev pub stepped : Machined → Request → Stepped
stepped m asked = step m.plan asked (plain_of m)

-- why the request is refused, if it is
abbrev pub refusal_of : Machined → Request → Option Refusal
refusal_of m asked =
    if m.totals.served == m.allowance then Some Spent
    else if (length m.log == m.limit) && not (starts_over asked) then Some LogFull
    else None

-- a refusal, if there is one, else the reply
abbrev pub result_of : Option Refusal → Reply → Result Reply Refusal
result_of refusal reply = option_map_or Err refusal (Ok reply)

-- the answer to a request
abbrev pub answer_of : Machined → Request → Result Reply Refusal
answer_of m asked = option_map_or Err (refusal_of m asked) (Ok (stepped m asked).reply)

-- whether an era begins with an answer, and the alarm that it tells
abbrev pub begins_with : Result Reply Refusal → Bool
begins_with (Ok reply) = begins reply
begins_with (Err refusal) = false

abbrev pub alarm_with : Result Reply Refusal → Option Alarm
alarm_with (Ok reply) = alarm_of reply
alarm_with (Err refusal) = None

-- the tasks that fire in it, in order: none where it is refused
abbrev pub fired_of : Machined → Request → List Task
fired_of m asked =
    option_map_or (λ refusal. []) (refusal_of m asked) (fired_in m.plan asked (plain_of m))

-- all that is said to it
abbrev pub said_of : Machined → Request → Said
said_of m asked = record { request = asked; outcome = answer_of m asked; fired = fired_of m asked }

-- the machine after a request that is served: an era began with what is now the base, or the
-- request is stored
abbrev pub served : Stepped → Request → Machined → Machined
served now asked m = record m {
  base = if begins now.reply then now.plain.base else m.base;
  log = if begins now.reply then [] else m.log ++ asked ∷ [];
  totals = add m.totals (reply_told now.reply);
}

-- the machine after a request: a refused one changes nothing
abbrev pub after : Machined → Request → Machined
after m asked = option_map_or (λ refusal. m) (refusal_of m asked) (served (stepped m asked) asked m)

-- the machine after all of these requests, in order
unfoldable pub after_all : Machined → List Request → Machined
after_all m requests = fold after m requests

-- an era has just begun, and nothing was served
abbrev pub begun_with : Planned → ℕ → ℕ → Base → Machined
begun_with plan limit allowance base = record { plan = plan; limit = limit; allowance = allowance; base = base; log = []; totals = nothing }
