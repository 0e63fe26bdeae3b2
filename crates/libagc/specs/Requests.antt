-- The effect of a request on the tables alone, where no era begins, whatever the reply; which
-- requests are refused; and those of a pulse.
use Rattle.std.specs.Prelude.{◌≡◌, ℕ, not, Bool, false, if◌then◌else◌, List, [], map, replicate}
use Rattle.std.specs.Prelude.{Some, None, ◌==◌, nat_lt, nat_le, ◌&&◌, length, Option}
use Rattle.std.specs.Option.{option_map_or}
use Rattle.agc_word.specs.Layout.{sets_in}
use Rattle.agc_plan.specs.Base.{Base, fresh_base, with_phase}
use Rattle.agc_plan.specs.Jobs.{no_jobs}
use Rattle.agc_plan.specs.declared.reply.Alarm.TheVariants.{A1203}
use Rattle.agc_plan.specs.declared.reply.Reply.{Reply}
use Rattle.agc_plan.specs.declared.reply.Reply.TheVariants.{Alarmed, Listed, Phased, Restarted}
use Rattle.agc_plan.specs.declared.reply.Reply.TheVariants.{Ticked}
use Rattle.agc_plan.specs.declared.request.Request.{Request}
use Rattle.agc_plan.specs.declared.request.Request.TheVariants as request
use Rattle.agc_exec.specs.Blocks.{blocks_of}
use Rattle.agc_exec.specs.Calls.{DoesNovac, DoesFindvac, DoesEnd, DoesSleep, DoesWake, DoesPrio}
use Rattle.agc_exec.specs.Calls.{DoesChange, DoesStore, freed_block}
use Rattle.agc_exec.specs.Image.{jobs_in, entries_in}
use Rattle.agc_exec.specs.Image as cores
use Rattle.agc_phase.specs.Image.{Becomes, base_of}
use Rattle.agc_wait.specs.Calls.{Counts, Lists}
use Rattle.agc_wait.specs.Table.{waits_of}
use Rattle.agc_wait.specs.Table as table
use Rattle.agc_wait.specs.Waits.{is_due}
use Rattle.agc_image.specs.Images.{Changed, IsImage, image_of, behind, size_with}
use Rattle.libagc.specs.declared.fault.Fault.TheVariants.{NotNow, OutOfRange, PlanRange}
use Rattle.libagc.specs.declared.reading.AgcRequest.{AgcRequest}
use Rattle.libagc.specs.declared.reply.AgcReply.{AgcReply}
use Rattle.libagc.specs.Codes.{code_of, code_unless, reply_to_c, refusal}
use Rattle.libagc.specs.Numbers.{request_from_c, request_fault, numbers_of}
use Rattle.std.specs.List.{list_all}
use Rattle.agc_plan.specs.declared.line.Line.{Line}
use Rattle.agc_plan.specs.declared.line.Line.TheVariants.{Timer, Key, Radar}
use Rattle.agc_plan.specs.Plans.{planned_with}
use Rattle.agc_plan.specs.Pulses.{pulse_requests}
use Rattle.libagc.specs.declared.fault.Fault.{Fault}
use Rattle.libagc.specs.Plans.{is_action, action_from_c}
use Rattle.agc_machine.specs.declared.answer.Refusal.{Refusal}
use Rattle.agc_machine.specs.declared.answer.Refusal.TheVariants.{Spent, LogFull}
use Rattle.agc_machine.specs.Machines.{Machined, starts_over}
use Rattle.libagc.specs.declared.asking.AgcBounds.{AgcBounds}

-- no job lives, no task waits, and these are the phases and codes; of each core set's words
-- PRIORITY alone changed
pub record Empties (base : Base) (old new : List ℕ) : Type 0 where
  pub jobs : jobs_in new ≡ no_jobs (sets_in new)
  pub placed : entries_in new ≡ replicate (sets_in new) 0
  pub waits : waits_of new ≡ []
  pub tidy_cores : cores.IsTidy new
  pub tidy_waits : table.IsTidy new
  pub words : blocks_of new ≡ map freed_block (blocks_of old)
  pub base_is : base_of new ≡ base

-- the array has the image of a fresh start of words that are all 00000, and the numbers after it
-- are as before
pub record IsFresh (sets : ℕ) (old new : List ℕ) : Type 0 where
  pub image : IsImage sets new
  pub empties : Empties fresh_base (replicate (size_with sets) 0) (image_of sets new)
  pub rest : behind sets new ≡ behind sets old

-- a task was listed, or there was no room
abbrev pub listing : Bool → Reply
listing accepted = if accepted then Listed else Alarmed A1203

-- the words become these by a request, with this reply
abbrev pub Does : Request → List ℕ → List ℕ → Reply → Type 0
Does (request.Novac priority entry) old new reply = DoesNovac priority entry old new reply
Does (request.Findvac priority entry) old new reply = DoesFindvac priority entry old new reply
Does request.EndOfJob old new reply = DoesEnd old new reply
Does (request.Sleep at) old new reply = DoesSleep at old new reply
Does (request.Rouse at) old new reply = DoesWake at old new reply
Does (request.Prio priority) old new reply = DoesPrio priority old new reply
Does request.Change old new reply = DoesChange old new reply
Does (request.Store place word) old new reply = DoesStore place word old new reply
Does (request.List delay task) old new reply =
    (accepted : Bool) × (Lists delay task old accepted new × (reply ≡ listing accepted))
Does request.Tick old new reply = (due : Bool) × (Counts old due new × (reply ≡ Ticked None))
Does (request.SetPhase group phase) old new reply =
    Becomes (with_phase group phase (base_of old)) old new × (reply ≡ Phased)
Does request.Restart old new reply = Empties (base_of old) old new × (reply ≡ Restarted)
Does request.Fresh old new reply = Empties fresh_base old new × (reply ≡ Restarted)

-- the numbers are a request, which was served: the array's words became others by it, and its
-- reply is told
pub record Serves (asked : AgcRequest) (sets : ℕ) (old new : List ℕ) (result : AgcReply)
    : Type 0 where
  pub request : Request
  pub asked_is : request_from_c asked ≡ Some request
  pub reply : Reply
  pub told : result ≡ reply_to_c reply
  pub changed : Changed (λ these those. Does request these those reply) sets old new

-- a call was not served: the array is as before, and nothing but the code is told
abbrev pub Refuses : List ℕ → List ℕ → AgcReply → Type 0
Refuses old new result = (new ≡ old) × (result ≡ refusal result.code)

-- a tick where a task is due before it
abbrev pub is_late : Request → List ℕ → Bool
is_late request.Tick words = is_due (waits_of words)
is_late asked words = false

-- a task is due now
abbrev pub one_due : ℕ → List ℕ → Bool
one_due sets array = is_due (waits_of (image_of sets array))

-- the code of numbers that are to be a request, and one that isn't late
abbrev pub call_code : AgcRequest → ℕ → List ℕ → ℕ
call_code asked sets array =
    option_map_or (λ r. code_unless (not (is_late r (image_of sets array))) NotNow)
    (request_from_c asked) (code_of (request_fault asked))

-- the actions of a pulse: at most four
abbrev pub are_few : List AgcRequest → Bool
are_few actions = nat_le (length actions) 4 && list_all is_action actions

-- the first thing that is wrong: the line, 0 the timer's, 1 the keys', 2 the radar's, or actions
abbrev pub pulse_lacks : ℕ → List AgcRequest → List AgcRequest → Option Fault
pulse_lacks line key radar =
    if nat_lt 2 line then Some OutOfRange
    else if not (are_few key && are_few radar) then Some PlanRange
    else None

abbrev pub line_from_c : ℕ → Line
line_from_c line = if line == 0 then Timer else if line == 1 then Key else Radar

-- the numbers of what a pulse asks for, by a plan that has these actions done for a key and a radar
-- pulse
abbrev pub pulse_to_c : ℕ → List AgcRequest → List AgcRequest → List AgcRequest
pulse_to_c line key radar = map numbers_of (pulse_requests
    (planned_with
    (record {
      rows = [];
      entries = [];
      key = map action_from_c key;
      radar = map action_from_c radar;
    })
    7)
    (line_from_c line))

abbrev pub refusal_code : Option Refusal → ℕ
refusal_code None = 0
refusal_code (Some Spent) = 19
refusal_code (Some LogFull) = 20

-- no more are served than the allowance says; a full log refuses what doesn't start over
abbrev pub bounds_code : AgcBounds → Request → ℕ
bounds_code bounds asked =
    if nat_le bounds.allowance bounds.served then 19
    else if nat_le bounds.limit bounds.logged && not (starts_over asked) then 20
    else 0

-- the code of numbers that are no request, or else that of the counts
abbrev pub refused_code : AgcRequest → AgcBounds → ℕ
refused_code numbers bounds =
    option_map_or (bounds_code bounds) (request_from_c numbers) (code_of (request_fault numbers))

-- a machine has these counts
pub record HasCounts (m : Machined) (bounds : AgcBounds) : Type 0 where
  pub served : m.totals.served ≡ bounds.served
  pub allowance : m.allowance ≡ bounds.allowance
  pub logged : length m.log ≡ bounds.logged
  pub limit : m.limit ≡ bounds.limit
