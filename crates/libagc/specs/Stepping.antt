-- The effect of a whole step on a caller's words, of an era that begins by a caller's entries, and
-- of power coming back.
use Rattle.std.specs.Prelude.{◌≡◌, ◌⊎◌, ℕ, ◌==◌, nat_lt, true, false, if◌then◌else◌, List, Some}
use Rattle.std.specs.Prelude.{None, length, slice_get, ◌↔◌, IsTrue, ◌||◌, Bool, []}
use Rattle.agc_plan.specs.declared.reply.Reply.{Reply}
use Rattle.agc_plan.specs.declared.request.Request.{Request}
use Rattle.agc_plan.specs.declared.request.Task.{Task}
use Rattle.agc_plan.specs.Plans.{Planned, planned_with}
use Rattle.agc_word.specs.Layout.{sets_in}
use Rattle.agc_wait.specs.Table.{waits_of}
use Rattle.agc_wait.specs.Waits.{is_due}
use Rattle.libagc.specs.declared.reading.AgcRequest.{AgcRequest}
use Rattle.libagc.specs.declared.plans.AgcPhaseEntry.{AgcPhaseEntry}
use Rattle.libagc.specs.declared.plans.AgcRow.{AgcRow}
use Rattle.libagc.specs.Numbers.{is_request, request_from_c, request_fault}
use Rattle.libagc.specs.Codes.{NoImage, code_of, reply_to_c}
use Rattle.agc_image.specs.Images.{Changed, IsImage, image_of, AreWords, IsSets, behind}
use Rattle.libagc.specs.Plans.{plan_from_c}
use Rattle.agc_machine.specs.Stands.{Acts, StepsTo, FiresIn, RaisesIn, IsReady, Stands}
use Rattle.libagc.specs.declared.steps.AgcFired.{AgcFired}
use Rattle.libagc.specs.declared.steps.AgcStep.{AgcStep}
use Rattle.std.specs.Option.{is_some, option_map_or}
use Rattle.agc_plan.specs.Base.{Base, with_code}
use Rattle.agc_plan.specs.Seats.{era_places}
use Rattle.agc_plan.specs.Steps.{begun}
use Rattle.agc_phase.specs.Image.{ArePairs, base_of, code_of_word, power_base}

-- a reply, with this many tasks that fired, the last of which raised an alarm by the action of this
-- number
abbrev pub step_to_c : Reply → ℕ → ℕ → AgcStep
step_to_c reply fired action = record {
  code = 0;
  reply = (reply_to_c reply).reply;
  number = (reply_to_c reply).number;
  fired = fired;
  action = action;
}

-- the number of an action: a row has four, and one that fits no number of C would be told as 0
abbrev pub action_to_c : ℕ → ℕ
action_to_c number = if nat_lt number 4294967296 then number else 0

-- a step was not served
abbrev pub step_refusal : ℕ → AgcStep
step_refusal code = record { code = code; reply = 0; number = 0; fired = 0; action = 0 }

-- the plan of these rows and entries, on a computer with as many core sets as these words have
abbrev pub plan_for : List AgcRow → List AgcPhaseEntry → List ℕ → Planned
plan_for rows entries words = planned_with (plan_from_c rows entries) (sets_in words)

-- the report on a task that fired
abbrev pub fired_to_c : Task → AgcFired
fired_to_c task = record { at = task.at; bank = task.bank }

-- the first places have these tasks, in order, and the others are as before
pub record AreHandedOut (fired : List Task) (before after : List AgcFired) : Type 0 where
  pub first : (k : ℕ) (task : Task) → slice_get fired k ≡ Some task → slice_get after k ≡ Some
      (fired_to_c task)
  pub others : (k : ℕ) → slice_get fired k ≡ None → slice_get after k ≡ slice_get before k

-- the step of this request by the caller's plan: the array's words became others by it, these tasks
-- fired, and the reply is told. The moment has the words before an era began
pub record Steps (rows : List AgcRow) (entries : List AgcPhaseEntry) (asked : Request) (sets : ℕ)
    (old new moment : List ℕ) (before after : List AgcFired) (result : AgcStep) : Type 0 where
  pub reply : Reply
  pub fired : List Task
  pub action : ℕ
  pub told : result ≡ step_to_c reply (length fired) (action_to_c action)
  pub handed_out : AreHandedOut fired before after
  pub fires : FiresIn (plan_for rows entries (image_of sets old)) asked (image_of sets old) fired
  pub raises : RaisesIn (plan_for rows entries (image_of sets old)) asked (image_of sets old) action
  pub acted : Changed (λ these those. Acts (plan_for rows entries these) asked these reply those)
      sets old moment
  pub changed : Changed (λ these those. StepsTo (plan_for rows entries these) asked these reply
      those)
      sets old new

-- the numbers are a request, and it was served
pub record Serves (rows : List AgcRow) (entries : List AgcPhaseEntry) (asked : AgcRequest)
    (sets : ℕ)
    (old new moment : List ℕ) (before after : List AgcFired) (result : AgcStep) : Type 0 where
  pub request : Request
  pub asked_is : request_from_c asked ≡ Some request
  pub steps : Steps rows entries request sets old new moment before after result

-- nothing was done: the array and what fired are as before, and the moment has the array
pub record Refuses (old new moment : List ℕ) (before after : List AgcFired) (result : AgcStep)
    : Type 0 where
  pub words : new ≡ old
  pub fired : after ≡ before
  pub moment_is : moment ≡ old
  pub told : result ≡ step_refusal result.code

-- the code of numbers that are to be a request
abbrev pub request_code : AgcRequest → ℕ
request_code asked = if is_request asked then 0 else code_of (request_fault asked)

-- the code of lawful words that are to be between requests, and then of a plan: a task is due, or
-- else they are such as no step leaves
abbrev pub Lacks : ℕ → List ℕ → ℕ → Type 0
Lacks code words plan =
    ((is_due (waits_of words) ≡ true) × (code ≡ 6))
    ⊎ (((is_due (waits_of words) ≡ false) × ¬ IsReady words × (code ≡ 8))
    ⊎ (IsReady words × (code ≡ plan)))

-- the code of an array on which a step is to be asked, by no plan: of its image, or its time
abbrev pub Allows : ℕ → ℕ → List ℕ → Type 0
Allows code sets array =
    (IsImage sets array × Lacks code (image_of sets array) 0) ⊎ NoImage code sets array

-- the code of a step: the first that isn't 0 of its image's, its request's, its time's and its
-- plan's
abbrev pub StepCoded : ℕ → ℕ → List ℕ → AgcRequest → ℕ → Type 0
StepCoded code sets array asked plan =
    NoImage code sets array
    ⊎ ((IsImage sets array × (is_request asked ≡ false) × (code ≡ code_of (request_fault asked)))
    ⊎ (IsImage sets array × (is_request asked ≡ true) × Lacks code (image_of sets array) plan))

-- the phases and codes after this alarm was recorded; 0 is none
abbrev pub base_after : ℕ → Base → Base
base_after alarm base = option_map_or (λ code. with_code code base) (code_of_word alarm) base

-- an era began in these words with these phases and codes: the jobs and tasks are those of the
-- entries for the phases
pub record BeginsWith (entries : List AgcPhaseEntry) (base : Base) (words : List ℕ) : Type 0 where
  pub ready : IsReady words
  pub base_is : base_of words ≡ base
  pub stands : Stands words (begun (plan_for [] entries words) base.phases)
      (era_places (plan_for [] entries words) base)

-- an era begins after this alarm
pub record Begins (entries : List AgcPhaseEntry) (alarm : ℕ) (old new : List ℕ) : Type 0 where
  pub same_length : length new ≡ length old
  pub begins : BeginsWith entries (base_after alarm (base_of old)) new

-- the code of a number that is to be an alarm, or 0 if there is none
abbrev pub alarm_lack : ℕ → ℕ
alarm_lack alarm = if alarm == 0 || is_some (code_of_word alarm) then 0 else 4

-- 01107 where phase words don't agree
abbrev pub power_number : Bool → ℕ
power_number recovered = if recovered then 0 else 0o1107

-- power came back with these phase words: an era began in an image by them alone, and the numbers
-- after it are as before
pub record PowersUp (sets : ℕ) (entries : List AgcPhaseEntry) (phase_words old new : List ℕ)
    (number : ℕ) : Type 0 where
  pub recovered : Bool
  pub agreed : IsTrue recovered ↔ ArePairs phase_words
  pub number_is : number ≡ power_number recovered
  pub image : IsImage sets new
  pub begins : BeginsWith entries (power_base recovered phase_words) (image_of sets new)
  pub rest : behind sets new ≡ behind sets old

-- the code of a power-up: core sets, words, and then the plan's
pub record PowerCoded (code sets : ℕ) (phase_words : List ℕ) (plan : ℕ) : Type 0 where
  pub no_such_sets : ¬ IsSets sets → code ≡ 1
  pub not_words : IsSets sets → ¬ AreWords phase_words → code ≡ 2
  pub other : IsSets sets → AreWords phase_words → code ≡ plan
