-- Which code comes when, and how an answer is told in numbers.
use Rattle.std.specs.Prelude.{◌≡◌, ◌⊎◌, ℕ, ◌==◌, Bool, if◌then◌else◌, List, Option, Some, None}
use Rattle.libagc.specs.declared.fault.Fault.{Fault}
use Rattle.libagc.specs.declared.fault.Fault.TheVariants as fault
use Rattle.agc_image.specs.Images.{IsSets, image_of, AreWords, IsLawful, IsImage}
use Rattle.agc_plan.specs.declared.reply.Alarm.{Alarm}
use Rattle.agc_plan.specs.declared.reply.Alarm.TheVariants.{A1201, A1202, A1203}
use Rattle.agc_plan.specs.declared.reply.Reply.{Reply}
use Rattle.agc_plan.specs.declared.reply.Reply.TheVariants as reply
use Rattle.libagc.specs.declared.reply.AgcReply.{AgcReply}
use Rattle.agc_image.specs.declared.rule.Rule.{Rule}
use Rattle.agc_image.specs.Rules.{Breaks, IsNumberOf}
use Rattle.libagc.specs.declared.explaining.AgcFinding.{AgcFinding}

-- the code of a fault
abbrev pub code_of : Fault → ℕ
code_of fault.NoSuchSets = 1
code_of fault.NotWords = 2
code_of fault.Unlawful = 3
code_of fault.OutOfRange = 4
code_of fault.NotAWord = 5
code_of fault.NotNow = 6
code_of fault.Untidy = 8
code_of fault.PlanRange = 9
code_of fault.TaskTwice = 10
code_of fault.PhaseTwice = 11
code_of fault.TooManyAreas = 12
code_of fault.NotSpelled = 13
code_of fault.NoRoom = 14
code_of fault.TimeRange = 15
code_of fault.StealTwice = 16
code_of fault.CostTwice = 17

-- the code of a fault, 0 if there is none
abbrev pub code_for : Option Fault → ℕ
code_for None = 0
code_for (Some fault) = code_of fault

-- the code of this fault where what a call wants doesn't hold
abbrev pub code_unless : Bool → Fault → ℕ
code_unless held fault = if held then 0 else code_of fault

-- an array has no image, and the code says what it lacks first: a number of core sets, words, or
-- lawful ones
unfoldable pub NoImage : ℕ → ℕ → List ℕ → Type 0
NoImage code sets array =
    (¬ IsSets sets × (code ≡ 1))
    ⊎ ((IsSets sets × ¬ AreWords (image_of sets array) × (code ≡ 2))
    ⊎ (IsSets sets × AreWords (image_of sets array) × ¬ IsLawful (image_of sets array)
    × (code ≡ 3)))

-- the code of a call that wants an image, and then what has the other code, 0 for nothing
abbrev pub Coded : ℕ → ℕ → List ℕ → ℕ → Type 0
Coded code sets array other =
    (IsImage sets array × (code ≡ other)) ⊎ NoImage code sets array

-- the first of two codes that isn't 0
abbrev pub first_of : ℕ → ℕ → ℕ
first_of a b = if a == 0 then b else a

-- the word that FAILREG has for an alarm
abbrev pub alarm_code : Alarm → ℕ
alarm_code A1201 = 0o1201
alarm_code A1202 = 0o1202
alarm_code A1203 = 0o1203

-- a reply of this kind, with this number
abbrev pub reply_with : ℕ → ℕ → AgcReply
reply_with kind number = record { code = 0; reply = kind; number = number }

-- a reply's kind, and the job or the alarm that it names
abbrev pub reply_to_c : Reply → AgcReply
reply_to_c (reply.Established number) = reply_with 1 number
reply_to_c (reply.Left (Some number)) = reply_with 2 number
reply_to_c (reply.Left None) = reply_with 3 0
reply_to_c (reply.Roused number) = reply_with 4 number
reply_to_c reply.NoSleeper = reply_with 5 0
reply_to_c reply.NoJob = reply_with 6 0
reply_to_c (reply.Runs number) = reply_with 7 number
reply_to_c reply.Stored = reply_with 8 0
reply_to_c reply.Listed = reply_with 9 0
reply_to_c (reply.Alarmed alarm) = reply_with 10 (alarm_code alarm)
reply_to_c reply.Phased = reply_with 11 0
reply_to_c (reply.Ticked None) = reply_with 12 0
reply_to_c (reply.Ticked (Some alarm)) = reply_with 13 (alarm_code alarm)
reply_to_c reply.Restarted = reply_with 14 0

-- a call was not served
abbrev pub refusal : ℕ → AgcReply
refusal code = record { code = code; reply = 0; number = 0 }

-- nothing is told but this code
abbrev pub only_code : ℕ → AgcFinding
only_code code = record { code = code; rule = 0; place = 0; found = 0; wanted = 0 }

-- the number is that of a rule, which the word at this place breaks
abbrev pub IsBroken : ℕ → List ℕ → ℕ → ℕ → Type 0
IsBroken number words sets place =
    (r : Rule) × IsNumberOf number r × Breaks r words sets place
