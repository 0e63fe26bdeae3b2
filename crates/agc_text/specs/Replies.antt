-- The lines that answer requests.
use Rattle.std.specs.Prelude.{ℕ, List, [], ◌∷◌, ◌++◌, codes, Option, Some, None, Result, Ok, Err}
use Rattle.std.specs.List.{flat_map}
use Rattle.std.specs.Fmt.{decimal}
use Rattle.agc_plan.specs.declared.reply.Alarm.{Alarm}
use Rattle.agc_plan.specs.declared.reply.Alarm.TheVariants.{A1201, A1202, A1203}
use Rattle.agc_plan.specs.declared.reply.Reply.{Reply}
use Rattle.agc_plan.specs.declared.reply.Reply.TheVariants.{Established, Left, Roused, NoSleeper}
use Rattle.agc_plan.specs.declared.reply.Reply.TheVariants.{NoJob, Runs, Stored, Listed, Ticked}
use Rattle.agc_plan.specs.declared.reply.Reply.TheVariants.{Phased, Restarted, Alarmed}
use Rattle.agc_plan.specs.declared.request.Task.{Task}
use Rattle.agc_machine.specs.declared.answer.Refusal.{Refusal}
use Rattle.agc_machine.specs.declared.answer.Refusal.TheVariants.{Spent, LogFull}
use Rattle.agc_text.specs.Numbers.{octal}

-- a word: a space, and five octal digits
abbrev pub word_text : ℕ → List ℕ
word_text word = 32 ∷ octal 5 word

-- words, one after another
abbrev pub words_text : List ℕ → List ℕ
words_text words = flat_map word_text words

-- an alarm, by its code
abbrev pub alarm_text : Alarm → List ℕ
alarm_text A1201 = codes "alarm 1201"
alarm_text A1202 = codes "alarm 1202"
alarm_text A1203 = codes "alarm 1203"

-- the job that runs now
abbrev pub runner_text : Option ℕ → List ℕ
runner_text None = codes "idle"
runner_text (Some number) = decimal number

-- a task that fired: its address and its bank
abbrev pub fired_text : Task → List ℕ
fired_text task = 32 ∷ octal 5 task.at ++ 47 ∷ octal 5 task.bank

-- the alarm that ended a tick, if one did
abbrev pub end_text : Option Alarm → List ℕ
end_text None = []
end_text (Some alarm) = 32 ∷ alarm_text alarm

-- the text of a reply; for a tick, with the tasks that fired
abbrev pub reply_text : List Task → Reply → List ℕ
reply_text fired (Established number) = codes "job " ++ decimal number
reply_text fired (Left runner) = codes "left " ++ runner_text runner
reply_text fired (Roused number) = codes "roused " ++ decimal number
reply_text fired NoSleeper = codes "no sleeper"
reply_text fired NoJob = codes "no job"
reply_text fired (Runs number) = codes "runs " ++ decimal number
reply_text fired Stored = codes "stored"
reply_text fired Listed = codes "listed"
reply_text fired (Ticked alarm) = codes "tick" ++ flat_map fired_text fired ++ end_text alarm
reply_text fired Phased = codes "phased"
reply_text fired Restarted = codes "restarted"
reply_text fired (Alarmed alarm) = alarm_text alarm

-- why there is no reply
abbrev pub refusal_text : Refusal → List ℕ
refusal_text Spent = codes "refused spent"
refusal_text LogFull = codes "refused log full"

-- a reply, or why there is none
abbrev pub answer_text : List Task → Result Reply Refusal → List ℕ
answer_text fired (Ok reply) = reply_text fired reply
answer_text fired (Err refusal) = refusal_text refusal
