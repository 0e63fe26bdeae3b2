-- How an answer changes the totals.
use Rattle.std.specs.Prelude.{◌+◌, Result, Ok, Err}
use Rattle.std.specs.Option.{option_map_or}
use Rattle.agc_plan.specs.declared.reply.Alarm.{Alarm}
use Rattle.agc_plan.specs.declared.reply.Alarm.TheVariants.{A1201, A1202, A1203}
use Rattle.agc_plan.specs.declared.reply.Reply.{Reply}
use Rattle.agc_plan.specs.declared.reply.Reply.TheVariants.{Restarted}
use Rattle.agc_plan.specs.Steps.{alarm_of}
use Rattle.agc_machine.specs.declared.answer.Refusal.{Refusal}
use Rattle.agc_machine.specs.declared.totals.Totals.{Totals}

-- nothing was told
abbrev pub nothing : Totals
nothing = record { served = 0; a1201 = 0; a1202 = 0; a1203 = 0; restarts = 0 }

-- the sum of two totals
abbrev pub add : Totals → Totals → Totals
add s t =
    record { served = s.served + t.served; a1201 = s.a1201 + t.a1201; a1202 = s.a1202 + t.a1202; a1203 = s.a1203 + t.a1203; restarts = s.restarts + t.restarts }

-- an alarm tells one served, one alarm and one restart
abbrev pub alarm_told : Alarm → Totals
alarm_told A1201 = record { served = 1; a1201 = 1; a1202 = 0; a1203 = 0; restarts = 1 }
alarm_told A1202 = record { served = 1; a1201 = 0; a1202 = 1; a1203 = 0; restarts = 1 }
alarm_told A1203 = record { served = 1; a1201 = 0; a1202 = 0; a1203 = 1; restarts = 1 }

-- the totals of a reply: one served, and one restart if an era began with it
abbrev pub reply_told : Reply → Totals
reply_told Restarted = record { served = 1; a1201 = 0; a1202 = 0; a1203 = 0; restarts = 1 }
reply_told reply =
    let quiet : Totals = record { served = 1; a1201 = 0; a1202 = 0; a1203 = 0; restarts = 0 } in
    option_map_or alarm_told (alarm_of reply) quiet

-- the totals of an answer: none for a refusal
abbrev pub told : Result Reply Refusal → Totals
told (Ok reply) = reply_told reply
told (Err refusal) = nothing
