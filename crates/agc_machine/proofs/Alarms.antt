-- What a reply's alarm alone tells.
use Rattle.std.proofs.Common.{◌≡◌, false, Option, Some, None, refl}
use Rattle.agc_plan.specs.declared.reply.Alarm.{Alarm}
use Rattle.agc_plan.specs.declared.reply.Reply.{Reply}
use Rattle.agc_plan.specs.declared.reply.Reply.TheVariants.{Alarmed, Ticked}
use Rattle.agc_plan.specs.Base.{Base}
use Rattle.agc_plan.specs.Steps.{alarm_of, base_after, begins}
use Rattle.agc_machine.specs.Stands.{base_with, listing_told}

pub base_by_alarm : (reply : Reply) (base : Base) → base_with (alarm_of reply) base ≡ base_after reply base
base_by_alarm (Alarmed alarm) base = refl
base_by_alarm (Ticked (Some alarm)) base = refl
base_by_alarm (Ticked None) base = refl
base_by_alarm reply base = refl

-- a tick with which no era begins has no alarm
pub no_alarm : (alarm : Option Alarm) → begins (Ticked alarm) ≡ false → alarm ≡ None
no_alarm None goes = refl
no_alarm (Some alarm) goes = absurd (cc)

-- the alarm that a listing's reply tells
pub listing_alarm : (alarm : Option Alarm) → alarm ≡ alarm_of (listing_told alarm)
listing_alarm None = refl
listing_alarm (Some alarm) = refl
