-- The reasons why eras begin and end.
use Rattle.std.specs.Prelude.{Bool, true, false, if◌then◌else◌, Option, Some, None}
use Rattle.agc_plan.specs.declared.reply.Alarm.{Alarm}
use Rattle.agc_plan.specs.declared.request.Request.{Request}
use Rattle.agc_plan.specs.declared.request.Request.TheVariants as request
use Rattle.agc_stats.specs.declared.era.EraBoundary.{EraBoundary}
use Rattle.agc_stats.specs.declared.era.EraBoundary.TheVariants as boundary

-- whether a request is a fresh start
abbrev pub is_fresh : Request → Bool
is_fresh request.Fresh = true
is_fresh asked = false

-- an alarm, or else a fresh start or a restart
abbrev pub boundary_of : Request → Option Alarm → EraBoundary
boundary_of asked (Some alarm) = boundary.Alarm alarm
boundary_of asked None = if is_fresh asked then boundary.FreshStart else boundary.Restart
