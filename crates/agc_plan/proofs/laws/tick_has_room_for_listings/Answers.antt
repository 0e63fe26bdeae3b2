use Rattle.agc_plan.proofs.Alarms.{tick_has_room}
use Rattle.agc_plan.proofs.laws.tick_has_room_for_listings.Goals as goal

pub returns : goal.returns
returns c = tick_has_room
