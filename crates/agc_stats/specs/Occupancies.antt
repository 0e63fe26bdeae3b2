-- How full the tables are.
use Rattle.std.specs.Prelude.{nat_lt, Bool, false, Option, Some, None, length, is_some}
use Rattle.std.specs.List.{count_by}
use Rattle.agc_exec.specs.declared.seats.Seat.{Seat}
use Rattle.agc_run.specs.Scenes.{Scene}
use Rattle.agc_stats.specs.declared.occupancy.Occupancy.{Occupancy}

-- whether the job in a core set owns an area
abbrev pub owns_area : Option Seat → Bool
owns_area None = false
owns_area (Some seat) = nat_lt 0 seat.area

-- in a scene each job takes a core set, each job that owns one an area, and each task that waits a
-- place of the Waitlist
abbrev pub occupancy_of : Scene → Occupancy
occupancy_of scene = record {
  sets = count_by is_some scene.seats;
  areas = count_by owns_area scene.seats;
  tasks = length scene.waits;
  runs = is_some scene.running;
}
