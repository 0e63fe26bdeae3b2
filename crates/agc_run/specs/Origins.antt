-- Since which request each job and each task is there.
use Rattle.std.specs.Prelude.{ℕ, ◌-◌, ◌==◌, Bool, if◌then◌else◌, List, [], ◌∷◌, map, drop}
use Rattle.std.specs.Prelude.{Option, Some, None, unwrap_or}
use Rattle.std.specs.List.{flat_map}
use Rattle.agc_plan.specs.Tasks.{Waiting}
use Rattle.agc_exec.specs.declared.seats.Seat.{Seat}
use Rattle.agc_run.specs.declared.origins.Origin.{Origin}
use Rattle.agc_run.specs.declared.origins.Since.{Since}
use Rattle.agc_run.specs.declared.listings.Listing.{Listing}

-- since when the job of this number is there, if that is known
abbrev pub known_since : List Origin → ℕ → Option Since
known_since [] job = None
known_since (origin ∷ origins) job =
    if origin.job == job then Some origin.since else known_since origins job

-- of the job in a core set: what was known, or else that it came now
abbrev pub origin_in : Since → List Origin → Option Seat → List Origin
origin_in now origins None = []
origin_in now origins (Some seat) =
    record { job = seat.number; since = unwrap_or (known_since origins seat.number) now } ∷ []

-- of all jobs in core sets; those that are gone are forgotten
abbrev pub origins_after : Since → List Origin → List (Option Seat) → List Origin
origins_after now origins seats = flat_map (origin_in now origins) seats

-- a task that was there, a tick later or not
abbrev pub nearer : (ticked : Bool) → Listing → Listing
nearer ticked listing =
    if ticked then record { distance = listing.distance - 1; since = listing.since } else listing

-- the tasks that were listed and have not fired, in order
abbrev pub left_by : (ticked : Bool) → (fired : ℕ) → List Listing → List Listing
left_by ticked fired listings = map (nearer ticked) (drop fired listings)

-- the tasks that wait now, in order: of those that are due at one time the ones that were there
-- stand first, since they arrived first; the others came now
abbrev pub listings_after : Since → (were : List Listing) → List Waiting → List Listing
listings_after now were [] = []
listings_after now [] (wait ∷ waits) =
    record { distance = wait.distance; since = now } ∷ listings_after now [] waits
listings_after now (first ∷ were) (wait ∷ waits) =
    if first.distance == wait.distance then first ∷ listings_after now were waits
    else record { distance = wait.distance; since = now } ∷ listings_after now (first ∷ were) waits
