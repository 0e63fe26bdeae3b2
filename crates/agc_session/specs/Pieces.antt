-- The requests of a bench or script, piece by piece, each with the source that asks for it.
use Rattle.std.specs.Prelude.{◌≡◌, ℕ, ◌+◌, List, [], ◌∷◌, ◌++◌, Bool, true, false, drop, map}
use Rattle.std.specs.Prelude.{if◌then◌else◌, Option, Some, None, replicate}
use Rattle.std.specs.List.{flat_map}
use Rattle.agc_plan.specs.declared.line.Line.{Line}
use Rattle.agc_plan.specs.declared.request.Action.{Action}
use Rattle.agc_plan.specs.declared.request.Request.{Request}
use Rattle.agc_plan.specs.Plans.{planned_with}
use Rattle.agc_plan.specs.Pulses.{pulse_requests}
use Rattle.agc_document.specs.Benches.{Benched}
use Rattle.agc_session.specs.declared.source.PendingRequest.{PendingRequest}
use Rattle.agc_session.specs.declared.source.Source.{Source}
use Rattle.agc_session.specs.declared.source.Source.TheVariants.{Script, Worker, Pulse, Clock, Event}

-- whether time makes the requests of a source: a clock does, or an event
abbrev pub is_in_time : Source → Bool
is_in_time Clock = true
is_in_time (Event event) = true
is_in_time other = false

-- requests that one source asks for, one after the other
pub record Piece : Type 0 where
  pub source : Source
  pub requests : List Request

-- its requests, each with their source
abbrev pub asks_in : Piece → List PendingRequest
asks_in piece = map (λ asked. record { source = piece.source; request = asked }) piece.requests

-- the workers' pieces, from this number on
abbrev pub worker_pieces : ℕ → List (List Request) → List Piece
worker_pieces k [] = []
worker_pieces k (requests ∷ others) =
    record { source = Worker k; requests = requests } ∷ worker_pieces (k + 1) others

-- the requests of a pulse, with these actions for key and radar
abbrev pub pulse_asks : List Action → List Action → Line → List Request
pulse_asks key radar line = pulse_requests
    (planned_with (record { rows = []; entries = []; key = key; radar = radar }) 0) line

-- a device's: one for each pulse
abbrev pub pulse_piece : List Action → List Action → Line → Piece
pulse_piece key radar line = record { source = Pulse line; requests = pulse_asks key radar line }

abbrev pub device_pieces : List Action → List Action → Line × ℕ → List Piece
device_pieces key radar device = replicate device.1 (pulse_piece key radar device.0)

abbrev pub script_piece : List Request → Piece
script_piece script = record { source = Script; requests = script }

-- a bench's: its script, then each worker's, then each device's pulses
unfoldable pub bench_pieces : Benched → List Piece
bench_pieces bench = script_piece bench.script ∷ (worker_pieces 1 bench.workers
    ++ flat_map (device_pieces bench.key bench.radar) bench.devices)

-- where a walk stands: what it goes through; the piece on which it stands, of which this many
-- requests were taken, and which comes this many times more; whether the script was walked, and
-- how many workers and devices were
pub record Walked : Type 0 where
  pub script : List Request
  pub workers : List (List Request)
  pub devices : List (Line × ℕ)
  pub key : List Action
  pub radar : List Action
  pub here : Piece
  pub at : ℕ
  pub left : ℕ
  pub begun : Bool
  pub worker : ℕ
  pub device : ℕ

-- the pieces that are still to come
unfoldable pub to_come : Walked → List Piece
to_come w = replicate w.left w.here ++ ((if w.begun then [] else script_piece w.script ∷ [])
    ++ (worker_pieces (w.worker + 1) (drop w.worker w.workers)
    ++ flat_map (device_pieces w.key w.radar) (drop w.device w.devices)))

-- one step of a walk: it stands on what came first, or nothing was to come, nor is
abbrev pub Advances : Walked → Bool → Walked → Type 0
Advances old true new = to_come old ≡ new.here ∷ to_come new
Advances old false new = (to_come old ≡ []) × (to_come new ≡ [])

-- the requests that are still to come
unfoldable pub rest : Walked → List PendingRequest
rest w = drop w.at (asks_in w.here) ++ flat_map asks_in (to_come w)

-- the first of that is taken, or there was none
abbrev pub Takes : Walked → Option PendingRequest → Walked → Type 0
Takes old (Some asked) new = rest old ≡ asked ∷ rest new
Takes old None new = (rest old ≡ []) × (rest new ≡ [])

-- the requests of the piece: the bench's own, or the pulse's
abbrev pub requests_here : Source → List Request → List Request → List Request
requests_here (Pulse line) lent pulse = pulse
requests_here other lent pulse = lent
