-- The pieces of a bench that are still to come.
use Rattle.std.proofs.Common.{◌≡◌, ℕ, List, [], ◌∷◌, ◌++◌, ◌+◌, ◌-◌, ◌<◌, ◌≤◌, true, false, length, get_or, drop, map, replicate, subst, refl, sym, ap, ◌∙◌, arith, suc, zero}
use Rattle.std.specs.List.{flat_map}
use Rattle.std.proofs.lemmas.List.{drop-map}
use Rattle.std.proofs.lemmas.List.Concat.{flat_map-cons, flat_map-append}
use Rattle.agc_plan.proofs.Lists.{next_is, none_left}
use Rattle.agc_plan.specs.declared.line.Line.{Line}
use Rattle.agc_plan.specs.declared.line.Line.TheVariants.{Timer, Key, Radar}
use Rattle.agc_plan.specs.declared.request.Action.{Action}
use Rattle.agc_plan.specs.declared.request.Request.{Request}
use Rattle.agc_plan.specs.Pulses.{pulse_requests, repeated}
use Rattle.agc_document.specs.Benches.{Benched}
use Rattle.agc_session.specs.declared.source.PendingRequest.{PendingRequest}
use Rattle.agc_session.specs.declared.source.Source.{Source}
use Rattle.agc_session.specs.declared.source.Source.TheVariants.{Script, Worker}
use Rattle.agc_session.specs.Pieces.{Piece, Walked, asks_in, bench_pieces, device_pieces, pulse_asks, pulse_piece, rest, script_piece, to_come, worker_pieces}
use Rattle.agc_session.specs.Runs.{bench_plan, bench_requests}

-- the requests of a device
abbrev device_requests : Benched → Line × ℕ → List Request
device_requests bench device = repeated (pulse_requests (bench_plan bench) device.0) device.1

-- a request with its source
abbrev pub by_source : Source → Request → PendingRequest
by_source source request = record { source = source; request = request }

-- the requests of a piece
abbrev pub piece_requests : Piece → List Request
piece_requests piece = piece.requests

-- before the first, all are to come
pub at_first : (bench : Benched) (here : Piece) (s : List Request) (ws : List (List Request)) (ds : List (Line × ℕ)) (k r : List Action) → s ≡ bench.script → ws ≡ bench.workers → ds ≡ bench.devices → k ≡ bench.key → r ≡ bench.radar → to_come (record { script = s; workers = ws; devices = ds; key = k; radar = r; here = here; at = 0; left = 0; begun = false; worker = 0; device = 0 }) ≡ bench_pieces bench
unfolding to_come bench_pieces
at_first bench here s ws ds k r si wi di ki ri = rw (si, wi, di, ki, ri) refl

pub none_taken : (w : Walked) (ps : List Piece) → w.at ≡ 0 → asks_in w.here ≡ [] → to_come w ≡ ps → rest w ≡ flat_map asks_in ps
unfolding rest
none_taken w ps at none is =
    ap (λ (k : ℕ). drop k (asks_in w.here) ++ flat_map asks_in (to_come w)) at
    ∙ ap (λ (xs : List PendingRequest). xs ++ flat_map asks_in (to_come w)) none ∙ ap (flat_map asks_in) is

-- one of so many
front_of : (n : ℕ) (p : Piece) → 0 < n → replicate n p ≡ p ∷ replicate (n - 1) p
front_of zero p l = absurd (omega (arith, l))
front_of (suc n) p l = ap (λ (k : ℕ). p ∷ replicate k p) (omega arith)

-- the piece on which it stands comes once more
pub at_here : (w : Walked) → 0 < w.left → to_come w ≡ w.here ∷ to_come (record w { left = w.left - 1 })
unfolding to_come
at_here w l = rw (front_of w.left w.here l) refl

-- the script comes
pub at_script : (w : Walked) (rs : List Request) → w.left ≡ 0 → w.begun ≡ false → rs ≡ w.script → to_come w ≡ record { source = Script; requests = rs } ∷ to_come (record w { here = record { source = Script; requests = rs }; begun = true })
unfolding to_come
at_script w rs l b is = rw (l, b, is) refl

-- the next worker comes
pub at_worker : {V : Type 0} → (f : V → List Request) (w : Walked) (vs : List V) (v : V) (x : List Request) → map f vs ≡ w.workers → w.left ≡ 0 → w.begun ≡ true → w.worker < length vs → v ≡ get_or vs w.worker v → x ≡ f v → to_come w ≡ record { source = Worker (w.worker + 1); requests = x } ∷ to_come (record w { here = record { source = Worker (w.worker + 1); requests = x }; worker = w.worker + 1 })
unfolding to_come
at_worker {V} f w vs v x e l b low is xis =
    let here : drop w.worker w.workers ≡ x ∷ drop (w.worker + 1) w.workers =
    subst (λ (ws : List (List Request)). drop w.worker ws ≡ x ∷ drop (w.worker + 1) ws) e
    (drop-map f w.worker vs ∙ ap (map f) (next_is vs w.worker v low is) ∙ ap (λ (y : List Request). y ∷ map f (drop (w.worker + 1) vs)) (sym xis) ∙ ap (λ (ys : List (List Request)). x ∷ ys) (sym (drop-map f (w.worker + 1) vs))) in
    rw (l, b, here) refl

-- no script and no worker is left
at_devices : (w : Walked) (ds : List (Line × ℕ)) → ds ≡ w.devices → w.left ≡ 0 → w.begun ≡ true → length w.workers ≤ w.worker → to_come w ≡ flat_map (device_pieces w.key w.radar) (drop w.device ds)
unfolding to_come
at_devices w ds e l b high = rw (l, b, none_left w.workers w.worker high, ← e) refl

-- the next device's
next_device : (key radar : List Action) (ds : List (Line × ℕ)) (i : ℕ) (d : Line × ℕ) → i < length ds → d ≡ get_or ds i d → flat_map (device_pieces key radar) (drop i ds) ≡ device_pieces key radar d ++ flat_map (device_pieces key radar) (drop (i + 1) ds)
next_device key radar ds i d l is = ap (flat_map (device_pieces key radar)) (next_is ds i d l is) ∙ flat_map-cons (device_pieces key radar) d (drop (i + 1) ds)

-- a device with pulses: its first comes
pub at_pulse : (w : Walked) (ds : List (Line × ℕ)) (d : Line × ℕ) → ds ≡ w.devices → w.left ≡ 0 → w.begun ≡ true → length w.workers ≤ w.worker → w.device < length ds → d ≡ get_or ds w.device d → 0 < d.1 → to_come w ≡ pulse_piece w.key w.radar d.0 ∷ to_come (record w { here = pulse_piece w.key w.radar d.0; left = d.1 - 1; device = w.device + 1 })
unfolding to_come
at_pulse w ds d e l b high low is more =
    at_devices w ds e l b high ∙ next_device w.key w.radar ds w.device d low is ∙ rw (front_of d.1 (pulse_piece w.key w.radar d.0) more, b, none_left w.workers w.worker high, ← e) refl

-- a device without: it is passed over
pub passed_over : (w : Walked) (ds : List (Line × ℕ)) (d : Line × ℕ) → ds ≡ w.devices → w.left ≡ 0 → w.begun ≡ true → length w.workers ≤ w.worker → w.device < length ds → d ≡ get_or ds w.device d → d.1 ≡ 0 → to_come w ≡ to_come (record w { device = w.device + 1 })
passed_over w ds d e l b high low is none =
    let nothing : device_pieces w.key w.radar d ≡ [] = ap (λ (n : ℕ). replicate n (pulse_piece w.key w.radar d.0)) none in
    at_devices w ds e l b high ∙ next_device w.key w.radar ds w.device d low is ∙ ap (λ (ps : List Piece). ps ++ flat_map (device_pieces w.key w.radar) (drop (w.device + 1) ds)) nothing ∙ sym (at_devices (record w { device = w.device + 1 }) ds e l b high)

-- no device is left
pub all_walked : (w : Walked) (ds : List (Line × ℕ)) → ds ≡ w.devices → w.left ≡ 0 → w.begun ≡ true → length w.workers ≤ w.worker → length ds ≤ w.device → to_come w ≡ []
all_walked w ds e l b high end = at_devices w ds e l b high ∙ ap (flat_map (device_pieces w.key w.radar)) (none_left ds w.device end)

-- the pieces ask for the requests of the bench
workers_ask : (k : ℕ) (ws : List (List Request)) → flat_map piece_requests (worker_pieces k ws) ≡ flat_map (λ requests. requests) ws
workers_ask k [] = refl
workers_ask k (w ∷ ws) = flat_map-cons piece_requests (record { source = Worker k; requests = w }) (worker_pieces (k + 1) ws) ∙ ap (λ (rs : List Request). w ++ rs) (workers_ask (k + 1) ws) ∙ sym (flat_map-cons (λ (rs : List Request). rs) w ws)

pulses_ask : (p : Piece) (n : ℕ) → flat_map piece_requests (replicate n p) ≡ flat_map (λ all. all) (replicate n p.requests)
pulses_ask p zero = refl
pulses_ask p (suc n) = flat_map-cons piece_requests p (replicate n p) ∙ ap (λ (rs : List Request). p.requests ++ rs) (pulses_ask p n) ∙ sym (flat_map-cons (λ (rs : List Request). rs) p.requests (replicate n p.requests))

-- a pulse asks for what the bench's plan says
pub same_pulse : (bench : Benched) (line : Line) → pulse_asks bench.key bench.radar line ≡ pulse_requests (bench_plan bench) line
same_pulse bench Timer = refl
same_pulse bench Key = refl
same_pulse bench Radar = refl

devices_ask : (bench : Benched) (ds : List (Line × ℕ)) → flat_map piece_requests (flat_map (device_pieces bench.key bench.radar) ds) ≡ flat_map (device_requests bench) ds
devices_ask bench [] = refl
devices_ask bench (d ∷ ds) =
    let pieces = device_pieces bench.key bench.radar in
    ap (flat_map piece_requests) (flat_map-cons pieces d ds) ∙ flat_map-append piece_requests (pieces d) (flat_map pieces ds)
    ∙ ap (λ (rs : List Request). rs ++ flat_map piece_requests (flat_map pieces ds)) (pulses_ask (pulse_piece bench.key bench.radar d.0) d.1 ∙ ap (λ (rs : List Request). flat_map (λ all. all) (replicate d.1 rs)) (same_pulse bench d.0))
    ∙ ap (λ (rs : List Request). device_requests bench d ++ rs) (devices_ask bench ds)
    ∙ sym (flat_map-cons (device_requests bench) d ds)

pub pieces_ask : (bench : Benched) → flat_map piece_requests (bench_pieces bench) ≡ bench_requests bench
unfolding bench_pieces bench_requests
pieces_ask bench =
    let devices = flat_map (device_pieces bench.key bench.radar) bench.devices in
    flat_map-cons piece_requests (script_piece bench.script) (worker_pieces 1 bench.workers ++ devices)
    ∙ ap (λ (rs : List Request). bench.script ++ rs) (flat_map-append piece_requests (worker_pieces 1 bench.workers) devices
    ∙ ap (λ (rs : List Request). rs ++ flat_map piece_requests devices) (workers_ask 1 bench.workers)
    ∙ ap (λ (rs : List Request). flat_map (λ requests. requests) bench.workers ++ rs) (devices_ask bench bench.devices))

-- a script is one piece
pub one_piece : (w : Walked) → w.left ≡ 0 → w.begun ≡ false → w.worker ≡ 0 → w.device ≡ 0 → w.workers ≡ [] → w.devices ≡ [] → to_come w ≡ script_piece w.script ∷ []
unfolding to_come
one_piece w l b k d ws ds = rw (l, b, k, d, ws, ds) refl

-- the next piece, and the rest
pub next_piece : (w new : Walked) → to_come w ≡ new.here ∷ to_come new → flat_map piece_requests (to_come w) ≡ new.here.requests ++ flat_map piece_requests (to_come new)
next_piece w new is = ap (flat_map piece_requests) is ∙ flat_map-cons piece_requests new.here (to_come new)

-- what is asked of the piece, and after it
parts : (w : Walked) (here : List PendingRequest) → drop w.at (asks_in w.here) ≡ here → rest w ≡ here ++ flat_map asks_in (to_come w)
unfolding rest
parts w here is = ap (λ (xs : List PendingRequest). xs ++ flat_map asks_in (to_come w)) is

none_here : (piece : Piece) (k : ℕ) → length piece.requests ≤ k → drop k (asks_in piece) ≡ []
none_here piece k high = drop-map (by_source piece.source) k piece.requests ∙ ap (map (by_source piece.source)) (none_left piece.requests k high)

-- a piece is over: the next
pub piece_over : (w new : Walked) → length w.here.requests ≤ w.at → to_come w ≡ new.here ∷ to_come new → rest w ≡ rest (record new { at = 0 })
unfolding to_come
piece_over w new high is =
    parts w [] (none_here w.here w.at high) ∙ ap (flat_map asks_in) is ∙ flat_map-cons asks_in new.here (to_come new) ∙ sym (parts (record new { at = 0 }) (asks_in new.here) refl)

pub unmoved : (w : Walked) (at : ℕ) → to_come (record w { at = at }) ≡ to_come w
unfolding to_come
unmoved w at = refl

-- and no other comes
pub all_over : (w : Walked) → length w.here.requests ≤ w.at → to_come w ≡ [] → rest w ≡ []
all_over w high is = parts w [] (none_here w.here w.at high) ∙ ap (flat_map asks_in) is

pub all_passed : (w : Walked) → length w.here.requests ≡ w.at → to_come w ≡ [] → rest w ≡ []
all_passed w high is = all_over w (omega (arith, high)) is

first_here : (piece : Piece) (k : ℕ) (q : Request) → k < length piece.requests → q ≡ get_or piece.requests k q → drop k (asks_in piece) ≡ by_source piece.source q ∷ drop (k + 1) (asks_in piece)
first_here piece k q low is =
    let asked = by_source piece.source in
    drop-map asked k piece.requests ∙ ap (map asked) (next_is piece.requests k q low is) ∙ ap (λ (xs : List PendingRequest). asked q ∷ xs) (sym (drop-map asked (k + 1) piece.requests))

-- one more of the piece
pub one_taken : (w : Walked) (q : Request) → w.at < length w.here.requests → q ≡ get_or w.here.requests w.at q → rest w ≡ by_source w.here.source q ∷ rest (record w { at = w.at + 1 })
unfolding to_come
one_taken w q low is =
    let asked = by_source w.here.source q in
    let new : Walked = record w { at = w.at + 1 } in
    parts w (asked ∷ drop (w.at + 1) (asks_in w.here)) (first_here w.here w.at q low is) ∙ ap (λ (xs : List PendingRequest). asked ∷ xs) (sym (parts new (drop (w.at + 1) (asks_in w.here)) refl))
