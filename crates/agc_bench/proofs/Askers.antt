use Rattle.std.proofs.Common.{◌≡◌, ℕ, ◌+◌, ◌-◌, ◌<◌, ◌≤◌, zero, suc, List, [], ◌∷◌, map, length, get_or, arith, refl, sym, ap, subst, ◌∙◌, length-append}
use Rattle.std.specs.List.{All, enumerate_from}
use Rattle.std.proofs.lemmas.List.{get_or_append_left, get_or-append_right, get_or_default, get_or-map, length-map}
use Rattle.std.proofs.lemmas.List.FromFn.{get_or-enumerate_from, length-enumerate_from}
use Rattle.agc_plan.specs.declared.request.Request.{Request}
use Rattle.agc_document.specs.Benches.{Benched}
use Rattle.agc_bench.specs.Threads.{Asker, Worker, Attends, threads_of}
use Rattle.agc_bench.specs.Steps.{thread_at}

-- what holds of each element and its place holds of all, with their places beside them
pub all_numbered : {X : Type 0} (P : ℕ → X → Type 0) (xs : List X) (d : X) → ((i : ℕ) → i < length xs → P i (get_or xs i d))
    → All (λ x. P x.0 x.1) (enumerate_from 0 xs)
all_numbered {X} P xs d all k e below =
    let inside : k < length xs = omega (arith, below, length-enumerate_from 0 xs) in
    let number : 0 + k ≡ k = omega arith in
    let same : get_or xs k e.1 ≡ get_or xs k d = get_or_default xs k e.1 d inside in
    subst (λ (x : ℕ × X). P x.0 x.1) (sym (get_or-enumerate_from 0 xs k e inside ∙ (λ j. (number j, same j)))) (all k inside)

-- the workers of a bench, numbered from 0
abbrev workers_of : Benched → List Asker
workers_of bench = map (λ w. Worker w.0 w.1) (enumerate_from 0 bench.workers)

-- how many workers there are
workers_of_length : (bench : Benched) → length (workers_of bench) ≡ length bench.workers
workers_of_length bench =
    length-map (enumerate_from 0 bench.workers) (λ w. Worker w.0 w.1) ∙ length-enumerate_from 0 bench.workers

-- a worker, in its thread
pub worker_at : (bench : Benched) (k : ℕ) (r : List Request) → k < length bench.workers → thread_at bench k ≡ Worker k (get_or bench.workers k r)
worker_at bench k r below =
    let numbered = enumerate_from 0 bench.workers in
    get_or_append_left (workers_of bench) (Attends bench.attends ∷ []) (Attends bench.attends) k (omega (arith, workers_of_length bench, below))
    ∙ (get_or-map (λ w. Worker w.0 w.1) numbered k (0, r) (Attends bench.attends) (omega (arith, length-enumerate_from 0 bench.workers, below))
    ∙ (ap (λ w. Worker w.0 w.1) (get_or-enumerate_from 0 bench.workers k (0, r) below)
    ∙ ap (λ j. Worker j (get_or bench.workers k r)) (omega arith)))

-- one who attends is the same as nobody
last_attends : (asker : Asker) (k : ℕ) → get_or (asker ∷ []) k asker ≡ asker
last_attends asker zero = refl
last_attends asker (suc k) = refl

-- one who attends, past the workers
pub attends_at : (bench : Benched) (k : ℕ) → length bench.workers ≤ k → thread_at bench k ≡ Attends bench.attends
attends_at bench k past =
    get_or-append_right (workers_of bench) (Attends bench.attends ∷ []) (length bench.workers) k (Attends bench.attends) (workers_of_length bench) past
    ∙ last_attends (Attends bench.attends) (k - length bench.workers)

-- how many threads ask
pub threads_length : (bench : Benched) → length (threads_of bench) ≡ length bench.workers + 1
threads_length bench = length-append (workers_of bench) (Attends bench.attends ∷ []) ∙ ap (λ n. n + 1) (workers_of_length bench)

-- as many, as the code holds them
workers_length : {W : Type 0} (bench : Benched) (ws : List W) (items : W → List Request) → map items ws ≡ bench.workers → length bench.workers ≡ length ws
workers_length bench ws items same = sym (ap length same) ∙ length-map ws items

-- a worker, from what the code holds
pub worker_held : {W : Type 0} (bench : Benched) (ws : List W) (items : W → List Request) (k : ℕ) (w : W) (asked : List Request)
    → map items ws ≡ bench.workers → k < length ws → w ≡ get_or ws k w → asked ≡ items w → thread_at bench k ≡ Worker k asked
worker_held bench ws items k w asked same below is all =
    worker_at bench k [] (omega (arith, workers_length bench ws items same, below))
    ∙ ap (λ rs. Worker k rs) (sym (ap (λ xs. get_or xs k []) same) ∙ (get_or-map items ws k w [] below ∙ (sym (ap items is) ∙ sym all)))

-- one who attends, from what the code holds
pub attends_held : {W : Type 0} (bench : Benched) (ws : List W) (items : W → List Request) (k : ℕ)
    → map items ws ≡ bench.workers → length ws ≤ k → thread_at bench k ≡ Attends bench.attends
attends_held bench ws items k same past = attends_at bench k (omega (arith, workers_length bench ws items same, past))

-- how many threads ask, from what the code holds
pub threads_held : {W : Type 0} (bench : Benched) (ws : List W) (items : W → List Request) → map items ws ≡ bench.workers → length (threads_of bench) ≡ length ws + 1
threads_held bench ws items same = threads_length bench ∙ ap (λ n. n + 1) (workers_length bench ws items same)
