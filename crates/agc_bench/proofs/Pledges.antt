use Rattle.std.proofs.Common.{◌≡◌, ℕ, ◌+◌, ◌<◌, List, [], ◌∷◌, ◌++◌, length, map, get_or, arith, refl, sym, ◌∙◌}
use Rattle.std.proofs.lemmas.List.{get_or_append_left, get_or-map}
use Rattle.atomic_table.specs.Seated.{TableId}
use Rattle.agc_plan.specs.declared.line.Line.{Line}
use Rattle.agc_latch.specs.Ends.{Posting}
use Rattle.agc_desk.specs.History.{Holder}
use Rattle.agc_document.specs.Benches.{Benched}
use Rattle.agc_bench.specs.Sharing.{IsPledge, IsPosts, spent_device}

-- a pledge stays what it is as one more start is known
pub pledge_kept : {G : Type 0} (bench : Benched) (starts : List Holder) (x : Holder) (gate : G) (k : ℕ) (start : Holder) (its_bench : Benched) (thread : ℕ) (its_gate : G)
    → k < length starts → IsPledge bench starts gate k start its_bench thread its_gate → IsPledge bench (starts ++ x ∷ []) gate k start its_bench thread its_gate
pledge_kept bench starts x gate k start its_bench thread its_gate below pledge = record {
  start_is = λ s. pledge.start_is s ∙ sym (get_or_append_left starts (x ∷ []) s k below);
  bench_is = pledge.bench_is;
  thread_is = pledge.thread_is;
  gate_is = pledge.gate_is;
}

-- a device that a thread gave back, as its promise says
pub spent_at : (latch : TableId) (bench : Benched) (back : List Posting) (k : ℕ) (d : Posting) (its_latch : TableId) (planned : Line × ℕ)
    → k < length bench.devices → IsPosts latch bench k its_latch planned → get_or back k d ≡ spent_device its_latch planned
    → get_or back k d ≡ get_or (map (spent_device latch) bench.devices) k d
spent_at latch bench back k d its_latch planned below posts kept =
    kept ∙ ((λ i. spent_device (posts.latch_is i) (posts.planned_is planned i))
    ∙ sym (get_or-map (spent_device latch) bench.devices k planned d below))

pub nothing_left : {X : Type 0} (l : List X) → length l ≡ 0 → l ≡ []
nothing_left [] h = refl
nothing_left (x ∷ xs) h = absurd (omega arith)
