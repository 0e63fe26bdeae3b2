-- The jobs in the core sets, with one core set more.
use Rattle.std.proofs.Common.{◌≡◌, ℕ, ◌+◌, ◌<◌, ◌≤◌, List, length, drop, get_or, replicate, ext_get_or, Option, Some, None, slice_get, refl, sym, ap, ◌∙◌, arith}
use Rattle.std.specs.Option.{option_or}
use Rattle.std.proofs.lemmas.List.{get_or-replicate}
use Rattle.std.proofs.lemmas.List.FromFn.{get_or-map-range_with_len}
use Rattle.agc_plan.proofs.Lists.{none_left}
use Rattle.agc_exec.specs.declared.seats.Seat.{Seat}
use Rattle.agc_stats.specs.ObservedJobs.{state_from, state_here, states_in}
use Rattle.agc_stats.specs.declared.live_jobs.ObservedJob.{ObservedJob}
use Rattle.agc_stats.proofs.Occupancies.{next_seat}

or_in_turn : (a b c : Option ObservedJob) → option_or (option_or a b) c ≡ option_or a (option_or b c)
or_in_turn None b c = refl
or_in_turn (Some x) b c = refl

or_none : (a : Option ObservedJob) → option_or a None ≡ a
or_none None = refl
or_none (Some x) = refl

-- what is known of a job's state where the core sets from one on are still to be seen
pub none_seen : (seats : List (Option Seat)) (n : ℕ) → n < 8 → option_or (state_from (n + 1) 0 seats) (get_or (replicate 8 None) n None) ≡ state_from (n + 1) 0 seats
none_seen seats n lt = ap (option_or (state_from (n + 1) 0 seats)) (get_or-replicate 8 n None None lt) ∙ or_none (state_from (n + 1) 0 seats)

pub one_seen : (seats : List (Option Seat)) (k n : ℕ) (seat : Option Seat) (old new total : Option ObservedJob) → slice_get seats k ≡ Some seat → new ≡ option_or (state_here (n + 1) k seat) old → option_or (state_from (n + 1) k (drop k seats)) old ≡ total → option_or (state_from (n + 1) (k + 1) (drop (k + 1) seats)) new ≡ total
one_seen seats k n seat old new total at is before =
    ap (option_or (state_from (n + 1) (k + 1) (drop (k + 1) seats))) is
    ∙ sym (or_in_turn (state_from (n + 1) (k + 1) (drop (k + 1) seats)) (state_here (n + 1) k seat) old)
    ∙ ap (λ (l : List (Option Seat)). option_or (state_from (n + 1) k l) old) (sym (next_seat seats k seat at))
    ∙ before

pub all_seen : (seats : List (Option Seat)) (k : ℕ) (jobs : List (Option ObservedJob)) → length seats ≤ k → length jobs ≡ 8 → ((n : ℕ) → n < 8 → option_or (state_from (n + 1) k (drop k seats)) (get_or jobs n None) ≡ state_from (n + 1) 0 seats) → jobs ≡ states_in seats
all_seen seats k jobs past eight each =
    ext_get_or None jobs (states_in seats) eight
    (λ i lt. let low : i < 8 = omega arith in
    ap (λ (l : List (Option Seat)). option_or (state_from (i + 1) k l) (get_or jobs i None)) (sym (none_left seats k past))
    ∙ each i low
    ∙ sym (get_or-map-range_with_len (λ (number : ℕ). state_from number 0 seats) 1 8 i (i + 1) None low (omega arith)))
