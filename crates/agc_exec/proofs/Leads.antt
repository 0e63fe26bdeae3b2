-- The rank of the best job, found one set at a time.
use Rattle.std.proofs.Common.{◌≡◌, ◌⊎◌, ℕ, ◌+◌, ◌*◌, ◌/◌, ◌%◌, ◌<◌, ◌≤◌, nat_lt, cond, Bool, true, false, List, Option, None, length, slice_index, slice_index_or, refl, ap, sym, ◌∙◌, inl, inr, arith}
use Rattle.std.proofs.lemmas.Bool.{cases_Bool, cases_eq, cases_lt}
use Rattle.std.proofs.lemmas.Option.{same_Some}
use Rattle.agc_word.specs.Layout.{sets_in, set_place}
use Rattle.agc_exec.specs.HeldJob.{HeldJob}
use Rattle.agc_exec.specs.Blocks.{block_in}
use Rattle.agc_exec.specs.Image.{priority_unit, record_of, sets_of, IsSet}
use Rattle.agc_exec.specs.Stages.{newjob_of}
use Rattle.agc_exec.specs.Stages.{sign}
use Rattle.agc_exec.specs.Sets.{Holds}
use Rattle.agc_exec.specs.Stages.{Yields, IsBestRank}
use Rattle.agc_exec.proofs.Decoding.{length-sets}
use Rattle.agc_exec.proofs.Finishing.{newjob_of-best}
use Rattle.agc_exec.proofs.Ranks.{at_words, held_by-awake, held_asleep}
use Rattle.agc_exec.proofs.Reading.{get-block_in}
use Rattle.agc_exec.proofs.Swaps.{Holds-within}
use Rattle.std.proofs.lemmas.Grind.{common_steps}

pub Yields-trans : (a b c : HeldJob) → Yields a b → Yields b c → Yields a c
Yields-trans a b c x y = elim x [
  | inl lt ↦ elim y [ inl lt2 ↦ inl (omega arith) | inr both2 ↦ inl (omega arith) ]
  | inr both ↦ elim y [ inl lt2 ↦ inl (omega arith) | inr both2 ↦ inr (omega arith, omega arith) ]
]

-- what the words of a set with an awake job say of it
pub awake_words : (words : List ℕ) (k : ℕ) (s : HeldJob) → k < sets_in words → Holds (sets_of words) k s → s.asleep ≡ false → (slice_index words (set_place k + 11) < sign) × (s.priority ≡ slice_index words (set_place k + 11) / priority_unit) × (s.number ≡ slice_index words (set_place k + 0))
awake_words words k s lt at awake = elim (cases_lt (slice_index words (set_place k + 11)) 16384) [
  | inl low ↦
      let same : record_of (block_in words k) (slice_index words (set_place k + 11)) false ≡ s = same_Some _ s (sym (held_by-awake (block_in words k) (slice_index words (set_place k + 11)) low) ∙ sym (at_words words k lt) ∙ at) in
      (low, sym (ap (λ h. h.priority) same), sym (ap (λ h. h.number) same) ∙ get-block_in words k 0 0 (omega arith))
  | inr high ↦ absurd (let sleeps : s.asleep ≡ true = held_asleep (block_in words k) (slice_index words (set_place k + 11)) s high (sym (at_words words k lt) ∙ at) in let no : true ≡ false = sym sleeps ∙ awake in cc)
]

-- a set whose PRIORITY word is positive holds an awake job
pub awake_at : (words : List ℕ) (k : ℕ) → k < sets_in words → slice_index words (set_place k + 11) < sign → Holds (sets_of words) k (record_of (block_in words k) (slice_index words (set_place k + 11)) false)
awake_at words k lt low = at_words words k lt ∙ held_by-awake (block_in words k) (slice_index words (set_place k + 11)) low

pub rank-none : (sets : List (Option HeldJob)) → IsBestRank sets 0 0
rank-none sets = record { nobody = λ z j s lt at. absurd (omega arith); found = λ lt. absurd (omega arith) }

-- one more set, whose job, if it is awake, yields to the best so far
pub rank-stays : (sets : List (Option HeldJob)) (n rank : ℕ) → IsBestRank sets n rank → ((s : HeldJob) → Holds sets n s → s.asleep ≡ false → 0 < rank) → ((b s : HeldJob) → Holds sets (rank % 8) b → b.asleep ≡ false → rank / 8 ≡ b.priority + 1 → Holds sets n s → s.asleep ≡ false → Yields s b) → IsBestRank sets (n + 1) rank
rank-stays sets n rank is some yields = record {
  nobody = λ z j s lt at. elim (cases_eq j n) [
    | inl same ↦ elim (cases_Bool s.asleep) [ inl asleep ↦ asleep | inr awake ↦ absurd (let positive : 0 < rank = some s (ap (λ i. slice_index_or sets i None) (sym same) ∙ at) awake in omega arith) ]
    | inr ne ↦ is.nobody z j s (omega arith) at
  ];
  found = λ positive.
      let (b, best, priority) = is.found positive in (
        b,
        record {
          here = best.here;
          awake = best.awake;
          first = λ j s lt at awake. elim (cases_eq j n) [
            | inl same ↦ yields b s best.here best.awake priority (ap (λ i. slice_index_or sets i None) (sym same) ∙ at) awake
            | inr ne ↦ best.first j s (omega arith) at awake
          ];
        },
        priority,
      );
}

-- one more set, to whose awake job the best so far yields
pub rank-takes : (sets : List (Option HeldJob)) (n rank : ℕ) (r : HeldJob) → IsBestRank sets n rank → Holds sets n r → r.asleep ≡ false → n < 8 → ((b : HeldJob) → 0 < rank → Holds sets (rank % 8) b → b.asleep ≡ false → rank / 8 ≡ b.priority + 1 → Yields b r) → IsBestRank sets (n + 1) (8 * (r.priority + 1) + n)
rank-takes sets n rank r is here awake lt yields =
    let place : (8 * (r.priority + 1) + n) % 8 ≡ n = omega arith in
    let priority : (8 * (r.priority + 1) + n) / 8 ≡ r.priority + 1 = omega arith in
    record {
      nobody = λ z. absurd (omega arith);
      found = λ positive. (r, rw place (record { here = here; awake = awake; first = first }), priority);
    }
  where
    first : (j : ℕ) (s : HeldJob) → j < n + 1 → Holds sets j s → s.asleep ≡ false → Yields s r
    first j s lt_j at awake_s = elim (cases_eq j n) [
      | inl same ↦
          let is_r : s ≡ r = same_Some s r (sym at ∙ ap (λ i. slice_index_or sets i None) same ∙ here) in
          inr (ap (λ q. q.priority) is_r, let x : r.number ≡ s.number = ap (λ q. q.number) (sym is_r) in omega arith)
      | inr ne ↦ elim (cases_eq rank 0) [
        | inl z ↦ absurd (let no : true ≡ false = sym (is.nobody z j s (omega arith) at) ∙ awake_s in cc)
        | inr some ↦
            let (b, best, is_priority) = is.found (omega arith) in
            Yields-trans s b r (best.first j s (omega arith) at awake_s) (yields b (omega arith) best.here best.awake is_priority)
      ]
    ]

-- the best job's priority, and that of the job in set 0, by the rank and by its PRIORITY word
ranked : (words : List ℕ) (best : ℕ) → IsSet words → IsBestRank (sets_of words) (length (sets_of words)) best → 0 < best → (job r : HeldJob) × (newjob_of (sets_of words) ≡ cond (nat_lt job.priority r.priority) (12 * (best % 8)) 0) × (job.priority ≡ slice_index words (set_place 0 + 11) / priority_unit) × (best / 8 ≡ r.priority + 1)
ranked words best set is positive =
    let len : length (sets_of words) ≡ sets_in words = length-sets words in
    let (r, first, priority) = is.found positive in
    let (job, here, awake) = set.standing.in_front (best % 8) r first.here first.awake in
    let within : 0 < length (sets_of words) = Holds-within (sets_of words) 0 job here in
    let (low, is_priority, number) = awake_words words 0 job (omega arith) here awake in
    (job, r, newjob_of-best (sets_of words) (best % 8) r job set.standing.lawful first here, is_priority, priority)

-- NEWJOB where the best job is more urgent than the one in set 0, by its rank
pub newjob-urgent : (words : List ℕ) (best : ℕ) → IsSet words → IsBestRank (sets_of words) (length (sets_of words)) best → slice_index words (set_place 0 + 11) / priority_unit + 1 < best / 8 → newjob_of (sets_of words) ≡ 12 * (best % 8)
newjob-urgent words best set is more =
    let (job, r, newjob, front, priority) = ranked words best set is (omega arith) in
    let lt : job.priority < r.priority = omega arith in
    let less : nat_lt job.priority r.priority ≡ true = grind (arith, common_steps) in
    newjob ∙ rw less

-- and where it isn't
pub newjob-idle : (words : List ℕ) (best : ℕ) → IsSet words → IsBestRank (sets_of words) (length (sets_of words)) best → 0 < best → best / 8 ≤ slice_index words (set_place 0 + 11) / priority_unit + 1 → newjob_of (sets_of words) ≡ 0
newjob-idle words best set is positive most =
    let (job, r, newjob, front, priority) = ranked words best set is positive in
    let le : r.priority ≤ job.priority = omega arith in
    let less : nat_lt job.priority r.priority ≡ false = grind (arith, common_steps) in
    newjob ∙ rw less

-- what the words say as one more set is looked at
pub record Looks (words : List ℕ) (most k : ℕ) : Type 0 where
  pub sized : k < sets_in words
  pub few : k < 8
  pub before : IsBestRank (sets_of words) k most
  pub low : slice_index words (set_place k + 11) < sign

-- the best so far is more urgent
pub rank-behind : (words : List ℕ) (most k : ℕ) → Looks words most k → slice_index words (set_place k + 11) / priority_unit + 1 < most / 8 → IsBestRank (sets_of words) (k + 1) most
rank-behind words most k l less = rank-stays (sets_of words) k most l.before (λ s at awake. omega arith) (λ b s here awake_b priority at awake.
    let (low, is_priority, number) = awake_words words k s l.sized at awake in
    inl (omega arith))

-- the best so far is less urgent
pub rank-ahead : (words : List ℕ) (most k : ℕ) → Looks words most k → most / 8 < slice_index words (set_place k + 11) / priority_unit + 1 → IsBestRank (sets_of words) (k + 1) (8 * (slice_index words (set_place k + 11) / priority_unit + 1) + k)
rank-ahead words most k l more = rank-takes (sets_of words) k most (record_of (block_in words k) (slice_index words (set_place k + 11)) false) l.before (awake_at words k l.sized l.low) refl l.few (λ b positive here awake_b priority. inl (omega arith))

-- where both are as urgent, the best so far stands in one of the sets
pub tied_place : (words : List ℕ) (most k : ℕ) → Looks words most k → most / 8 ≡ slice_index words (set_place k + 11) / priority_unit + 1 → (b : HeldJob) × Holds (sets_of words) (most % 8) b × (b.asleep ≡ false) × (most % 8 < sets_in words)
tied_place words most k l tie =
    let (b, best, priority) = l.before.found (omega arith) in
    let len : length (sets_of words) ≡ sets_in words = length-sets words in
    let within : most % 8 < length (sets_of words) = Holds-within (sets_of words) (most % 8) b best.here in
    (b, best.here, best.awake, omega arith)

-- and is of a lower number
pub rank-tied_behind : (words : List ℕ) (most k : ℕ) → Looks words most k → most / 8 ≡ slice_index words (set_place k + 11) / priority_unit + 1 → slice_index words (set_place (most % 8) + 0) < slice_index words (set_place k + 0) → IsBestRank (sets_of words) (k + 1) most
rank-tied_behind words most k l tie less =
    let (c, here_c, awake_c, within) = tied_place words most k l tie in
    rank-stays (sets_of words) k most l.before (λ s at awake. omega arith) (λ b s here awake_b priority at awake.
    let (low, is_priority, number) = awake_words words k s l.sized at awake in
    let (low_b, priority_b, number_b) = awake_words words (most % 8) b within here awake_b in
    inr (omega arith, omega arith))

-- or of a higher one
pub rank-tied_ahead : (words : List ℕ) (most k : ℕ) → Looks words most k → most / 8 ≡ slice_index words (set_place k + 11) / priority_unit + 1 → slice_index words (set_place k + 0) ≤ slice_index words (set_place (most % 8) + 0) → IsBestRank (sets_of words) (k + 1) (8 * (slice_index words (set_place k + 11) / priority_unit + 1) + k)
rank-tied_ahead words most k l tie le =
    let (c, here_c, awake_c, within) = tied_place words most k l tie in
    let (low_k, priority_k, number_k) = awake_words words k (record_of (block_in words k) (slice_index words (set_place k + 11)) false) l.sized (awake_at words k l.sized l.low) refl in
    rank-takes (sets_of words) k most (record_of (block_in words k) (slice_index words (set_place k + 11)) false) l.before (awake_at words k l.sized l.low) refl l.few (λ b positive here awake_b priority.
    let (low_b, priority_b, number_b) = awake_words words (most % 8) b within here awake_b in
    inr (omega arith, omega arith))
