-- What NEWJOB names.
use Rattle.std.proofs.Common.{◌≡◌, ◌≢◌, ◌⊎◌, ℕ, zero, suc, ◌*◌, ◌/◌, ◌<◌, ◌≤◌, nat_lt, Bool, true, false, cond, List, Option, Some, None, length, slice_index_or, slice_set, swap, option_map, refl, ap, sym, ◌∙◌, inl, inr, arith}
use Rattle.agc_word.specs.Layout as layout
use Rattle.agc_word.specs.Layout.{IsSized, sets_in, OutsideCores, Keeps}
use Rattle.agc_exec.specs.Frames.{OutsideSets}
use Rattle.agc_word.proofs.Keeping.{kept}
use Rattle.agc_exec.proofs.Finishing.{sets_kept}
use Rattle.agc_exec.specs.Calls.{Does, fronted_blocks}
use Rattle.agc_exec.specs.Stages.{Waits, BestBelow, Yields, GivesWay, Gives}
use Rattle.std.proofs.lemmas.Bool.{cases_eq, cases_lt}
use Rattle.std.proofs.lemmas.Option.{same_Some}
use Rattle.std.proofs.lemmas.Grind.{common_steps}
use Rattle.agc_plan.specs.Jobs.{best_from, change}
use Rattle.agc_plan.specs.Places.{place_of, fronted}
use Rattle.agc_plan.specs.declared.reply.Reply.TheVariants.{Runs}
use Rattle.agc_exec.specs.HeldJob.{HeldJob}
use Rattle.agc_exec.proofs.Best.{better_of, precedes}
use Rattle.agc_exec.specs.Blocks.{blocks_of}
use Rattle.agc_exec.specs.Sets.{Holds, IsLawful, IsStanding, slots_of, running_in}
use Rattle.agc_exec.specs.Image.{sets_of, IsLawfulBlock, IsTidyBlock, IsLawfulWords, jobs_in, entries_in}
use Rattle.agc_exec.specs.Stages.{newjob_of}
use Rattle.agc_exec.proofs.Bests.{best_ready, place_of_number}
use Rattle.agc_exec.proofs.Swaps.{Holds-within, slots_of-swap, swap-Holds, moved}
use Rattle.agc_exec.proofs.Yielding.{GivesWay-none, GivesWay-swap, Gives-change}
use Rattle.agc_exec.proofs.Finishing.{newjob_of-best, front_priority-is, Near, Renewed}
use Rattle.agc_exec.proofs.Decoding.{length-sets_of, sets_of-swap, Each-swap}
use Rattle.agc_exec.proofs.Coming.{uses-kept, fronted-stays}
use Rattle.agc_exec.proofs.Reading.{blocks_of-kept}
use Rattle.agc_exec.proofs.Leads.{Yields-trans}
use Rattle.std.proofs.lemmas.List.{get_or-set_same, get_or-set_other, length-set}

precedes-true : (b r : HeldJob) → precedes b r ≡ true → Yields r b
precedes-true b r e = elim (cases_lt r.priority b.priority) [
  | inl lt ↦ inl lt
  | inr ge ↦
      let no : nat_lt r.priority b.priority ≡ false = grind (arith, common_steps) in
      elim (cases_eq b.priority r.priority) [
        | inl same ↦ elim (cases_lt b.number r.number) [ inl lt ↦ inr (sym same, omega arith) | inr past ↦ let z : nat_lt b.number r.number ≡ false = grind (arith, common_steps) in absurd (grind (arith, common_steps)) ]
        | inr ne ↦ absurd (grind (arith, common_steps))
      ]
]

precedes-false : (b r : HeldJob) → precedes b r ≡ false → Yields b r
precedes-false b r e = elim (cases_lt b.priority r.priority) [
  | inl lt ↦ inl lt
  | inr ge ↦ elim (cases_lt r.priority b.priority) [
    | inl gt ↦ absurd (grind (arith, common_steps))
    | inr le ↦ inr (omega arith, elim (cases_lt b.number r.number) [ inl lt ↦ absurd (grind (arith, common_steps)) | inr past ↦ past ])
  ]
]

-- one more set
more : (sets : List (Option HeldJob)) (n : ℕ) (o : Option (ℕ × HeldJob)) (v : Option HeldJob) → slice_index_or sets n None ≡ v → BestBelow sets n o → BestBelow sets (suc n) (better_of o n v)
more sets n None None e h = λ j s lt at. elim (cases_eq j n) [
  | inl same ↦ let no : None ≡ Some s = sym e ∙ ap (λ i. slice_index_or sets i None) (sym same) ∙ at in absurd (cc)
  | inr ne ↦ h j s (omega arith) at
]
more sets n (Some b) None e h = record {
  here = h.here;
  awake = h.awake;
  first = λ j s lt at a. elim (cases_eq j n) [
    | inl same ↦ let no : None ≡ Some s = sym e ∙ ap (λ i. slice_index_or sets i None) (sym same) ∙ at in absurd (cc)
    | inr ne ↦ h.first j s (omega arith) at a
  ];
}
more sets n None (Some r) e h = go r.asleep refl where
  here : (j : ℕ) (s : HeldJob) → j ≡ n → Holds sets j s → s ≡ r
  here j s same at = same_Some s r (sym at ∙ ap (λ i. slice_index_or sets i None) same ∙ e)

  go : (a : Bool) → r.asleep ≡ a → BestBelow sets (suc n) (cond a None (Some (n, r)))
  go true a = λ j s lt at. elim (cases_eq j n) [ inl same ↦ ap (λ q. q.asleep) (here j s same at) ∙ a | inr ne ↦ h j s (omega arith) at ]
  go false a = record {
    here = e;
    awake = a;
    first = λ j s lt at awake. elim (cases_eq j n) [
      | inl same ↦ let is : s ≡ r = here j s same at in inr (ap (λ q. q.priority) is, let x : r.number ≡ s.number = ap (λ q. q.number) (sym is) in omega arith)
      | inr ne ↦ let no : true ≡ false = sym (h j s (omega arith) at) ∙ awake in absurd (cc)
    ];
  }
more sets n (Some b) (Some r) e h = go r.asleep (precedes b.1 r) refl refl where
  here : (j : ℕ) (s : HeldJob) → j ≡ n → Holds sets j s → s ≡ r
  here j s same at = same_Some s r (sym at ∙ ap (λ i. slice_index_or sets i None) same ∙ e)

  go : (a p : Bool) → r.asleep ≡ a → precedes b.1 r ≡ p → BestBelow sets (suc n) (cond a (Some b) (cond p (Some b) (Some (n, r))))
  go true p a q = record {
    here = h.here;
    awake = h.awake;
    first = λ j s lt at awake. elim (cases_eq j n) [
      | inl same ↦ let no : true ≡ false = sym a ∙ ap (λ q. q.asleep) (sym (here j s same at)) ∙ awake in absurd (cc)
      | inr ne ↦ h.first j s (omega arith) at awake
    ];
  }
  go false true a q = record {
    here = h.here;
    awake = h.awake;
    first = λ j s lt at awake. elim (cases_eq j n) [
      | inl same ↦ rw (here j s same at) (precedes-true b.1 r q)
      | inr ne ↦ h.first j s (omega arith) at awake
    ];
  }
  go false false a q = record {
    here = e;
    awake = a;
    first = λ j s lt at awake. elim (cases_eq j n) [
      | inl same ↦ let is : s ≡ r = here j s same at in inr (ap (λ q. q.priority) is, let x : r.number ≡ s.number = ap (λ q. q.number) (sym is) in omega arith)
      | inr ne ↦ Yields-trans s b.1 r (h.first j s (omega arith) at awake) (precedes-false b.1 r q)
    ];
  }

pub best_exists : (sets : List (Option HeldJob)) (n : ℕ) → (o : Option (ℕ × HeldJob)) × BestBelow sets n o
best_exists sets zero = (None, λ j s lt at. absurd (omega arith))
best_exists sets (suc n) = let (o, h) = best_exists sets n in (better_of o n (slice_index_or sets n None), more sets n o (slice_index_or sets n None) refl h)

-- with a job running, NEWJOB is 0 where it stays, and else names the best job's set
pub named : (sets : List (Option HeldJob)) (job : HeldJob) → IsStanding sets → Holds sets 0 job → job.asleep ≡ false → ((newjob_of sets ≡ 0) × GivesWay job.number sets sets job.number) ⊎ ((k : ℕ) × (newjob_of sets ≡ 12 * k) × (1 ≤ k) × Waits sets job k)
named sets job standing here awake =
    let (o, h) = best_exists sets (length sets) in
    go o h
  where
    go : (o : Option (ℕ × HeldJob)) → BestBelow sets (length sets) o → ((newjob_of sets ≡ 0) × GivesWay job.number sets sets job.number) ⊎ ((k : ℕ) × (newjob_of sets ≡ 12 * k) × (1 ≤ k) × Waits sets job k)
    go None h = absurd (let no : true ≡ false = sym (h 0 job (Holds-within sets 0 job here) here) ∙ awake in cc)
    go (Some b) h =
        let is : newjob_of sets ≡ cond (nat_lt job.priority b.1.priority) (12 * b.0) 0 = newjob_of-best sets b.0 b.1 job standing.lawful h here in
        elim (cases_lt job.priority b.1.priority) [
          | inl lt ↦
              let yes : nat_lt job.priority b.1.priority ≡ true = grind (arith, common_steps) in
              let apart : b.0 ≢ 0 = λ z. let same : b.1 ≡ job = same_Some b.1 job (sym h.here ∙ ap (λ i. slice_index_or sets i None) z ∙ here) in let p : b.1.priority ≡ job.priority = ap (λ q. q.priority) same in omega arith in
              inr (b.0, is ∙ rw yes, omega arith, record { first = b.1; best = h; urgent = lt })
          | inr ge ↦
              let no : nat_lt job.priority b.1.priority ≡ false = grind (arith, common_steps) in
              inl (is ∙ rw no, GivesWay-none sets b.0 job b.1 standing here awake h no)
        ]

pub named-some : (sets : List (Option HeldJob)) (job : HeldJob) (w : ℕ) → IsStanding sets → Holds sets 0 job → job.asleep ≡ false → w ≡ newjob_of sets → w ≢ 0 → Waits sets job (w / 12)
named-some sets job w standing here awake e z = elim (named sets job standing here awake) [
  | inl both ↦ absurd (z (e ∙ both.0))
  | inr some ↦ let (k, is, low, waits) = some in let q : w / 12 ≡ k = omega arith in rw q waits
]

newjob_of-front : (sets : List (Option HeldJob)) (first : HeldJob) (number : ℕ) → best_from 1 (slots_of sets) ≡ Some (record { number = number; priority = first.priority }) → Holds sets 0 first → newjob_of sets ≡ 0
newjob_of-front sets first number e here =
    let no : nat_lt first.priority first.priority ≡ false = grind (arith, common_steps) in
    rw (e, front_priority-is sets first here, no)

-- a word of less than one set's length names set 0
pub named-stays : (sets : List (Option HeldJob)) (job : HeldJob) (w : ℕ) → IsStanding sets → Holds sets 0 job → job.asleep ≡ false → w ≡ newjob_of sets → w / 12 ≡ 0 → GivesWay job.number sets sets job.number
named-stays sets job w standing here awake e z = elim (named sets job standing here awake) [
  | inl both ↦ both.1
  | inr some ↦ absurd (omega arith)
]

-- the named set is one of the sets
pub named-range : (sets : List (Option HeldJob)) (job : HeldJob) (w : ℕ) → IsStanding sets → Holds sets 0 job → job.asleep ≡ false → w ≡ newjob_of sets → w / 12 < length sets
named-range sets job w standing here awake e =
    let first : 0 < length sets = Holds-within sets 0 job here in
    elim (cases_eq w 0) [
      | inl z ↦ omega arith
      | inr ne ↦ let waits : Waits sets job (w / 12) = named-some sets job w standing here awake e ne in Holds-within sets (w / 12) waits.first waits.best.here
    ]

-- the named set was exchanged with set 0
pub record Changes (old mid : List ℕ) (job : HeldJob) (k number : ℕ) : Type 0 where
  pub sets : sets_of mid ≡ swap (sets_of old) 0 k
  pub gives_way : GivesWay job.number (sets_of old) (sets_of mid) number
  pub place : place_of number (entries_in old) ≡ k
  pub newjob : newjob_of (sets_of mid) ≡ 0

pub Changes-made : (old mid : List ℕ) (job : HeldJob) (k number : ℕ) → IsLawfulWords old → (Holds (sets_of old) 0 job) × (job.asleep ≡ false) → Waits (sets_of old) job k → Some number ≡ option_map (λ (r : HeldJob). r.number) (slice_index_or (sets_of old) k None) → blocks_of mid ≡ swap (blocks_of old) 0 k → Changes old mid job k number
Changes-made old mid job k number lawful runs waits is blocks =
    let legal : IsLawful (sets_of old) = lawful.sets.standing.lawful in
    let lt : k < length (sets_of old) = Holds-within (sets_of old) k waits.first waits.best.here in
    let same : length (sets_of old) ≡ length (blocks_of old) = length-sets_of old in
    let sets : sets_of mid ≡ swap (sets_of old) 0 k = sets_of-swap old mid k (omega arith) blocks in
    let number_is : number ≡ waits.first.number = same_Some number waits.first.number (is ∙ ap (option_map (λ (r : HeldJob). r.number)) waits.best.here) in
    let urgent : nat_lt job.priority waits.first.priority ≡ true = let lt : job.priority < waits.first.priority = waits.urgent in grind (arith, common_steps) in
    let gives : GivesWay job.number (sets_of old) (swap (sets_of old) 0 k) waits.first.number = GivesWay-swap (sets_of old) k job waits.first lawful.sets.standing runs.0 waits.best urgent in
    let front : Holds (swap (sets_of old) 0 k) (moved k k) waits.first = swap-Holds (sets_of old) k k waits.first lt waits.best.here in
    let zero_is : moved k k ≡ 0 = grind (arith, common_steps) in
    let front_at : Holds (swap (sets_of old) 0 k) 0 waits.first = ap (λ i. slice_index_or (swap (sets_of old) 0 k) i None) (sym zero_is) ∙ front in
    let best : best_from 1 (slots_of (swap (sets_of old) 0 k)) ≡ Some (record { number = waits.first.number; priority = waits.first.priority }) = ap (best_from 1) (slots_of-swap (sets_of old) k lt legal) ∙ best_ready (sets_of old) k waits.first legal waits.best in
    record {
      sets = sets;
      gives_way = rw (sets, number_is) gives;
      place = rw number_is (place_of_number (sets_of old) k waits.first legal waits.best.here);
      newjob = ap newjob_of sets ∙ newjob_of-front (swap (sets_of old) 0 k) waits.first waits.first.number best front_at;
    }

pub Near-change : (old mid : List ℕ) (job : HeldJob) (k number : ℕ) → IsLawfulWords old → (Holds (sets_of old) 0 job) × (job.asleep ≡ false) → Changes old mid job k number → blocks_of mid ≡ swap (blocks_of old) 0 k → Keeps OutsideSets old mid → Near (change (jobs_in old)) (fronted (running_in (sets_of mid)) (entries_in old)) (fronted_blocks (running_in (sets_of mid)) (entries_in old) (blocks_of old)) old mid (Runs number)
Near-change old mid job k number lawful runs c blocks others = record {
  gives = Gives-change (sets_of old) (sets_of mid) job number runs.0 runs.1 c.gives_way;
  words = rw (c.gives_way.running, c.place) blocks;
  coded = rw blocks (Each-swap IsLawfulBlock (blocks_of old) k lawful.sets.coded);
  uses = uses-kept old mid lawful.uses (rw c.gives_way.slots (λ area low. refl)) others;
  tidy = λ t. rw blocks (Each-swap IsTidyBlock (blocks_of old) k t);
  others = sets_kept old mid others;
}

-- NEWJOB was written
pub Renewed-set : (words : List ℕ) (w : ℕ) → IsSized words → w ≡ newjob_of (sets_of words) → Renewed words (slice_set words layout.newjob w)
Renewed-set words w sized is = record {
  words = blocks_of-kept words layout.newjob w sized (omega arith) (omega arith);
  newjob = get_or-set_same words layout.newjob w 0 (omega arith) ∙ is;
  uses = λ i lt. get_or-set_other words layout.newjob i w 0 (omega arith);
  others = record { same_length = length-set words layout.newjob w; words = λ i is. get_or-set_other words layout.newjob i w 0 (omega arith) };
}

-- the job in set 0 runs on
pub Does-stays : (old : List ℕ) (job : HeldJob) → IsLawfulWords old → Holds (sets_of old) 0 job → job.asleep ≡ false → GivesWay job.number (sets_of old) (sets_of old) job.number → Does (change (jobs_in old)) (fronted (running_in (sets_of old)) (entries_in old)) (fronted_blocks (running_in (sets_of old)) (entries_in old) (blocks_of old)) old old (Runs job.number)
Does-stays old job lawful here awake way =
    let gives : Gives (change (jobs_in old)) (fronted (running_in (sets_of old)) (entries_in old)) (sets_of old) (Runs job.number) = Gives-change (sets_of old) (sets_of old) job job.number here awake way in
    record { lawful = lawful; outcome_is = gives.outcome_is; placed = gives.entries_is; words = sym (fronted-stays (sets_of old) (blocks_of old) lawful.sets.standing.lawful); tidy = λ t. t; others = kept OutsideCores old }
