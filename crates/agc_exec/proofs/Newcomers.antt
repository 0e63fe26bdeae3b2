-- NEWJOB after a job became awake, or the best came to run.
use Rattle.std.proofs.Common.{◌≡◌, ◌≢◌, ◌⊎◌, ℕ, ◌*◌, ◌/◌, ◌<◌, ◌≤◌, nat_lt, true, false, List, Option, Some, None, length, slice_index, slice_index_or, slice_set, ap, sym, ◌∙◌, inl, inr, arith}
use Rattle.std.proofs.lemmas.Bool.{cases_eq, cases_lt}
use Rattle.std.proofs.lemmas.List.{get_or-set_same, get_or-set_other}
use Rattle.std.proofs.lemmas.Option.{same_Some}
use Rattle.std.proofs.lemmas.Grind.{common_steps}
use Rattle.agc_word.specs.Layout as layout
use Rattle.agc_word.specs.Layout.{sets_in, set_place}
use Rattle.agc_plan.specs.Jobs.{best}
use Rattle.agc_exec.specs.HeldJob.{HeldJob}
use Rattle.agc_exec.specs.Sets.{Holds, IsLawful, IsStanding, slots_of, running_in}
use Rattle.agc_exec.specs.Image.{sets_of, IsLawfulWords}
use Rattle.agc_exec.specs.Stages.{newjob_of}
use Rattle.agc_exec.specs.Stages.{Yields, BestBelow, IsBestAt, BringsBest, FrontRuns, StaysBut, NamesBut, IsNewcomer, IsLed}
use Rattle.agc_exec.proofs.Arriving.{running_in-found}
use Rattle.agc_exec.proofs.Bests.{best-is, running_in-awake}
use Rattle.agc_exec.proofs.Finishing.{newjob_of-best, newjob_of-none}
use Rattle.agc_exec.proofs.Leads.{Yields-trans}
use Rattle.agc_exec.proofs.Named.{best_exists}
use Rattle.agc_exec.proofs.Swaps.{Holds-within}

-- NEWJOB is 0 where no awake job is more urgent than the one that runs
pub newjob-most : (sets : List (Option HeldJob)) (job : HeldJob) → IsLawful sets → Holds sets 0 job → job.asleep ≡ false → ((j : ℕ) (s : HeldJob) → Holds sets j s → s.asleep ≡ false → s.priority ≤ job.priority) → newjob_of sets ≡ 0
newjob-most sets job lawful front runs most = let (o, h) = best_exists sets (length sets) in go o h where
  go : (o : Option (ℕ × HeldJob)) → BestBelow sets (length sets) o → newjob_of sets ≡ 0
  go None h = absurd (let no : true ≡ false = sym (h 0 job (Holds-within sets 0 job front) front) ∙ runs in cc)
  go (Some b) h =
      let le : b.1.priority ≤ job.priority = most b.0 b.1 h.here h.awake in
      let no : nat_lt job.priority b.1.priority ≡ false = grind (arith, common_steps) in
      newjob_of-best sets b.0 b.1 job lawful h front ∙ rw no

-- it names the best job's set where that is more urgent
pub newjob-names : (sets : List (Option HeldJob)) (k : ℕ) (first job : HeldJob) → IsLawful sets → Holds sets 0 job → Holds sets k first → first.asleep ≡ false → job.priority < first.priority → ((j : ℕ) (s : HeldJob) → Holds sets j s → s.asleep ≡ false → Yields s first) → newjob_of sets ≡ 12 * k
newjob-names sets k first job lawful front here awake urgent yields =
    let yes : nat_lt job.priority first.priority ≡ true = grind (arith, common_steps) in
    newjob_of-best sets k first job lawful (record { here = here; awake = awake; first = λ j s lt at a. yields j s at a }) front ∙ rw yes

itself : (sets : List (Option HeldJob)) (j k : ℕ) (s r : HeldJob) → j ≡ k → Holds sets j s → Holds sets k r → s ≡ r
itself sets j k s r same at here = same_Some s r (sym at ∙ ap (λ i. slice_index_or sets i None) same ∙ here)

Yields-itself : (s r : HeldJob) → s ≡ r → Yields s r
Yields-itself s r e = inr (ap (λ q. q.priority) e, let x : r.number ≡ s.number = ap (λ q. q.number) (sym e) in omega arith)

-- the job that became awake goes before all others
comes_first : (words : List ℕ) (k : ℕ) → (c : IsNewcomer words k) → IsLawful (sets_of words) → c.job.priority < c.comer.priority → ((j : ℕ) (s : HeldJob) → j ≢ k → Holds (sets_of words) j s → s.asleep ≡ false → Yields s c.comer) → newjob_of (sets_of words) ≡ 12 * k
comes_first words k c lawful urgent yields = newjob-names (sets_of words) k c.comer c.job lawful c.front c.here c.awake urgent (λ j s at a. elim (cases_eq j k) [
  | inl same ↦ Yields-itself s c.comer (itself (sets_of words) j k s c.comer same at c.here)
  | inr ne ↦ yields j s ne at a
])

-- the one that NEWJOB names does
named_first : (words : List ℕ) (k : ℕ) → (c : IsNewcomer words k) → IsLawful (sets_of words) → (n : NamesBut (sets_of words) k c.job (slice_index words layout.newjob)) → Yields c.comer n.first → newjob_of (sets_of words) ≡ slice_index words layout.newjob
named_first words k c lawful n yields = newjob-names (sets_of words) n.place n.first c.job lawful c.front n.here n.awake n.urgent (λ j s at a. elim (cases_eq j k) [
  | inl same ↦ rw (itself (sets_of words) j k s c.comer same at c.here) yields
  | inr ne ↦ n.yields j s ne at a
]) ∙ sym n.name

-- nobody is more urgent than the job that runs
nobody_first : (words : List ℕ) (k : ℕ) → (c : IsNewcomer words k) → IsLawful (sets_of words) → (n : StaysBut (sets_of words) k c.job (slice_index words layout.newjob)) → c.comer.priority ≤ c.job.priority → newjob_of (sets_of words) ≡ slice_index words layout.newjob
nobody_first words k c lawful n le = newjob-most (sets_of words) c.job lawful c.front c.runs (λ j s at a. elim (cases_eq j k) [
  | inl same ↦ let p : s.priority ≡ c.comer.priority = ap (λ q. q.priority) (itself (sets_of words) j k s c.comer same at c.here) in omega arith
  | inr ne ↦ n.most j s ne at a
]) ∙ sym n.none

-- which set NEWJOB names, and that it is one of the sets
pub record Names (words : List ℕ) (k : ℕ) : Type 0 where
  pub named : HeldJob
  pub here : Holds (sets_of words) (slice_index words layout.newjob / 12) named
  pub awake : named.asleep ≡ false

pub names_of : (words : List ℕ) (k : ℕ) → IsNewcomer words k → Names words k
names_of words k c = elim c.named [
  | inl n ↦ let z : slice_index words layout.newjob / 12 ≡ 0 = (let e : slice_index words layout.newjob ≡ 0 = n.none in omega arith) in record { named = c.job; here = rw z c.front; awake = c.runs }
  | inr n ↦ let z : slice_index words layout.newjob / 12 ≡ n.place = (let e : slice_index words layout.newjob ≡ 12 * n.place = n.name in omega arith) in record { named = n.first; here = rw z n.here; awake = n.awake }
]

-- by priorities and numbers
pub with-behind : (words : List ℕ) (k : ℕ) → (c : IsNewcomer words k) → IsLawful (sets_of words) → (n : Names words k) → c.comer.priority < n.named.priority → newjob_of (sets_of words) ≡ slice_index words layout.newjob
with-behind words k c lawful n less = elim c.named [
  | inl s ↦
      let z : slice_index words layout.newjob / 12 ≡ 0 = (let e : slice_index words layout.newjob ≡ 0 = s.none in omega arith) in
      let p : n.named.priority ≡ c.job.priority = ap (λ q. q.priority) (itself (sets_of words) (slice_index words layout.newjob / 12) 0 n.named c.job z n.here c.front) in
      nobody_first words k c lawful s (omega arith)
  | inr s ↦
      let z : slice_index words layout.newjob / 12 ≡ s.place = (let e : slice_index words layout.newjob ≡ 12 * s.place = s.name in omega arith) in
      let p : n.named.priority ≡ s.first.priority = ap (λ q. q.priority) (itself (sets_of words) (slice_index words layout.newjob / 12) s.place n.named s.first z n.here s.here) in
      named_first words k c lawful s (inl (omega arith))
]

pub with-ahead : (words : List ℕ) (k : ℕ) → (c : IsNewcomer words k) → IsLawful (sets_of words) → (n : Names words k) → n.named.priority < c.comer.priority → newjob_of (sets_of words) ≡ 12 * k
with-ahead words k c lawful n more = elim c.named [
  | inl s ↦
      let z : slice_index words layout.newjob / 12 ≡ 0 = (let e : slice_index words layout.newjob ≡ 0 = s.none in omega arith) in
      let p : n.named.priority ≡ c.job.priority = ap (λ q. q.priority) (itself (sets_of words) (slice_index words layout.newjob / 12) 0 n.named c.job z n.here c.front) in
      comes_first words k c lawful (omega arith) (λ j t ne at a. let le : t.priority ≤ c.job.priority = s.most j t ne at a in inl (omega arith))
  | inr s ↦
      let z : slice_index words layout.newjob / 12 ≡ s.place = (let e : slice_index words layout.newjob ≡ 12 * s.place = s.name in omega arith) in
      let p : n.named.priority ≡ s.first.priority = ap (λ q. q.priority) (itself (sets_of words) (slice_index words layout.newjob / 12) s.place n.named s.first z n.here s.here) in
      let u : c.job.priority < s.first.priority = s.urgent in
      comes_first words k c lawful (omega arith) (λ j t ne at a. Yields-trans t s.first c.comer (s.yields j t ne at a) (inl (omega arith)))
]

pub with-same : (words : List ℕ) (k : ℕ) → (c : IsNewcomer words k) → IsLawful (sets_of words) → (n : Names words k) → n.named.priority ≡ c.comer.priority → slice_index words layout.newjob / 12 ≡ 0 → newjob_of (sets_of words) ≡ slice_index words layout.newjob
with-same words k c lawful n same zero_is = elim c.named [
  | inl s ↦
      let p : n.named.priority ≡ c.job.priority = ap (λ q. q.priority) (itself (sets_of words) (slice_index words layout.newjob / 12) 0 n.named c.job zero_is n.here c.front) in
      nobody_first words k c lawful s (omega arith)
  | inr s ↦ absurd (let e : slice_index words layout.newjob ≡ 12 * s.place = s.name in let low : 1 ≤ s.place = s.behind in omega arith)
]

pub with-lower : (words : List ℕ) (k : ℕ) → (c : IsNewcomer words k) → IsLawful (sets_of words) → (n : Names words k) → n.named.priority ≡ c.comer.priority → 0 < slice_index words layout.newjob / 12 → n.named.number < c.comer.number → newjob_of (sets_of words) ≡ slice_index words layout.newjob
with-lower words k c lawful n same some less = elim c.named [
  | inl s ↦ absurd (let e : slice_index words layout.newjob ≡ 0 = s.none in omega arith)
  | inr s ↦
      let z : slice_index words layout.newjob / 12 ≡ s.place = (let e : slice_index words layout.newjob ≡ 12 * s.place = s.name in omega arith) in
      let is : n.named ≡ s.first = itself (sets_of words) (slice_index words layout.newjob / 12) s.place n.named s.first z n.here s.here in
      let p : n.named.priority ≡ s.first.priority = ap (λ q. q.priority) is in
      let m : n.named.number ≡ s.first.number = ap (λ q. q.number) is in
      named_first words k c lawful s (inr (omega arith, omega arith))
]

pub with-higher : (words : List ℕ) (k : ℕ) → (c : IsNewcomer words k) → IsLawful (sets_of words) → (n : Names words k) → n.named.priority ≡ c.comer.priority → 0 < slice_index words layout.newjob / 12 → c.comer.number ≤ n.named.number → newjob_of (sets_of words) ≡ 12 * k
with-higher words k c lawful n same some le = elim c.named [
  | inl s ↦ absurd (let e : slice_index words layout.newjob ≡ 0 = s.none in omega arith)
  | inr s ↦
      let z : slice_index words layout.newjob / 12 ≡ s.place = (let e : slice_index words layout.newjob ≡ 12 * s.place = s.name in omega arith) in
      let is : n.named ≡ s.first = itself (sets_of words) (slice_index words layout.newjob / 12) s.place n.named s.first z n.here s.here in
      let p : n.named.priority ≡ s.first.priority = ap (λ q. q.priority) is in
      let m : n.named.number ≡ s.first.number = ap (λ q. q.number) is in
      let u : c.job.priority < s.first.priority = s.urgent in
      comes_first words k c lawful (omega arith) (λ j t ne at a. Yields-trans t s.first c.comer (s.yields j t ne at a) (inr (omega arith, omega arith)))
]

-- a job became awake while another runs
pub newcomer : (old new : List ℕ) (k : ℕ) (comer : HeldJob) → IsLawfulWords old → FrontRuns (sets_of old) → ((s : HeldJob) → Holds (sets_of old) k s → s.asleep ≡ true) → k < length (sets_of old) → comer.asleep ≡ false → sets_of new ≡ slice_set (sets_of old) k (Some comer) → slice_index new layout.newjob ≡ slice_index old layout.newjob → IsNewcomer new k
newcomer old new k comer lawful runs slept lt awake sets kept =
    let (job, here, awake_job) = runs in
    let apart : 0 ≢ k = λ e. let no : true ≡ false = sym (slept job (ap (λ i. slice_index_or (sets_of old) i None) (sym e) ∙ here)) ∙ awake_job in cc in
    record {
      job = job;
      front = ap (λ l. slice_index_or l 0 None) sets ∙ get_or-set_other (sets_of old) k 0 (Some comer) None apart ∙ here;
      runs = awake_job;
      comer = comer;
      here = ap (λ l. slice_index_or l k None) sets ∙ get_or-set_same (sets_of old) k (Some comer) None lt;
      awake = awake;
      behind = omega arith;
      named = let (o, h) = best_exists (sets_of old) (length (sets_of old)) in go job here awake_job o h;
    }
  where
    before : (j : ℕ) (s : HeldJob) → j ≢ k → Holds (sets_of new) j s → Holds (sets_of old) j s
    before j s ne at = sym (ap (λ l. slice_index_or l j None) sets ∙ get_or-set_other (sets_of old) k j (Some comer) None ne) ∙ at

    after : (j : ℕ) (s : HeldJob) → j ≢ k → Holds (sets_of old) j s → Holds (sets_of new) j s
    after j s ne at = ap (λ l. slice_index_or l j None) sets ∙ get_or-set_other (sets_of old) k j (Some comer) None ne ∙ at

    go : (job : HeldJob) → Holds (sets_of old) 0 job → job.asleep ≡ false → (o : Option (ℕ × HeldJob)) → BestBelow (sets_of old) (length (sets_of old)) o → StaysBut (sets_of new) k job (slice_index new layout.newjob) ⊎ NamesBut (sets_of new) k job (slice_index new layout.newjob)
    go job here awake_job None h = absurd (let no : true ≡ false = sym (h 0 job (Holds-within (sets_of old) 0 job here) here) ∙ awake_job in cc)
    go job here awake_job (Some b) h = elim (cases_lt job.priority b.1.priority) [
      | inl lt ↦
          let yes : nat_lt job.priority b.1.priority ≡ true = grind (arith, common_steps) in
          let apart : b.0 ≢ k = λ e. let no : true ≡ false = sym (slept b.1 (ap (λ i. slice_index_or (sets_of old) i None) (sym e) ∙ h.here)) ∙ h.awake in cc in
          let other : b.0 ≢ 0 = λ e. let p : b.1.priority ≡ job.priority = ap (λ q. q.priority) (itself (sets_of old) b.0 0 b.1 job e h.here here) in omega arith in
          inr (record {
            place = b.0;
            name = kept ∙ lawful.newjob ∙ newjob_of-best (sets_of old) b.0 b.1 job lawful.sets.standing.lawful h here ∙ rw yes;
            behind = omega arith;
            first = b.1;
            here = after b.0 b.1 apart h.here;
            awake = h.awake;
            urgent = lt;
            yields = λ j s ne at a. h.first j s (Holds-within (sets_of old) j s (before j s ne at)) (before j s ne at) a;
          })
      | inr ge ↦
          let no : nat_lt job.priority b.1.priority ≡ false = grind (arith, common_steps) in
          inl (record {
            none = kept ∙ lawful.newjob ∙ newjob_of-best (sets_of old) b.0 b.1 job lawful.sets.standing.lawful h here ∙ rw no;
            most = λ j s ne at a. elim (h.first j s (Holds-within (sets_of old) j s (before j s ne at)) (before j s ne at) a) [ inl lt ↦ omega arith | inr both ↦ omega arith ];
          })
    ]

-- where nobody ran, a job that becomes awake is the best
pub only_awake : (sets : List (Option HeldJob)) (k : ℕ) (comer : HeldJob) → IsStanding sets → running_in sets ≡ None → k < length sets → comer.asleep ≡ false → IsBestAt (slice_set sets k (Some comer)) k
only_awake sets k comer standing idle lt awake = (
  comer,
  record {
    here = get_or-set_same sets k (Some comer) None lt;
    awake = awake;
    first = λ j s lt_j at a. elim (cases_eq j k) [
      | inl same ↦ Yields-itself s comer (itself (slice_set sets k (Some comer)) j k s comer same at (get_or-set_same sets k (Some comer) None lt))
      | inr ne ↦
          let (job, here, runs) = standing.in_front j s (sym (get_or-set_other sets k j (Some comer) None ne) ∙ at) a in
          let no : None ≡ Some job.number = sym idle ∙ running_in-awake sets job here runs in
          absurd (cc)
    ];
  },
)

-- then it runs
pub led : (old new : List (Option HeldJob)) (k : ℕ) → IsLawful old → IsBestAt old k → BringsBest old new → IsLed new
led old new k lawful most brings =
    let (r, is) = most in
    let runs : running_in new ≡ Some r.number = brings.running ∙ best-is old k r lawful is in
    let (job, here, awake, number) = running_in-found new r.number runs in
    record { runs = (job, here, awake); first = brings.running ∙ ap best (sym brings.slots) }

-- where the best job runs, NEWJOB is 0
pub newjob-led : (sets : List (Option HeldJob)) → IsLawful sets → FrontRuns sets → running_in sets ≡ best (slots_of sets) → newjob_of sets ≡ 0
newjob-led sets lawful runs first = let (o, h) = best_exists sets (length sets) in go o h where
  go : (o : Option (ℕ × HeldJob)) → BestBelow sets (length sets) o → newjob_of sets ≡ 0
  go None h = let (job, here, awake) = runs in absurd (let no : true ≡ false = sym (h 0 job (Holds-within sets 0 job here) here) ∙ awake in cc)
  go (Some b) h =
      let (job, here, awake) = runs in
      let same : job.number ≡ b.1.number = same_Some job.number b.1.number (sym (running_in-awake sets job here awake) ∙ first ∙ best-is sets b.0 b.1 lawful h) in
      let place : 0 ≡ b.0 = lawful.distinct 0 b.0 job b.1 here h.here same in
      newjob-most sets job lawful here awake (λ j s at a.
      let is : b.1 ≡ job = itself sets b.0 0 b.1 job (sym place) h.here here in
      let p : b.1.priority ≡ job.priority = ap (λ q. q.priority) is in
      elim (h.first j s (Holds-within sets j s at) at a) [ inl lt ↦ omega arith | inr both ↦ omega arith ])

-- and where nobody is awake, 77777
pub newjob-rests : (sets : List (Option HeldJob)) → IsLawful sets → running_in sets ≡ None → running_in sets ≡ best (slots_of sets) → newjob_of sets ≡ 32767
newjob-rests sets lawful idle first = let (o, h) = best_exists sets (length sets) in go o h where
  go : (o : Option (ℕ × HeldJob)) → BestBelow sets (length sets) o → newjob_of sets ≡ 32767
  go None h = newjob_of-none sets lawful h
  go (Some b) h = absurd (let no : None ≡ Some b.1.number = sym idle ∙ first ∙ best-is sets b.0 b.1 lawful h in cc)
