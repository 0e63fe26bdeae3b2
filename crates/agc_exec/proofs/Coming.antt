-- A new job on the words.
use Rattle.std.proofs.Common.{◌≡◌, ℕ, ◌-◌, ◌<◌, ◌≤◌, ◌==◌, ◌&&◌, ◌||◌, is_some, cond, Bool, true, false, List, Option, Some, None, length, slice_index, slice_set, refl, ap, sym, subst, ◌∙◌, inl, inr, arith}
use Rattle.agc_word.specs.Layout.{OutsideCores, use_place, Keeps}
use Rattle.agc_exec.specs.Frames.{OutsideSets}
use Rattle.agc_word.proofs.Keeping.{kept_twice}
use Rattle.agc_exec.proofs.Finishing.{sets_kept}
use Rattle.agc_exec.specs.Calls.{new_block, fronted_blocks, blocks_new}
use Rattle.agc_exec.specs.Stages.{SameOwners, Tells, TookOver, IsFreeAt, IsUnowned, BringsBest, Gives}
use Rattle.std.proofs.lemmas.Grind.{common_steps}
use Rattle.agc_plan.specs.declared.request.Entry.{Entry}
use Rattle.agc_plan.specs.declared.reply.Reply.{Reply}
use Rattle.agc_plan.specs.declared.reply.Reply.TheVariants.{Established}
use Rattle.agc_plan.specs.Jobs.{Jobs, Outcome, least_unused, establish_at, new_job, best, is_owned, established}
use Rattle.agc_plan.specs.Places.{place_of, with_new, placed_new}
use Rattle.agc_exec.specs.HeldJob.{HeldJob}
use Rattle.agc_exec.specs.Blocks.{blocks_of}
use Rattle.agc_exec.specs.Sets.{IsLawful, slots_of, entries_of, running_in}
use Rattle.agc_exec.specs.Stages.{jobs_of}
use Rattle.agc_exec.specs.Image.{held_of, sets_of, IsLawfulBlock, IsTidyBlock, Each, IsSet, IsLawfulWords, jobs_in, entries_in}
use Rattle.agc_exec.specs.Stages.{UsesAgree}
use Rattle.agc_exec.specs.Stages.{use_word}
use Rattle.agc_exec.proofs.Bests.{place_of_number, running_in-awake}
use Rattle.agc_exec.proofs.Arriving.{Arrives, Arrives-made, arrived-lawful, Gives-busy, Gives-idle, running_in-found, written-entries, least_unused-fits}
use Rattle.agc_exec.proofs.Decoding.{job_with, held_of-new, sets_of-set, swap-same, Each-new, Each-fronted, Each-set}
use Rattle.agc_exec.proofs.Finishing.{Near, sets_of-same}
use Rattle.agc_exec.proofs.Owners.{is_owned-new}
use Rattle.std.proofs.lemmas.Bool.{cases_eq}

-- who runs already stands in set 0
pub fronted-stays : (sets : List (Option HeldJob)) (blocks : List (List ℕ)) → IsLawful sets → fronted_blocks (running_in sets) (entries_of sets) blocks ≡ blocks
fronted-stays sets blocks lawful = go (running_in sets) refl where
  go : (o : Option ℕ) → running_in sets ≡ o → fronted_blocks o (entries_of sets) blocks ≡ blocks
  go None e = refl
  go (Some n) e =
      let (s, at, awake, number) = running_in-found sets n e in
      let place : place_of n (entries_of sets) ≡ 0 = ap (λ m. place_of m (entries_of sets)) (sym number) ∙ place_of_number sets 0 s lawful at in
      rw place (swap-same blocks)

-- a new job's words were written to a set
pub record Comes (old mid : List ℕ) (k number priority : ℕ) (entry : Entry) (area : ℕ) : Type 0 where
  pub arrives : Arrives (sets_of old) k (job_with (new_block number priority entry area) priority area false) (new_job priority entry area)
  pub sets : sets_of mid ≡ slice_set (sets_of old) k (Some (job_with (new_block number priority entry area) priority area false))
  pub blocks : blocks_of mid ≡ slice_set (blocks_of old) k (new_block number priority entry area)

pub Comes-made : (old mid : List ℕ) (k number priority : ℕ) (entry : Entry) (area : ℕ) (block : List ℕ) → IsSet old → (k < length (sets_of old)) × IsFreeAt (sets_of old) k → k ≡ place_of 0 (entries_of (sets_of old)) → Some number ≡ least_unused 1 (slots_of (sets_of old)) → area ≤ 5 → (0 < area → IsUnowned (sets_of old) area) → (1 ≤ priority) × (priority ≤ 31) → block ≡ new_block number priority entry area → blocks_of mid ≡ slice_set (blocks_of old) k block → Comes old mid k number priority entry area
Comes-made old mid k number priority entry area block set free first e five own range is written =
    let held : held_of block ≡ Some (job_with (new_block number priority entry area) priority area false) = ap held_of is ∙ held_of-new number priority entry area range.0 range.1 five in
    record {
      arrives = Arrives-made (sets_of old) k (job_with (new_block number priority entry area) priority area false) number priority entry area set.standing free first e five own refl refl;
      sets = sets_of-set old mid k block written ∙ ap (λ v. slice_set (sets_of old) k v) held;
      blocks = written ∙ ap (λ b. slice_set (blocks_of old) k b) is;
    }

pub came-lawful : (old mid : List ℕ) (k number priority : ℕ) (entry : Entry) (area : ℕ) → Comes old mid k number priority entry area → IsLawful (sets_of mid)
came-lawful old mid k number priority entry area c = rw c.sets (arrived-lawful _ _ _ _ c.arrives)

pub came-idle : (old mid new : List ℕ) (k number priority : ℕ) (entry : Entry) (area : ℕ) → Comes old mid k number priority entry area → running_in (sets_of old) ≡ None → BringsBest (sets_of mid) (sets_of new) → Gives (establish_at (least_unused 1 (slots_of (sets_of old))) (new_job priority entry area) (jobs_of (sets_of old))) (placed_new (Some number) (running_in (sets_of new)) (entries_of (sets_of old))) (sets_of new) (Established number)
came-idle old mid new k number priority entry area c idle brings =
    let brings_set : BringsBest (slice_set (sets_of old) k (Some (job_with (new_block number priority entry area) priority area false))) (sets_of new) = rw (← c.sets) brings in
    Gives-idle (sets_of old) (sets_of new) k _ _ c.arrives idle brings_set

pub came-busy : (old mid : List ℕ) (k n number priority : ℕ) (entry : Entry) (area : ℕ) → Comes old mid k number priority entry area → running_in (sets_of old) ≡ Some n → Gives (establish_at (least_unused 1 (slots_of (sets_of old))) (new_job priority entry area) (jobs_of (sets_of old))) (placed_new (Some number) (running_in (sets_of mid)) (entries_of (sets_of old))) (sets_of mid) (Established number)
came-busy old mid k n number priority entry area c busy = rw c.sets (Gives-busy (sets_of old) k n _ _ c.arrives busy)

came-entries : (old mid : List ℕ) (k number priority : ℕ) (entry : Entry) (area : ℕ) → Comes old mid k number priority entry area → entries_of (sets_of mid) ≡ with_new number (entries_of (sets_of old))
came-entries old mid k number priority entry area c = ap entries_of c.sets ∙ written-entries (sets_of old) k (job_with (new_block number priority entry area) priority area false) c.arrives.first

came-blocks : (old mid : List ℕ) (k number priority : ℕ) (entry : Entry) (area : ℕ) → Comes old mid k number priority entry area → blocks_of mid ≡ slice_set (blocks_of old) (place_of 0 (entries_of (sets_of old))) (new_block number priority entry area)
came-blocks old mid k number priority entry area c = c.blocks ∙ ap (λ i. slice_set (blocks_of old) i (new_block number priority entry area)) c.arrives.first

pub words-idle : (old mid new : List ℕ) (k number priority : ℕ) (entry : Entry) (area : ℕ) → Comes old mid k number priority entry area → BringsBest (sets_of mid) (sets_of new) → blocks_of new ≡ fronted_blocks (best (slots_of (sets_of mid))) (entries_of (sets_of mid)) (blocks_of mid) → blocks_of new ≡ blocks_new (Some number) priority entry area (running_in (sets_of new)) (entries_of (sets_of old)) (blocks_of old)
words-idle old mid new k number priority entry area c brings words =
    rw (brings.running, ← came-entries old mid k number priority entry area c, ← came-blocks old mid k number priority entry area c) words

pub words-busy : (old mid : List ℕ) (k number priority : ℕ) (entry : Entry) (area : ℕ) → Comes old mid k number priority entry area → blocks_of mid ≡ blocks_new (Some number) priority entry area (running_in (sets_of mid)) (entries_of (sets_of old)) (blocks_of old)
words-busy old mid k number priority entry area c =
    rw (← came-entries old mid k number priority entry area c, ← came-blocks old mid k number priority entry area c) (sym (fronted-stays (sets_of mid) (blocks_of mid) (came-lawful old mid k number priority entry area c)))

pub uses-kept : (old new : List ℕ) → UsesAgree old (slots_of (sets_of old)) → SameOwners (slots_of (sets_of old)) (slots_of (sets_of new)) → Keeps OutsideSets old new → UsesAgree new (slots_of (sets_of new))
uses-kept old new uses same others area low high =
    others.words (use_place area) (omega arith, omega arith) ∙ uses area low high ∙ rw (same area low)

pub coded-new : (number priority : ℕ) (entry : Entry) (area : ℕ) (running : Option ℕ) (entries : List ℕ) (blocks : List (List ℕ)) (block : List ℕ) → Each IsLawfulBlock blocks → block ≡ new_block number priority entry area → IsLawfulBlock block → Each IsLawfulBlock (blocks_new (Some number) priority entry area running entries blocks)
coded-new number priority entry area running entries blocks block each is here =
    let P : List ℕ → Type 0 = λ b. IsLawfulBlock b in
    Each-fronted IsLawfulBlock running (with_new number entries) _ (Each-set IsLawfulBlock blocks (place_of 0 entries) (new_block number priority entry area) each (subst P is here))

-- the area of a new job becomes owned
owners-area : (o : Option ℕ) (priority : ℕ) (entry : Entry) (area : ℕ) (jobs : Jobs) → o ≡ least_unused 1 jobs.slots → (a : ℕ) → is_owned a (establish_at o (new_job priority entry area) jobs).jobs.slots ≡ cond (is_some (established (establish_at o (new_job priority entry area) jobs).reply) && (a == area)) true (is_owned a jobs.slots)
owners-area None priority entry area jobs e a = refl
owners-area (Some number) priority entry area jobs e a =
    let (least, most, free) = least_unused-fits 1 jobs.slots number (sym e) in
    let is : is_owned a (slice_set jobs.slots (number - 1) (Some (new_job priority entry area))) ≡ ((area == a) || is_owned a jobs.slots) = is_owned-new jobs.slots (number - 1) (new_job priority entry area) a (omega arith) free in
    elim (cases_eq a area) [
      | inl same ↦ let yes : (a == area) ≡ true = grind (arith, common_steps) in let back : (area == a) ≡ true = grind (arith, common_steps) in rw (is, yes, back)
      | inr ne ↦ let no : (a == area) ≡ false = grind (arith, common_steps) in let back : (area == a) ≡ false = grind (arith, common_steps) in rw (is, no, back)
    ]

pub uses-area : (old mid new : List ℕ) (area : ℕ) (made : Bool) → UsesAgree old (slots_of (sets_of old)) → ((a : ℕ) → is_owned a (slots_of (sets_of new)) ≡ cond (made && (a == area)) true (is_owned a (slots_of (sets_of old)))) → Keeps OutsideSets old mid → ((a : ℕ) → 1 ≤ a → a ≤ 5 → slice_index new (use_place a) ≡ cond (made && (a == area)) 0 (slice_index mid (use_place a))) → UsesAgree new (slots_of (sets_of new))
uses-area old mid new area made uses owned others written a low high =
    let before : slice_index mid (use_place a) ≡ use_word a (slots_of (sets_of old)) = others.words (use_place a) (omega arith, omega arith) ∙ uses a low high in
    go (made && (a == area)) refl before
  where
    go : (b : Bool) → (made && (a == area)) ≡ b → slice_index mid (use_place a) ≡ use_word a (slots_of (sets_of old)) → slice_index new (use_place a) ≡ use_word a (slots_of (sets_of new))
    go true e before = let own : is_owned a (slots_of (sets_of new)) ≡ true = rw e at (owned a) in rw own (rw e at (written a low high))
    go false e before = let own : is_owned a (slots_of (sets_of new)) ≡ is_owned a (slots_of (sets_of old)) = rw e at (owned a) in let word : slice_index new (use_place a) ≡ slice_index mid (use_place a) = rw e at (written a low high) in rw own (word ∙ before)

pub Near-findvac : (old mid new : List ℕ) (priority : ℕ) (entry : Entry) (area : ℕ) (made : Bool) (reply : Reply) → IsLawfulWords old → Gives (establish_at (least_unused 1 (slots_of (sets_of old))) (new_job priority entry area) (jobs_in old)) (placed_new (established reply) (running_in (sets_of mid)) (entries_in old)) (sets_of mid) reply → blocks_of mid ≡ blocks_new (established reply) priority entry area (running_in (sets_of mid)) (entries_in old) (blocks_of old) → Each IsLawfulBlock (blocks_of mid) → Keeps OutsideSets old mid → made ≡ is_some (established reply) → blocks_of new ≡ blocks_of mid → ((a : ℕ) → 1 ≤ a → a ≤ 5 → slice_index new (use_place a) ≡ cond (made && (a == area)) 0 (slice_index mid (use_place a))) → Keeps OutsideCores mid new → Near (establish_at (least_unused 1 (slots_of (sets_of old))) (new_job priority entry area) (jobs_in old)) (placed_new (established reply) (running_in (sets_of new)) (entries_in old)) (blocks_new (established reply) priority entry area (running_in (sets_of new)) (entries_in old) (blocks_of old)) old new reply
Near-findvac old mid new priority entry area made reply lawful gives words coded others made_is kept uses later =
    let same : sets_of new ≡ sets_of mid = sets_of-same mid new kept in
    let slots : slots_of (sets_of mid) ≡ (establish_at (least_unused 1 (slots_of (sets_of old))) (new_job priority entry area) (jobs_in old)).jobs.slots = ap (λ (o : Outcome). o.jobs.slots) gives.outcome_is in
    let reply_is : reply ≡ (establish_at (least_unused 1 (slots_of (sets_of old))) (new_job priority entry area) (jobs_in old)).reply = ap (λ (o : Outcome). o.reply) gives.outcome_is in
    let owners : (a : ℕ) → is_owned a (slots_of (sets_of new)) ≡ cond (made && (a == area)) true (is_owned a (slots_of (sets_of old))) = λ a. rw (same, slots, made_is, reply_is) (owners-area (least_unused 1 (slots_of (sets_of old))) priority entry area (jobs_in old) refl a) in
    record {
      gives = rw same gives;
      words = rw same (kept ∙ words);
      coded = rw kept coded;
      uses = uses-area old mid new area made lawful.uses owners others uses;
      tidy = λ t. rw (kept, words) (Each-new IsTidyBlock (established reply) priority entry area (running_in (sets_of mid)) (entries_in old) (blocks_of old) t (λ number e r is. (refl, refl)));
      others = kept_twice OutsideCores old mid new (sets_kept old mid others) later;
    }

-- a new job came, and taking over
pub record Came (old new : List ℕ) (number priority : ℕ) (entry : Entry) (area : ℕ) : Type 0 where
  pub gives : Gives (establish_at (least_unused 1 (slots_of (sets_of old))) (new_job priority entry area) (jobs_of (sets_of old))) (placed_new (Some number) (running_in (sets_of new)) (entries_of (sets_of old))) (sets_of new) (Established number)
  pub words : blocks_of new ≡ blocks_new (Some number) priority entry area (running_in (sets_of new)) (entries_of (sets_of old)) (blocks_of old)

pub came : (old mid new : List ℕ) (k number priority : ℕ) (entry : Entry) (area : ℕ) (ran : Bool) → Comes old mid k number priority entry area → Tells ran old → TookOver ran mid new → Came old new number priority entry area
came old mid new k number priority entry area false c tells over = record {
  gives = came-idle old mid new k number priority entry area c (tells.idle refl) (over.idle refl);
  words = words-idle old mid new k number priority entry area c (over.idle refl) (over.idle_blocks refl);
}
came old mid new k number priority entry area true c tells over =
    let (r, at, awake) = tells.runs refl in
    let runs : running_in (sets_of old) ≡ Some r.number = running_in-awake (sets_of old) r at awake in
    rw (over.busy refl) (record {
      gives = came-busy old mid k r.number number priority entry area c runs;
      words = words-busy old mid k number priority entry area c;
    })
