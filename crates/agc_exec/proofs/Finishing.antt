-- From what a request did to the sets to what it did to all words.
use Rattle.std.proofs.Common.{◌≡◌, ℕ, ◌*◌, ◌<◌, ◌≤◌, nat_lt, cond, false, List, [], ◌∷◌, Option, Some, None, length, slice_index, map, refl, ap, sym, ◌∙◌, arith}
use Rattle.agc_exec.specs.Stages.{IsBestBelow, BestBelow, Gives}
use Rattle.agc_word.specs.Layout as layout
use Rattle.agc_word.specs.Layout.{IsSized, sets_in, OutsideCores, use_place, Keeps}
use Rattle.agc_exec.specs.Frames.{OutsideSets}
use Rattle.agc_word.proofs.Keeping.{kept_twice, kept_also}
use Rattle.agc_exec.specs.Calls.{Does, new_block}
use Rattle.std.proofs.lemmas.Option.{same_Some}
use Rattle.agc_plan.specs.declared.request.Entry.{Entry}
use Rattle.agc_plan.specs.declared.reply.Reply.{Reply}
use Rattle.agc_plan.specs.Jobs.{Outcome}
use Rattle.agc_exec.specs.HeldJob.{HeldJob}
use Rattle.agc_exec.specs.Blocks.{blocks_of}
use Rattle.agc_exec.specs.Sets.{Holds, IsLawful, slots_of, running_in}
use Rattle.agc_exec.specs.Image.{held_of, sets_of, IsLawfulBlock, Each, IsTidy, front_priority}
use Rattle.agc_exec.specs.Stages.{newjob_of}
use Rattle.agc_exec.specs.Stages.{UsesAgree}
use Rattle.agc_exec.proofs.Decoding.{job_with, held_of-new, IsSized-kept}
use Rattle.agc_exec.proofs.Bests.{best_ready, ready-none, place_of_number}

pub IsLawfulBlock-new : (number priority : ℕ) (entry : Entry) (area : ℕ) → 1 ≤ priority → priority ≤ 31 → area ≤ 5 → 1 ≤ entry.at → entry.at ≤ 16383 → IsLawfulBlock (new_block number priority entry area)
IsLawfulBlock-new number priority entry area low high five at_low at_high r e =
    let is : job_with (new_block number priority entry area) priority area false ≡ r = same_Some _ r (sym (held_of-new number priority entry area low high five) ∙ e) in
    rw (← is) (record { twelve = refl; word = refl; low = low; high = high; five = five; at_low = at_low; at_high = at_high })

pub front_priority-is : (sets : List (Option HeldJob)) (job : HeldJob) → Holds sets 0 job → front_priority sets ≡ job.priority
front_priority-is [] job e = absurd (cc)
front_priority-is (None ∷ sets) job e = absurd (cc)
front_priority-is (Some r ∷ sets) job e = ap (λ q. q.priority) (same_Some r job e)

pub newjob_of-none : (sets : List (Option HeldJob)) → IsLawful sets → BestBelow sets (length sets) None → newjob_of sets ≡ 32767
newjob_of-none sets lawful none = rw (ready-none sets lawful none)

pub newjob_of-best : (sets : List (Option HeldJob)) (k : ℕ) (r job : HeldJob) → IsLawful sets → IsBestBelow sets (length sets) k r → Holds sets 0 job → newjob_of sets ≡ cond (nat_lt job.priority r.priority) (12 * k) 0
newjob_of-best sets k r job lawful is front = rw (best_ready sets k r lawful is, place_of_number sets k r lawful is.here, front_priority-is sets job front)

pub sets_of-same : (old new : List ℕ) → blocks_of new ≡ blocks_of old → sets_of new ≡ sets_of old
unfolding sets_of
sets_of-same old new e = ap (map held_of) e

-- NEWJOB was written, and nothing else
pub record Renewed (old new : List ℕ) : Type 0 where
  pub words : blocks_of new ≡ blocks_of old
  pub newjob : slice_index new layout.newjob ≡ newjob_of (sets_of old)
  pub uses : (i : ℕ) → i < layout.newjob → slice_index new i ≡ slice_index old i
  pub others : Keeps OutsideCores old new

-- what is kept outside the sets is kept outside all tables of the core sets
pub sets_kept : (old new : List ℕ) → Keeps OutsideSets old new → Keeps OutsideCores old new
sets_kept old new k = kept_also OutsideSets OutsideCores old new (λ place is. (omega arith, is.1)) k

-- what a request did before NEWJOB was brought up to date
pub record Near (outcome : Outcome) (entries : List ℕ) (blocks : List (List ℕ)) (old new : List ℕ) (reply : Reply) : Type 0 where
  pub gives : Gives outcome entries (sets_of new) reply
  pub words : blocks_of new ≡ blocks
  pub coded : Each IsLawfulBlock (blocks_of new)
  pub uses : UsesAgree new (slots_of (sets_of new))
  pub tidy : IsTidy old → IsTidy new
  pub others : Keeps OutsideCores old new

pub finish : (old mid new : List ℕ) (outcome : Outcome) (entries : Option ℕ → List ℕ) (blocks : Option ℕ → List (List ℕ)) (reply : Reply) → IsSized old → Near outcome (entries (running_in (sets_of mid))) (blocks (running_in (sets_of mid))) old mid reply → Renewed mid new → Does outcome (entries (running_in (sets_of new))) (blocks (running_in (sets_of new))) old new reply
finish old mid new outcome entries blocks reply sized near renewed =
    let same : sets_of new ≡ sets_of mid = sets_of-same mid new renewed.words in
    let others : Keeps OutsideCores old new = kept_twice OutsideCores old mid new near.others renewed.others in
    record {
      lawful = record {
        sets = record { sized = IsSized-kept old new others.same_length sized; coded = rw renewed.words near.coded; standing = rw same near.gives.standing };
        uses = rw same (λ area low high. renewed.uses (use_place area) (omega arith) ∙ near.uses area low high);
        newjob = rw same renewed.newjob;
      };
      outcome_is = rw same near.gives.outcome_is;
      placed = rw same near.gives.entries_is;
      words = rw same (renewed.words ∙ near.words);
      tidy = λ t. rw renewed.words (near.tidy t);
      others = others;
    }
