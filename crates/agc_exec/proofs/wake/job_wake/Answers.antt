use Rattle.agc_exec.specs.Calls.{blocks_roused}
use Rattle.agc_plan.specs.Jobs.{rouse}
use Rattle.agc_plan.specs.Places.{fronted}
use Rattle.agc_exec.specs.Blocks.{blocks_of}
use Rattle.agc_exec.specs.Image.{jobs_in, entries_in}
use Rattle.agc_word.specs.Layout.{IsSized, sets_in}
use Rattle.agc_exec.proofs.Decoding.{IsSet-lengths, length-sets}
use Rattle.agc_exec.proofs.Finishing.{finish}
use Rattle.std.proofs.Common.{◌≡◌, ◌<◌, ◌%◌, Some, length, arith, ℕ, ◌≤◌, List}
use Rattle.agc_plan.specs.declared.reply.Reply.TheVariants.{Roused}
use Rattle.agc_exec.proofs.Swaps.{Holds-within}
use Rattle.agc_exec.specs.Image.{sets_of, IsSet}
use Rattle.agc_exec.specs.Stages.{IsSleeperRank}
use Rattle.agc_exec.proofs.Ranks.{first_found, first_nobody}
use Rattle.agc_exec.proofs.Woken.{Near-wake, Does-no_sleeper}
use Rattle.agc_exec.proofs.wake.job_wake.Goals as goal

sets_most : (words : List ℕ) → IsSized words → length (sets_of words) ≤ 8
sets_most words sized = (IsSet-lengths words sized).1

pub returns-then-first-eq0 : goal.returns-then-first-eq0
returns-then-first-eq0 c =
    Does-no_sleeper c.args.e.now c.args.at c.requires (first_nobody (sets_of c.args.e.now) c.args.at c.first_sleeper-first.result c.requires.sets.standing.lawful (sets_most c.args.e.now c.requires.sets.sized) c.first_sleeper-first.ensures (omega arith))

pub wake_set-number-requires-clause-is : goal.wake_set-number-requires-clause-is
wake_set-number-requires-clause-is c =
    rw c.set_of_rank-k.ensures (first_found (sets_of c.args.e.now) c.args.at c.first_sleeper-first.result c.requires.sets.standing.lawful (sets_most c.args.e.now c.requires.sets.sized) c.first_sleeper-first.ensures (omega arith))

pub returns : goal.returns
returns c =
    let (job, is) = first_found (sets_of c.args.e.now) c.args.at c.first_sleeper-first.result c.requires.sets.standing.lawful (sets_most c.args.e.now c.requires.sets.sized) c.first_sleeper-first.ensures (omega arith) in
    finish c.args.e.now c.wake_set-number.new.e c.note_newcomer.new.e (rouse c.args.at (jobs_in c.args.e.now)) (λ running. fronted running (entries_in c.args.e.now)) (λ running. blocks_roused (Some c.wake_set-number.result) running (entries_in c.args.e.now) (blocks_of c.args.e.now)) (Roused c.wake_set-number.result) c.requires.sets.sized
    (Near-wake c.args.e.now c.wake_set-number.new.e (c.first_sleeper-first.result % 8) c.args.at job (Roused c.wake_set-number.result) c.requires is c.wake_set-number.ensures.gives c.wake_set-number.ensures.words c.wake_set-number.ensures.coded c.wake_set-number.ensures.others)
    (record { words = c.note_newcomer.ensures.words; newjob = c.note_newcomer.ensures.newjob; uses = c.note_newcomer.ensures.uses; others = c.note_newcomer.ensures.others })

named : (words : List ℕ) (at first : ℕ) → IsSet words → IsSleeperRank (sets_of words) at (length (sets_of words)) first → 0 < first → first % 8 < sets_in words
named words at first set is positive =
    let (job, found) = first_found (sets_of words) at first set.standing.lawful (sets_most words set.sized) is positive in
    let within : first % 8 < length (sets_of words) = Holds-within (sets_of words) (first % 8) job found.here in
    let len : length (sets_of words) ≡ sets_in words = length-sets words in
    omega arith

pub wake_set-number-requires-clause-place : goal.wake_set-number-requires-clause-place
wake_set-number-requires-clause-place c =
    rw c.set_of_rank-k.ensures (named c.args.e.now c.args.at c.first_sleeper-first.result c.requires.sets c.first_sleeper-first.ensures (omega arith))

pub note_newcomer-requires-clause-place : goal.note_newcomer-requires-clause-place
note_newcomer-requires-clause-place c =
    rw (c.set_of_rank-k.ensures, c.wake_set-number.ensures.others.same_length) (named c.args.e.now c.args.at c.first_sleeper-first.result c.requires.sets c.first_sleeper-first.ensures (omega arith))
