use Rattle.std.proofs.Common.{◌<◌, ◌≤◌, ◌%◌, ◌+◌, arith, slice_index}
use Rattle.agc_word.specs.Layout.{set_place}
use Rattle.agc_exec.specs.Image.{sets_of}
use Rattle.agc_exec.proofs.Leads.{awake_words, rank-stays, rank-behind, rank-ahead, tied_place, rank-tied_behind, rank-tied_ahead}
use Rattle.agc_exec.proofs.search.better.Goals as goal

pub returns-then-urgency-ge-SIGN : goal.returns-then-urgency-ge-SIGN
returns-then-urgency-ge-SIGN c = rank-stays (sets_of c.args.e.now) c.args.k c.args.most c.requires.before
    (λ s at awake. let (low, priority, number) = awake_words c.args.e.now c.args.k s (omega arith) at awake in absurd (omega arith))
    (λ b s here awake_b is at awake. let (low, priority, number) = awake_words c.args.e.now c.args.k s (omega arith) at awake in absurd (omega arith))

pub returns-then-priority-most : goal.returns-then-priority-most
returns-then-priority-most c =
    rank-behind c.args.e.now c.args.most c.args.k (record { sized = omega arith; few = omega arith; before = c.requires.before; low = omega arith }) (omega arith)

pub returns-then-priority-most-2 : goal.returns-then-priority-most-2
returns-then-priority-most-2 c = rw c.word_of-urgency.ensures.value
    (rank-ahead c.args.e.now c.args.most c.args.k (record { sized = omega arith; few = omega arith; before = c.requires.before; low = omega arith }) (omega arith))

pub word_of-requires-clause-set : goal.word_of-requires-clause-set
word_of-requires-clause-set c =
    let (b, here, awake, within) = tied_place c.args.e.now c.args.most c.args.k (record { sized = omega arith; few = omega arith; before = c.requires.before; low = omega arith }) (omega arith) in
    omega arith

pub returns-then-word_of : goal.returns-then-word_of
returns-then-word_of c =
    let less : slice_index c.args.e.now (set_place (c.args.most % 8) + 0) < slice_index c.args.e.now (set_place c.args.k + 0) = rw (← c.set_of_rank.ensures, ← c.word_of.ensures.value, ← c.word_of-2.ensures.value) c.if-word_of.true in
    rank-tied_behind c.args.e.now c.args.most c.args.k (record { sized = omega arith; few = omega arith; before = c.requires.before; low = omega arith }) (omega arith) less

pub returns : goal.returns
returns c =
    let le : slice_index c.args.e.now (set_place c.args.k + 0) ≤ slice_index c.args.e.now (set_place (c.args.most % 8) + 0) = rw (← c.set_of_rank.ensures, ← c.word_of.ensures.value, ← c.word_of-2.ensures.value) c.if-word_of.false in
    rw c.word_of-urgency.ensures.value
    (rank-tied_ahead c.args.e.now c.args.most c.args.k (record { sized = omega arith; few = omega arith; before = c.requires.before; low = omega arith }) (omega arith) le)
