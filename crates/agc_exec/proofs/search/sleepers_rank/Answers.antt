use Rattle.std.proofs.Common.{◌≡◌, ◌<◌, sym, arith, inl, inr}
use Rattle.agc_exec.proofs.Ranks.{lives_number, sleeper_rank-words, sleeper_rank-elsewhere, sleeper_rank-none}
use Rattle.agc_exec.proofs.search.sleepers_rank.Goals as goal
use Rattle.agc_exec.proofs.search.sleepers_rank.Goals.{then-urgency-lt-SIGN-via-then-urgency-lt-SIGN, then-urgency-lt-SIGN-via-else-urgency-lt-SIGN+then-urgency-eq-MINUS_ZERO}

pub overflow_sub-result : goal.overflow_sub-result
overflow_sub-result c =
    let (low, high) = lives_number c.args.e.now c.args.k c.requires.lawful (omega arith) (λ e. omega arith) in
    omega arith

pub returns-then-word_of-get : goal.returns-then-word_of-get
returns-then-word_of-get c = sym (sleeper_rank-elsewhere c.args.e.now c.args.at c.args.k (omega arith) (λ e. omega arith))

pub returns-then-urgency-lt-SIGN : goal.returns-then-urgency-lt-SIGN
returns-then-urgency-lt-SIGN c =
    sym (sleeper_rank-none c.args.e.now c.args.at c.args.k (omega arith) (elim c.then-urgency-lt-SIGN.branch [
      | then-urgency-lt-SIGN-via-then-urgency-lt-SIGN w ↦ inl (let lt : c.word_of-urgency.result < 16384 = w.if-urgency-lt-SIGN.true in omega arith)
      | then-urgency-lt-SIGN-via-else-urgency-lt-SIGN+then-urgency-eq-MINUS_ZERO w ↦ inr (let e : c.word_of-urgency.result ≡ 32767 = w.if-urgency-eq-MINUS_ZERO.true in omega arith)
    ]))

pub returns : goal.returns
returns c =
    rw c.word_of-2.ensures.value (sym (sleeper_rank-words c.args.e.now c.args.at c.args.k (omega arith) (omega arith) (omega arith) (λ e. omega arith)))
