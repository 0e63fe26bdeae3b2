use Rattle.std.proofs.Common.{ℕ, ◌/◌, ◌%◌, ◌∙◌, ap, arith}
use Rattle.agc_word.specs.Layout.{area_of}
use Rattle.agc_word.specs.Words.{complement}
use Rattle.agc_exec.proofs.Seating.{seat_free, seat_awake, seat_asleep}
use Rattle.agc_exec.proofs.seats.job_at.Goals as goal

pub returns-then-urgency-eq-MINUS_ZERO : goal.returns-then-urgency-eq-MINUS_ZERO
returns-then-urgency-eq-MINUS_ZERO c = seat_free c.args.e.now c.args.k c.requires.set (omega arith)

pub returns-then-urgency-lt-SIGN : goal.returns-then-urgency-lt-SIGN
returns-then-urgency-lt-SIGN c =
    seat_awake c.args.e.now c.args.k c.seat_with.result c.requires.set (omega arith) (record {
      number = c.seat_with.ensures.number;
      at = c.seat_with.ensures.at;
      priority = c.seat_with.ensures.priority ∙ ap (λ (u : ℕ). u / 512) c.word_of-urgency.ensures.value;
      asleep_is = c.seat_with.ensures.asleep;
      area = c.seat_with.ensures.area ∙ ap (λ (u : ℕ). area_of (u % 512)) c.word_of-urgency.ensures.value;
    })

pub returns-else-urgency-lt-SIGN : goal.returns-else-urgency-lt-SIGN
returns-else-urgency-lt-SIGN c =
    seat_asleep c.args.e.now c.args.k c.seat_with-else-urgency-lt-SIGN.result c.requires.set (omega arith) (λ e. omega arith) (record {
      number = c.seat_with-else-urgency-lt-SIGN.ensures.number;
      at = c.seat_with-else-urgency-lt-SIGN.ensures.at;
      priority = c.seat_with-else-urgency-lt-SIGN.ensures.priority ∙ ap (λ (u : ℕ). complement u / 512) c.word_of-urgency.ensures.value;
      asleep_is = c.seat_with-else-urgency-lt-SIGN.ensures.asleep;
      area = c.seat_with-else-urgency-lt-SIGN.ensures.area ∙ ap (λ (u : ℕ). area_of (complement u % 512)) c.word_of-urgency.ensures.value;
    })
