use Rattle.std.proofs.Common.{◌≡◌, ◌≢◌, ◌==◌, ◌+◌, ◌∙◌, ap, sym, arith, refl, List, ℕ, Bool, true, false, slice_set}
use Rattle.std.proofs.lemmas.Grind.{common_steps}
use Rattle.agc_word.specs.Layout as layout
use Rattle.agc_wait.specs.Table.{at_in, time3}
use Rattle.agc_wait.specs.Calls.{Counts}
use Rattle.agc_wait.proofs.Counting.{counts-none, counts-some}
use Rattle.agc_wait.proofs.Writes.{same_word, other_word}
use Rattle.agc_wait.proofs.table.count_time3.Goals as goal

pub returns-then-bits-eq0 : goal.returns-then-bits-eq0
returns-then-bits-eq0 c =
    counts-none c.args.e.now c.requires.lawful c.requires.none_due (sym (c.bits.ensures.value ∙ c.get.ensures.value) ∙ c.if-bits-eq0.true)

-- the same of the words as they were written
counts : (old new : List ℕ) (answer : Bool) (t : ℕ) → Counts old (t == 0) (slice_set old layout.time3 t) → new ≡ slice_set old layout.time3 t → answer ≡ (t == 0) → Counts old answer new
counts old new answer t by is value = rw (is, value) by

pub returns-then-counter-eq16383 : goal.returns-then-counter-eq16383
returns-then-counter-eq16383 c =
    let ne : at_in c.args.e.now 0 ≢ 0 = grind (arith, common_steps) in
    let full : time3 c.args.e.now ≡ 16383 = sym (c.bits-counter.ensures.value ∙ c.get-2.ensures.value) ∙ c.if-counter-eq16383.true in
    counts c.args.e.now c.set.new.self true 0
    (counts-some c.args.e.now 0 c.requires.lawful (omega arith) c.requires.none_due ne (sym (same_word (time3 c.args.e.now) 16383 _ _ full)))
    (c.set.ensures.value ∙ ap (slice_set c.args.e.now layout.time3) c.zero.ensures) refl

pub returns-else-counter-eq16383 : goal.returns-else-counter-eq16383
returns-else-counter-eq16383 c =
    let ne : at_in c.args.e.now 0 ≢ 0 = grind (arith, common_steps) in
    let bits : c.bits-counter.result ≡ time3 c.args.e.now = c.bits-counter.ensures.value ∙ c.get-2.ensures.value in
    let not : time3 c.args.e.now ≢ 16383 = λ e. c.if-counter-eq16383.false (bits ∙ e) in
    let apart : false ≡ (c.bits-counter.result + 1 == 0) = grind (arith, common_steps) in
    counts c.args.e.now c.set-else-counter-eq16383.new.self false (c.bits-counter.result + 1)
    (counts-some c.args.e.now (c.bits-counter.result + 1) c.requires.lawful (omega arith) c.requires.none_due ne
    (ap (λ n. n + 1) bits ∙ sym (other_word (time3 c.args.e.now) 16383 _ _ not)))
    (c.set-else-counter-eq16383.ensures.value ∙ ap (slice_set c.args.e.now layout.time3) c.of_bits.ensures) apart
