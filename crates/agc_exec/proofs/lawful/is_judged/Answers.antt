use Rattle.std.proofs.Common.{◌≡◌, ◌+◌, ◌∙◌, ◌%◌, ◌≤◌, inl, inr, ap, sym, rules, arith, true, slice_index}
use Rattle.agc_word.specs.Layout.{sets_in, set_place, area_of}
use Rattle.agc_exec.specs.Image.{sets_of}
use Rattle.agc_exec.specs.Stages.{unsigned, AreSound, number_at, area_at}
use Rattle.agc_exec.proofs.Marks.{AreJudged-free, AreJudged-more, number_at-words, area_at-words, number_unmarked, area_unmarked}
use Rattle.agc_exec.proofs.lawful.is_judged.Goals as goal

pub returns-then-priority-eq-MINUS_ZERO-clause-yes : goal.returns-then-priority-eq-MINUS_ZERO-clause-yes
returns-then-priority-eq-MINUS_ZERO-clause-yes c e =
    AreJudged-free c.args.e.now c.args.k c.args.numbers.now c.args.areas.now c.requires.set (omega arith) c.requires.judged

pub returns-then-not-take-clause-no : goal.returns-then-not-take-clause-no
returns-then-not-take-clause-no c sound apart =
    let number : c.word_of-number.result ≡ number_at (sets_of c.args.e.now) c.args.k = c.word_of-number.ensures.value ∙ sym (number_at-words c.args.e.now c.args.k c.requires.set (λ e. omega arith)) in
    let free : c.take.result ≡ true = c.take.ensures.free.1 (rw number (number_unmarked c.args.e.now c.args.k c.args.numbers.now c.args.areas.now c.requires.judged apart)) in
    sym (search rules) ∙ free

pub returns-clause-yes : goal.returns-clause-yes
returns-clause-yes c e =
    let number : c.word_of-number.result ≡ number_at (sets_of c.args.e.now) c.args.k = c.word_of-number.ensures.value ∙ sym (number_at-words c.args.e.now c.args.k c.requires.set (λ e. omega arith)) in
    let urgency : c.unsigned-urgency.result ≡ unsigned (slice_index c.args.e.now (set_place c.args.k + 11)) = c.unsigned-urgency.ensures ∙ ap unsigned c.word_of-priority.ensures.value in
    let area : c.area_of-area.result ≡ area_at (sets_of c.args.e.now) c.args.k = c.area_of-area.ensures ∙ ap (λ u. area_of (u % 512)) urgency ∙ sym (area_at-words c.args.e.now c.args.k c.requires.set (λ e. omega arith)) in
    let sound : AreSound c.count.result c.word_of-number.result c.word_of.result c.unsigned-urgency.result = c.are_sound.ensures.yes (search rules) in
    let count : c.count.result ≡ sets_in c.args.e.now = c.count.ensures ∙ c.sets.ensures.count in
    let most : sets_in c.args.e.now ≤ 8 = elim c.requires.sized [ inl seven ↦ omega arith | inr eight ↦ omega arith ] in
    let high : c.word_of-number.result ≤ c.count.result = sound.number_high in
    let five : area_of (c.unsigned-urgency.result % 512) ≤ 5 = sound.five in
    let area_is : c.area_of-area.result ≡ area_of (c.unsigned-urgency.result % 512) = c.area_of-area.ensures in
    rw (c.take-2.ensures.marks, c.take.ensures.marks) (AreJudged-more c.args.e.now c.args.k c.word_of-number.result c.area_of-area.result c.args.numbers.now c.args.areas.now (search rules) number area (omega arith) (omega arith) (c.take.ensures.free.0 (search rules)) (c.take-2.ensures.free.0 e) c.requires.judged)

pub returns-clause-no : goal.returns-clause-no
returns-clause-no c sound apart =
    let urgency : c.unsigned-urgency.result ≡ unsigned (slice_index c.args.e.now (set_place c.args.k + 11)) = c.unsigned-urgency.ensures ∙ ap unsigned c.word_of-priority.ensures.value in
    let area : c.area_of-area.result ≡ area_at (sets_of c.args.e.now) c.args.k = c.area_of-area.ensures ∙ ap (λ u. area_of (u % 512)) urgency ∙ sym (area_at-words c.args.e.now c.args.k c.requires.set (λ e. omega arith)) in
    c.take-2.ensures.free.1 (rw area (area_unmarked c.args.e.now c.args.k c.args.numbers.now c.args.areas.now c.requires.judged apart))
