use Rattle.std.proofs.Common.{◌≡◌, ◌≤◌, ◌+◌, ◌-◌, ◌∙◌, sym, drop, length, refl, arith}
use Rattle.std.proofs.lemmas.List.{length-take-le, length-drop}
use Rattle.std.proofs.lemmas.Grind.{same_number_lists}
use Rattle.agc_word.specs.Layout as layout
use Rattle.agc_word.specs.Layout.{IsSized}
use Rattle.agc_phase.specs.Image.{phase_words}
use Rattle.agc_phase.proofs.Reading.{phase_words-at}
use Rattle.agc_phase.proofs.image.phase_words.Goals as goal

pub returns : goal.returns
returns c =
    let from : 12 ≤ c.loop-k.k = c.loop-k-test.false in
    let size : IsSized c.args.e.now = c.loop-k.invariant.sized (omega arith) in
    let rest : length (drop layout.phase_words c.args.e.now) ≡ length c.args.e.now - layout.phase_words = length-drop layout.phase_words c.args.e.now in
    same_number_lists c.loop-k.words (phase_words c.args.e.now)
    (c.loop-k.invariant.twelve ∙ sym (length-take-le 12 (drop layout.phase_words c.args.e.now) (omega arith)))
    (λ k lt.
    let twelve : length c.loop-k.words ≡ 12 = c.loop-k.invariant.twelve in
    c.loop-k.invariant.same k (omega arith) ∙ sym (phase_words-at c.args.e.now k (layout.phase_words + k) (omega arith) refl))
