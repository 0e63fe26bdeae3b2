use Rattle.std.proofs.Common.{◌≡◌, ◌+◌, slice_index, ap, sym, ◌∙◌, eqb-true, eq-eqb}
use Rattle.agc_word.specs.Layout.{set_place}
use Rattle.libagc.proofs.Tidy.{set_free, set_zero, zero_set, untidy}
use Rattle.libagc.proofs.ready.is_tidy_set.Goals as goal

pub returns-then-priority-eq32767-clause-yes : goal.returns-then-priority-eq32767-clause-yes
returns-then-priority-eq32767-clause-yes c = λ yes.
    let priority : c.bits-priority.result ≡ slice_index c.args.e.now (set_place c.args.k + 11) = c.bits-priority.ensures.value ∙ c.get.ensures.value ∙ ap (λ p. slice_index c.args.e.now (p + 11)) c.set_place-at.ensures in
    set_free c.args.e.now c.args.k c.requires.set (sym priority ∙ c.if-priority-eq32767.true)

pub returns-then-mode-ne0-clause-no : goal.returns-then-mode-ne0-clause-no
returns-then-mode-ne0-clause-no c = λ tidy.
    let priority : c.bits-priority.result ≡ slice_index c.args.e.now (set_place c.args.k + 11) = c.bits-priority.ensures.value ∙ c.get.ensures.value ∙ ap (λ p. slice_index c.args.e.now (p + 11)) c.set_place-at.ensures in
    let mode : c.bits-mode.result ≡ slice_index c.args.e.now (set_place c.args.k + 7) = c.bits-mode.ensures.value ∙ c.get-2.ensures.value ∙ ap (λ p. slice_index c.args.e.now (p + 7)) c.set_place-at.ensures in
    untidy c.args.e.now c.args.k c.requires.set (λ is. c.if-priority-eq32767.false (priority ∙ is)) (λ is. c.if-mode-ne0.true (mode ∙ is)) tidy

pub returns-clause-yes : goal.returns-clause-yes
returns-clause-yes c = λ yes.
    let mode : c.bits-mode.result ≡ slice_index c.args.e.now (set_place c.args.k + 7) = c.bits-mode.ensures.value ∙ c.get-2.ensures.value ∙ ap (λ p. slice_index c.args.e.now (p + 7)) c.set_place-at.ensures in
    let pushloc : c.bits-pushloc.result ≡ slice_index c.args.e.now (set_place c.args.k + 10) = c.bits-pushloc.ensures.value ∙ c.get-3.ensures.value ∙ ap (λ p. slice_index c.args.e.now (p + 10)) c.set_place-at.ensures in
    set_zero c.args.e.now c.args.k c.requires.set (sym mode ∙ c.if-mode-ne0.false) (sym pushloc ∙ eqb-true c.bits-pushloc.result 0 yes)

pub returns-clause-no : goal.returns-clause-no
returns-clause-no c = λ tidy.
    let priority : c.bits-priority.result ≡ slice_index c.args.e.now (set_place c.args.k + 11) = c.bits-priority.ensures.value ∙ c.get.ensures.value ∙ ap (λ p. slice_index c.args.e.now (p + 11)) c.set_place-at.ensures in
    let pushloc : c.bits-pushloc.result ≡ slice_index c.args.e.now (set_place c.args.k + 10) = c.bits-pushloc.ensures.value ∙ c.get-3.ensures.value ∙ ap (λ p. slice_index c.args.e.now (p + 10)) c.set_place-at.ensures in
    eq-eqb c.bits-pushloc.result 0 (pushloc ∙ (zero_set c.args.e.now c.args.k c.requires.set (λ is. c.if-priority-eq32767.false (priority ∙ is)) tidy).1)
