use Rattle.std.proofs.Common.{◌≡◌, ◌∙◌, ap, sym, cond, inl, inr, arith, slice_index}
use Rattle.std.proofs.lemmas.Bool.{cases_eq}
use Rattle.agc_word.specs.Layout.{use_place, address_of}
use Rattle.agc_exec.specs.Image.{sets_of}
use Rattle.agc_exec.specs.Stages.{use_word}
use Rattle.agc_exec.specs.Sets.{slots_of}
use Rattle.agc_exec.proofs.Areas.{is_owned_slots}
use Rattle.agc_exec.proofs.lawful.uses_agree.Goals as goal

pub returns-then-bits-use_word-clause-no : goal.returns-then-bits-use_word-clause-no
returns-then-bits-use_word-clause-no c agrees =
    let word : c.bits.result ≡ slice_index c.args.e.now (use_place c.loop-area.area) = c.bits.ensures.value ∙ c.get.ensures.value ∙ ap (slice_index c.args.e.now) c.use_place.ensures in
    let due : c.use_word.result ≡ use_word c.loop-area.area (slots_of (sets_of c.args.e.now)) = c.use_word.ensures ∙ ap (λ b. cond b 0 (address_of c.loop-area.area)) (sym (is_owned_slots c.loop-area.area (sets_of c.args.e.now) c.requires.set.standing.lawful)) in
    let same : c.bits.result ≡ c.use_word.result = word ∙ agrees c.loop-area.area (omega arith) (omega arith) ∙ sym due in
    absurd (c.if-bits-use_word.true same)

pub loop-area-preserved : goal.loop-area-preserved
loop-area-preserved c a low lt = elim (cases_eq a c.loop-area.area) [
  | inr ne ↦ c.loop-area.invariant a low (omega arith)
  | inl is ↦
      let word : c.bits.result ≡ slice_index c.args.e.now (use_place c.loop-area.area) = c.bits.ensures.value ∙ c.get.ensures.value ∙ ap (slice_index c.args.e.now) c.use_place.ensures in
      let due : c.use_word.result ≡ use_word c.loop-area.area (slots_of (sets_of c.args.e.now)) = c.use_word.ensures ∙ ap (λ b. cond b 0 (address_of c.loop-area.area)) (sym (is_owned_slots c.loop-area.area (sets_of c.args.e.now) c.requires.set.standing.lawful)) in
      let same : c.bits.result ≡ c.use_word.result = c.if-bits-use_word.false in
      rw is (sym word ∙ same ∙ due)
]
