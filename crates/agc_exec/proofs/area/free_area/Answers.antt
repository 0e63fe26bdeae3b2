use Rattle.std.proofs.Common.{◌≡◌, ◌≢◌, ◌∙◌, ap, sym, arith, ℕ, Bool, true, false, cond, refl, slice_index}
use Rattle.agc_word.specs.Layout.{address_of}
use Rattle.agc_plan.specs.Jobs.{is_owned}
use Rattle.agc_exec.specs.Sets.{slots_of}
use Rattle.agc_exec.specs.Image.{sets_of}
use Rattle.agc_exec.specs.Stages.{use_word}
use Rattle.agc_exec.proofs.Areas.{owned_in-false, is_owned_slots}
use Rattle.agc_exec.proofs.area.free_area.Goals as goal

unowned : (b : Bool) (area w : ℕ) → w ≡ cond b 0 (address_of area) → w ≢ 0 → b ≡ false
unowned true area w e ne = absurd (ne e)
unowned false area w e ne = refl

pub returns-then-bits-ne0-clause-free : goal.returns-then-bits-ne0-clause-free
returns-then-bits-ne0-clause-free c =
    let word : c.bits.result ≡ use_word c.loop-area.area (slots_of (sets_of c.args.e.now)) = c.bits.ensures.value ∙ c.get.ensures.value ∙ ap (slice_index c.args.e.now) c.use_place.ensures ∙ c.requires.uses c.loop-area.area (omega arith) (omega arith) in
    let free : is_owned c.loop-area.area (slots_of (sets_of c.args.e.now)) ≡ false = unowned (is_owned c.loop-area.area (slots_of (sets_of c.args.e.now))) c.loop-area.area c.bits.result word (λ z. c.if-bits-ne0.true z) in
    (omega arith, omega arith, owned_in-false c.loop-area.area (sets_of c.args.e.now) (sym (is_owned_slots c.loop-area.area (sets_of c.args.e.now) c.requires.sets.standing.lawful) ∙ free))
