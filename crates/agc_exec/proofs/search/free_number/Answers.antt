use Rattle.std.proofs.Common.{◌≡◌, ◌<◌, ◌+◌, ◌-◌, ℕ, arith, rules, refl, sym, ap, ◌∙◌, length, Some, None, is_some, slice_index_or}
use Rattle.agc_exec.specs.Sets.{job_numbered, slots_of}
use Rattle.agc_word.specs.Layout.{sets_in}
use Rattle.agc_exec.specs.Image.{sets_of}
use Rattle.agc_exec.proofs.Decoding.{length-sets}
use Rattle.agc_exec.proofs.Ranks.{marked_used, unmarked_unused}
use Rattle.agc_exec.proofs.Searches.{least_unused-at, least_unused-none}
use Rattle.agc_exec.proofs.Slots.{get_or-slots_from, length-slots_from}
use Rattle.agc_exec.proofs.search.free_number.Goals as goal

pub returns-then-not-used-number : goal.returns-then-not-used-number
returns-then-not-used-number c =
    let all : length (sets_of c.args.e.now) ≡ sets_in c.args.e.now = length-sets c.args.e.now in
    let len : length (slots_of (sets_of c.args.e.now)) ≡ length (sets_of c.args.e.now) = length-slots_from (length (sets_of c.args.e.now)) 1 (sets_of c.args.e.now) in
    let slot : (i number : ℕ) → i < length (sets_of c.args.e.now) → number ≡ i + 1 → slice_index_or (slots_of (sets_of c.args.e.now)) i None ≡ job_numbered (sets_of c.args.e.now) number =
    λ i number lt is. get_or-slots_from (length (sets_of c.args.e.now)) 1 (sets_of c.args.e.now) i lt ∙ ap (job_numbered (sets_of c.args.e.now)) (omega arith) in
    let unused : job_numbered (sets_of c.args.e.now) c.loop-number.number ≡ None = unmarked_unused (sets_of c.args.e.now) c.args.used.now c.loop-number.number c.requires.marked (search rules) in
    ap Some (c.job_no.ensures ∙ (omega arith))
    ∙ sym (least_unused-at 1 (slots_of (sets_of c.args.e.now)) (c.loop-number.number - 1) (omega arith) (slot (c.loop-number.number - 1) c.loop-number.number (omega arith) (omega arith) ∙ unused) (λ j lt. ap is_some (slot j (j + 1) (omega arith) refl) ∙ marked_used (sets_of c.args.e.now) c.args.used.now (j + 1) (omega arith) (omega arith) c.requires.marked (c.loop-number.invariant (j + 1) (omega arith) (omega arith))))

pub returns : goal.returns
returns c =
    let all : length (sets_of c.args.e.now) ≡ sets_in c.args.e.now = length-sets c.args.e.now in
    let len : length (slots_of (sets_of c.args.e.now)) ≡ length (sets_of c.args.e.now) = length-slots_from (length (sets_of c.args.e.now)) 1 (sets_of c.args.e.now) in
    sym (least_unused-none 1 (slots_of (sets_of c.args.e.now)) (λ j lt. ap is_some (get_or-slots_from (length (sets_of c.args.e.now)) 1 (sets_of c.args.e.now) j (omega arith) ∙ ap (job_numbered (sets_of c.args.e.now)) (omega arith)) ∙ marked_used (sets_of c.args.e.now) c.args.used.now (j + 1) (omega arith) (omega arith) c.requires.marked (c.loop-number.invariant (j + 1) (omega arith) (omega arith))))
