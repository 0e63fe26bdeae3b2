use Rattle.std.proofs.Common.{◌≡◌, ℕ, ◌+◌, ◌<◌, List, [], ◌∷◌, ◌++◌, None, Some, Option, take, drop, length, slice_index_or, if◌then◌else◌, sym, subst, ◌∙◌, ap, refl, arith}
use Rattle.std.specs.Option.{is_some}
use Rattle.std.proofs.lemmas.List.{take_more, take-append-drop, length-take-le}
use Rattle.agc_plan.specs.declared.reply.Alarm.{Alarm}
use Rattle.agc_plan.specs.declared.request.Action.{Action}
use Rattle.agc_machine.specs.Stands.{Performs, PerformsAll}
use Rattle.agc_machine.proofs.Fires.{performs_more, performs_stopped}
use Rattle.agc_machine.proofs.tick.perform_all.Goals as goal

-- the actions up to and with this one were done
one_further : (acts : List Action) (k : ℕ) (act : Action) (old mid new : List ℕ) (alarm : Option Alarm) (number : ℕ) → k < length acts → slice_index_or acts k act ≡ act → PerformsAll (take k acts) old None 0 mid → Performs act mid alarm new → number ≡ (if is_some alarm then k + 1 else 0) → PerformsAll (take (k + 1) acts) old alarm number new
one_further acts k act old mid new alarm number within is before performs count =
    let long : length (take k acts) ≡ k = length-take-le k acts (omega (arith, within)) in
    subst (λ (l : List Action). PerformsAll l old alarm number new) (sym (take_more acts k act within ∙ ap (λ (a : Action). take k acts ++ a ∷ []) is))
    (performs_more (take k acts) act old mid new alarm number before performs (count ∙ ap (λ (n : ℕ). if is_some alarm then n + 1 else 0) (sym long)))

pub returns-in-Some : goal.returns-in-Some
returns-in-Some c =
    let acts : List Action = c.args.actions.now in
    let k : ℕ = c.loop-k.k in
    let here = one_further acts k c.index-actions-k.result c.args.e.now c.loop-k.e c.perform.new.e (Some c.in-Some.alarm) (k + 1) c.loop-k-test.true (sym c.index-actions-k.is) c.loop-k.invariant (rw c.in-Some.is at c.perform.ensures) refl in
    subst (λ (l : List Action). PerformsAll l c.args.e.now (Some c.in-Some.alarm) (k + 1) c.perform.new.e) (take-append-drop (k + 1) acts)
    (performs_stopped (take (k + 1) acts) (drop (k + 1) acts) c.args.e.now c.perform.new.e c.in-Some.alarm (k + 1) here)

pub loop-k-preserved : goal.loop-k-preserved
loop-k-preserved c =
    one_further c.args.actions.now c.loop-k.k c.index-actions-k.result c.args.e.now c.loop-k.e c.perform.new.e None 0 c.loop-k-test.true (sym c.index-actions-k.is) c.loop-k.invariant (rw c.in-None.is at c.perform.ensures) refl
