use Rattle.std.proofs.Common.{◌≡◌, ◌≤◌, ap, sym, ◌∙◌, [], ◌∷◌, ℕ, get_or, length, arith, subst}
use Rattle.std.proofs.lemmas.List.{get_or_default}
use Rattle.agc_plan.specs.declared.line.Line.{Line}
use Rattle.agc_plan.specs.declared.line.Line.TheVariants.{Timer}
use Rattle.agc_session.specs.Pieces.{Walked, to_come}
use Rattle.agc_session.proofs.Pieces.{at_pulse, passed_over, all_walked}
use Rattle.agc_session.proofs.walk.Walk.next_device.Goals as goal

pub returns-then-pulses-gt0 : goal.returns-then-pulses-gt0
returns-then-pulses-gt0 c =
    let i = c.loop-self.invariant in
    let v = c.self-in-loop-self.view_is in
    let ds = c.self.inside.devices.now in
    let k = c.self-in-loop-self.inside.device in
    let d : Line × ℕ = get_or ds k (Timer, 0) in
    sym i.same ∙ ap to_come (sym v)
    ∙ at_pulse _ ds d (i.devices ∙ ap (λ (x : Walked). x.devices) (sym v)) (ap (λ (x : Walked). x.left) v ∙ i.left) (ap (λ (x : Walked). x.begun) v ∙ i.begun)
    (subst (λ (x : Walked). length x.workers ≤ x.worker) (sym v) i.walked) c.loop-self-test.true (get_or_default ds k (Timer, 0) d c.loop-self-test.true) c.if-pulses-gt0.true
    ∙ ap (λ (x : Walked). x.here ∷ to_come x) (sym c.stand.ensures)

pub loop-self-preserved : goal.loop-self-preserved
loop-self-preserved c =
    let i = c.loop-self.invariant in
    let v = c.self-in-loop-self.view_is in
    let ds = c.self.inside.devices.now in
    let k = c.self-in-loop-self.inside.device in
    let d : Line × ℕ = get_or ds k (Timer, 0) in
    let none : d.1 ≡ 0 = omega (arith, c.if-pulses-gt0.false) in
    let left = ap (λ (x : Walked). x.left) v ∙ i.left in
    let begun = ap (λ (x : Walked). x.begun) v ∙ i.begun in
    let devices = i.devices ∙ ap (λ (x : Walked). x.devices) (sym v) in
    let walked = subst (λ (x : Walked). length x.workers ≤ x.worker) (sym v) i.walked in
    record {
      same = sym (passed_over _ ds d devices left begun walked c.loop-self-test.true (get_or_default ds k (Timer, 0) d c.loop-self-test.true) none) ∙ ap to_come v ∙ i.same;
      left = left;
      begun = begun;
      walked = walked;
      devices = devices;
    }

pub returns : goal.returns
returns c =
    let i = c.loop-self.invariant in
    let v = c.self-in-loop-self.view_is in
    let end : to_come c.loop-self.self ≡ [] = ap to_come (sym v)
    ∙ all_walked _ c.self.inside.devices.now (i.devices ∙ ap (λ (x : Walked). x.devices) (sym v)) (ap (λ (x : Walked). x.left) v ∙ i.left) (ap (λ (x : Walked). x.begun) v ∙ i.begun)
    (subst (λ (x : Walked). length x.workers ≤ x.worker) (sym v) i.walked) c.loop-self-test.false in
    (sym i.same ∙ end, end)
