use Rattle.std.proofs.Common.{◌≡◌, ◌∙◌, ◌∷◌, ◌≤◌, ℕ, ap, sym, subst, arith, length, get_or, List}
use Rattle.agc_plan.specs.declared.request.Request.{Request}
use Rattle.agc_session.specs.Pieces.{Walked, rest, to_come}
use Rattle.agc_session.proofs.Pieces.{all_over, all_passed, one_taken, piece_over, unmoved}
use Rattle.agc_session.proofs.walk.Walk.next.Goals as goal

pub returns-then-not-advance-clause-next : goal.returns-then-not-advance-clause-next
returns-then-not-advance-clause-next c =
    let none = rw c.if-not-advance.true at c.advance.ensures in
    let then = c.self-in-loop-self.view_is in
    let high : length c.loop-self.self.here.requests ≤ c.loop-self.self.at = subst (λ (k : ℕ). length c.loop-self.self.here.requests ≤ k) (ap (λ (w : Walked). w.at) c.self.view_is) (rw c.requests.ensures at c.loop-self-test.true) in (
      sym c.loop-self.invariant ∙ all_over c.loop-self.self high none.0,
      all_passed _ (ap (λ (w : Walked). length w.here.requests) then ∙ sym (ap (λ (rs : List Request). length rs) c.requests-then-not-advance.ensures)) (unmoved _ _ ∙ ap to_come then ∙ none.1),
    )

pub loop-self-smaller : goal.loop-self-smaller
loop-self-smaller c =
    let is = ap (λ ps. length ps) (rw c.if-not-advance.false at c.advance.ensures) in
    let same = ap (λ ps. length ps) (unmoved _ 0 ∙ ap to_come c.self-in-loop-self.view_is) in
    omega (arith, is, same)

pub loop-self-preserved : goal.loop-self-preserved
loop-self-preserved c =
    let high : length c.loop-self.self.here.requests ≤ c.loop-self.self.at = subst (λ (k : ℕ). length c.loop-self.self.here.requests ≤ k) (ap (λ (w : Walked). w.at) c.self.view_is) (rw c.requests.ensures at c.loop-self-test.true) in
    let next = subst (λ (x : Walked). to_come c.loop-self.self ≡ x.here ∷ to_come x) (sym c.self-in-loop-self.view_is) (rw c.if-not-advance.false at c.advance.ensures) in
    sym (piece_over c.loop-self.self _ high next) ∙ c.loop-self.invariant

pub returns-clause-next : goal.returns-clause-next
returns-clause-next c =
    let v = c.self-2.view_is in
    let q = c.index-requests-at.result in
    let here = ap (λ (w : Walked). w.here.requests) (sym v) in
    let place = ap (λ (w : Walked). w.at) (c.self.view_is ∙ sym v) in
    let few = ap (λ (rs : List Request). length rs) (c.requests.ensures ∙ here) in
    sym c.loop-self.invariant ∙ ap rest (sym v)
    ∙ one_taken _ q (omega (arith, c.loop-self-test.false, place, few)) (subst (λ (rs : List Request). q ≡ get_or rs c.self-2.inside.at q) here (rw c.requests-2.ensures at c.index-requests-at.is))
