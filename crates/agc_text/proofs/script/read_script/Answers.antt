use Rattle.agc_plan.specs.declared.request.Request.{Request}
use Rattle.std.proofs.Common.{◌≡◌, ◌+◌, ap, ◌∙◌, ◌++◌, List, ℕ, map, Some, None, length, arith, subst, suc}
use Rattle.agc_text.specs.Lines.{line_of}
use Rattle.agc_text.specs.Script.{IsFirstRefused, IsLine, lines_of}
use Rattle.agc_text.proofs.Scripts.{first_refused}
use Rattle.agc_text.proofs.script.read_script.Goals as goal

none_is_not_some : (r : Request) → None ≡ Some r → ⊥
none_is_not_some r e = cc

pub returns-in-None-clause-refused : goal.returns-in-None-clause-refused
returns-in-None-clause-refused c =
    let never : IsLine c.first_line.result.0.now → ⊥ = λ h. none_is_not_some h.0 (c.in-None.ensures.only h.0 h.1 h.2) in
    let lines = c.loop-rest.invariant.lines ∙ ap (λ (ls : List (List ℕ)). map line_of c.loop-rest.requests.items ++ ls) c.first_line.ensures.lines in
    let count : suc (length c.loop-rest.requests.items) ≡ c.len.result + 1 = omega arith in
    subst (λ (n : ℕ). IsFirstRefused (lines_of c.args.text.now) n) count (rw lines (first_refused c.loop-rest.requests.items c.first_line.result.0.now (lines_of c.first_line.result.1.now) c.loop-rest.invariant.requests never))
