-- Texts of jobs, tasks and words.
use Rattle.std.proofs.Common.{◌≡◌, ◌≢◌, ℕ, List, Option, Some, None, IfSome, sym, ap, ◌∙◌}
use Rattle.std.specs.Option.{option_map}
use Rattle.agc_plan.specs.declared.request.Task.{Task}
use Rattle.agc_plan.specs.declared.request.Request.{Request}
use Rattle.agc_plan.specs.Ranges.{IsRequest}
use Rattle.agc_text.specs.Chain.{◌>>=◌}
use Rattle.agc_text.specs.Lines.{line_of}
use Rattle.agc_document.specs.Benches.{timed_request}
use Rattle.agc_document.specs.Kinds.{timed_of}

pub timed_none : (text : List ℕ) (q : Option Request) → ((r : Request) → IsRequest r → text ≡ line_of r → q ≡ Some r) → (q >>= timed_of) ≡ None → (j : Option (ℕ × Task)) → IfSome j (λ y. IsRequest (timed_request y)) → Some text ≢ option_map (λ y. line_of (timed_request y)) j
timed_none text q only e None h g = absurd cc
timed_none text q only e (Some x) h g =
    let t : text ≡ line_of (timed_request x) = cc in
    let a = only (timed_request x) h t in
    let b : None ≡ Some x = sym e ∙ ap (λ (o : Option Request). o >>= timed_of) a in
    absurd cc
