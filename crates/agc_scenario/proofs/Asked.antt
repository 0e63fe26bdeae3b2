-- What texts spell that a job asks for is one list of requests.
use Rattle.std.proofs.Common.{◌≡◌, true, false, List, [], ◌∷◌, ℕ, map, refl, sym, ap, ◌∙◌}
use Rattle.std.specs.List.{AllByRecursion}
use Rattle.std.proofs.lemmas.Option.{same_Some}
use Rattle.agc_plan.specs.declared.request.Request.{Request}
use Rattle.agc_plan.specs.Ranges.{IsRequest}
use Rattle.agc_text.specs.Lines.{line_of}
use Rattle.agc_text.specs.Reading.{request_of}
use Rattle.agc_text.proofs.Requests.{request_again}
use Rattle.agc_scenario.specs.Scenarios.{are_job_requests}

line_same : (a b : Request) → IsRequest a → IsRequest b → line_of a ≡ line_of b → a ≡ b
line_same a b of_a of_b same = same_Some a b (sym (request_again a of_a) ∙ ap request_of same ∙ request_again b of_b)

abbrev head : List (List ℕ) → List ℕ
head [] = []
head (x ∷ xs) = x

abbrev tail : List (List ℕ) → List (List ℕ)
tail [] = []
tail (x ∷ xs) = xs

lines_same : (xs ys : List Request) → AllByRecursion IsRequest xs → AllByRecursion IsRequest ys → map line_of xs ≡ map line_of ys → xs ≡ ys
lines_same [] [] of_xs of_ys same = refl
lines_same [] (b ∷ ys) of_xs of_ys same = absurd (cc)
lines_same (a ∷ xs) [] of_xs of_ys same = absurd (cc)
lines_same (a ∷ xs) (b ∷ ys) of_xs of_ys same =
    let first : a ≡ b = line_same a b of_xs.0 of_ys.0 (ap head same) in
    let rest : xs ≡ ys = lines_same xs ys of_xs.1 of_ys.1 (ap tail same) in
    ap (λ x. x ∷ xs) first ∙ ap (λ l. b ∷ l) rest

pub never_asked : (texts : List (List ℕ)) (found : List Request) → AllByRecursion IsRequest found → texts ≡ map line_of found → are_job_requests found ≡ false → (asks : List Request) → AllByRecursion IsRequest asks → are_job_requests asks ≡ true → texts ≡ map line_of asks → ⊥
never_asked texts found of_found scenario_from_texts unasked asks of_asks asked same =
    let is : found ≡ asks = lines_same found asks of_found of_asks (sym scenario_from_texts ∙ same) in
    let never : false ≡ true = sym unasked ∙ ap are_job_requests is ∙ asked in
    absurd (cc)
