-- What actions ask for, one after the other, and counts as a machine has them.
use Rattle.std.proofs.Common.{◌≡◌, ℕ, zero, suc, ◌≤◌, ◌==◌, nat_le, ◌&&◌, not, Bool, true, false, if◌then◌else◌, List, ◌∷◌, ◌++◌, [], Some, None, map, drop, take, slice_set, length, ap, ap₂, sym, refl, ◌∙◌, arith}
use Rattle.std.proofs.lemmas.Grind.{common_steps}
use Rattle.std.proofs.lemmas.List.{map-append, append_assoc}
use Rattle.std.proofs.Math.Seq.{drop-nil}
use Rattle.std.specs.Option.{option_to_list}
use Rattle.agc_plan.specs.declared.request.Request.{Request}
use Rattle.agc_plan.specs.Pulses.{action_request, requests_for}
use Rattle.libagc.specs.declared.reading.AgcRequest.{AgcRequest}
use Rattle.libagc.specs.Plans.{action_from_c}
use Rattle.agc_machine.specs.declared.answer.Refusal.TheVariants.{Spent, LogFull}
use Rattle.agc_machine.specs.Machines.{IsLawful, Machined, refusal_of, starts_over}
use Rattle.libagc.specs.declared.asking.AgcBounds.{AgcBounds}
use Rattle.libagc.specs.Requests.{HasCounts, bounds_code, refusal_code}
use Rattle.libagc.specs.Numbers.{numbers_of}

-- the numbers of what actions ask for
abbrev pub asks : List AgcRequest → List AgcRequest
asks actions = map numbers_of (requests_for (map action_from_c actions))

pub asks_cons : (a : AgcRequest) (others : List AgcRequest) → asks (a ∷ others) ≡ map numbers_of (option_to_list (action_request (action_from_c a))) ++ asks others
asks_cons a others = map-append numbers_of (option_to_list (action_request (action_from_c a))) (requests_for (map action_from_c others))

-- one more is put behind those that are put
pub put_on : (before : List AgcRequest) (a : AgcRequest) (others all : List AgcRequest) → before ++ asks (a ∷ others) ≡ all → (before ++ map numbers_of (option_to_list (action_request (action_from_c a)))) ++ asks others ≡ all
put_on before a others all e = append_assoc before (map numbers_of (option_to_list (action_request (action_from_c a)))) (asks others) ∙ ap (λ (these : List AgcRequest). before ++ these) (sym (asks_cons a others)) ∙ e

-- lists that are the same behind a place are so behind a later one
pub drop_on : {A : Type 0} (c r : ℕ) (xs ys : List A) → c ≤ r → drop c xs ≡ drop c ys → drop r xs ≡ drop r ys
drop_on zero r xs ys h e = ap (drop r) e
drop_on (suc c) zero xs ys h e = absurd (omega (arith, h))
drop_on (suc c) (suc r) [] [] h e = refl
drop_on (suc c) (suc r) [] (y ∷ ys) h e = sym (drop-nil r) ∙ drop_on c r [] ys (omega (arith, h)) (drop-nil c ∙ e)
drop_on (suc c) (suc r) (x ∷ xs) [] h e = drop_on c r xs [] (omega (arith, h)) (e ∙ sym (drop-nil c)) ∙ drop-nil r
drop_on (suc c) (suc r) (x ∷ xs) (y ∷ ys) h e = drop_on c r xs ys (omega (arith, h)) e

-- what is set in the first place is there
pub first_set : {A : Type 0} (xs : List A) (a : A) → length xs ≡ 4 → take 1 (slice_set xs 0 a) ≡ a ∷ []
first_set [] a h = absurd (omega (arith, h))
first_set (x ∷ xs) a h = refl

-- a count that is at most as great as another is the same where it isn't less
at_most : (a b : ℕ) → b ≤ a → nat_le a b ≡ (b == a)
at_most a b h = grind (arith, common_steps)

same_code : (spent full : Bool) → (if spent then 19 else if full then 20 else 0) ≡ refusal_code (if spent then Some Spent else if full then Some LogFull else None)
same_code true full = refl
same_code false true = refl
same_code false false = refl

pub counts_refuse : (m : Machined) (bounds : AgcBounds) (asked : Request) → IsLawful m → HasCounts m bounds → bounds_code bounds asked ≡ refusal_code (refusal_of m asked)
counts_refuse m bounds asked lawful counts =
    let spent : nat_le bounds.allowance bounds.served ≡ (m.totals.served == m.allowance) = ap₂ (λ (x y : ℕ). nat_le x y) (sym counts.allowance) (sym counts.served) ∙ at_most m.allowance m.totals.served lawful.allowed in
    let full : nat_le bounds.limit bounds.logged ≡ (length m.log == m.limit) = ap₂ (λ (x y : ℕ). nat_le x y) (sym counts.limit) (sym counts.logged) ∙ at_most m.limit (length m.log) lawful.short in
    ap₂ (λ (x y : Bool). if x then 19 else if y && not (starts_over asked) then 20 else 0) spent full ∙ same_code (m.totals.served == m.allowance) ((length m.log == m.limit) && not (starts_over asked))
