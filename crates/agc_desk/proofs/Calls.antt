-- Histories that go on, and those that are whole.
use Rattle.std.proofs.Common.{◌≡◌, ℕ, ◌+◌, ◌<◌, ◌⊎◌, ◌||◌, ◌==◌, List, [], ◌∷◌, ◌++◌, length, Bool, true, false, Option, Some, None, refl, sym, ap, ◌∙◌, subst, arith, rules, nat_eq, ⊎_elim, inl, inr, slice_index_or}
use Rattle.std.specs.List.{All, Contains, IsDistinct, list_any}
use Rattle.std.proofs.lemmas.Bool.Decides.{nat_tests}
use Rattle.std.proofs.lemmas.Cmp.{nat_eq_equiv}
use Rattle.std.proofs.lemmas.List.{length_push, length-map}
use Rattle.std.proofs.lemmas.List.Elements.{filter-append}
use Rattle.std.proofs.lemmas.List.Sums.{fold_push, sum_by-append}
use Rattle.std.proofs.lemmas.List.Folds.{Any-from_list_any, list_any-append}
use Rattle.std.proofs.lemmas.Map.Keys.{IsDistinct-push}
use Rattle.std.proofs.lemmas.Map.Steps.{length-le_from_distinct_below}
use Rattle.agc_plan.specs.declared.request.Request.{Request}
use Rattle.agc_machine.specs.declared.answer.Refusal.{Refusal}
use Rattle.agc_machine.specs.declared.totals.Totals.{Totals}
use Rattle.std.specs.Option.{option_map_or}
use Rattle.agc_machine.specs.Machines.{Machined, after, answer_of, refusal_of, result_of, said_of, served, stepped}
use Rattle.agc_machine.specs.Told.{add, nothing, told}
use Rattle.agc_desk.specs.declared.ties.Call.{Call}
use Rattle.agc_desk.specs.Books.{told_in, told_to}
use Rattle.agc_desk.specs.History.{Holder, IsHistory, Leads, calls_by, numbers_of}

-- one call more
pub leads_on : (first : Machined) (calls : List Call) (m : Machined) (call : Call) → Leads first calls m
    → call.answer ≡ said_of m call.answer.request → Leads first (calls ++ call ∷ []) (after m call.answer.request)
leads_on first [] m call leads answer = (answer ∙ ap (λ n. said_of n call.answer.request) (sym leads), ap (λ n. after n call.answer.request) leads)
leads_on first (x ∷ xs) m call leads answer = (leads.0, leads_on (after first x.answer.request) xs m call leads.1 answer)

-- the calls of a number among both
pub calls_by_append : (number : ℕ) (a b : List Call) → calls_by number (a ++ b) ≡ calls_by number a ++ calls_by number b
calls_by_append number a b = filter-append (λ (c : Call). c.by == number) a b

-- nothing was answered
pub told_none : nothing ≡ told_in []
unfolding told_in
told_none = refl

-- what no request changes of a machine
pub record SameSetting (first last : Machined) : Type 0 where
  pub plan : last.plan ≡ first.plan
  pub limit : last.limit ≡ first.limit
  pub allowance : last.allowance ≡ first.allowance

after_setting : (m : Machined) (asked : Request) → SameSetting m (after m asked)
after_setting m asked = by_refusal (refusal_of m asked)
  where
    by_refusal : (r : Option Refusal) → SameSetting m (option_map_or (λ refusal. m) r (served (stepped m asked) asked m))
    by_refusal None = record { plan = refl; limit = refl; allowance = refl }
    by_refusal (Some refusal) = record { plan = refl; limit = refl; allowance = refl }

pub same_setting : (first : Machined) (calls : List Call) (last : Machined) → Leads first calls last → SameSetting first last
same_setting first [] last leads = record { plan = ap (λ m. m.plan) (sym leads); limit = ap (λ m. m.limit) (sym leads); allowance = ap (λ m. m.allowance) (sym leads) }
same_setting first (call ∷ more) last leads =
    let once = after_setting first call.answer.request in
    let then = same_setting (after first call.answer.request) more last leads.1 in
    record { plan = then.plan ∙ once.plan; limit = then.limit ∙ once.limit; allowance = then.allowance ∙ once.allowance }

-- one answer more
pub told_push : (heard : List Call) (call : Call) → told_in (heard ++ call ∷ []) ≡ add (told_in heard) (told call.answer.outcome)
unfolding told_in
told_push heard call = fold_push (λ total c. add total (told c.answer.outcome)) _ heard call

-- the holder of one share more
pub told_to_push : (shares : List Holder) (s : Holder) → told_to (shares ++ s ∷ []) ≡ add (told_to shares) (told_in s.heard)
told_to_push shares s =
    let served : (told_to (shares ++ s ∷ [])).served ≡ (told_to shares).served + (told_in s.heard).served = omega (arith, sum_by-append (λ (h : Holder). (told_in h.heard).served) shares (s ∷ [])) in
    let a1201 : (told_to (shares ++ s ∷ [])).a1201 ≡ (told_to shares).a1201 + (told_in s.heard).a1201 = omega (arith, sum_by-append (λ (h : Holder). (told_in h.heard).a1201) shares (s ∷ [])) in
    let a1202 : (told_to (shares ++ s ∷ [])).a1202 ≡ (told_to shares).a1202 + (told_in s.heard).a1202 = omega (arith, sum_by-append (λ (h : Holder). (told_in h.heard).a1202) shares (s ∷ [])) in
    let a1203 : (told_to (shares ++ s ∷ [])).a1203 ≡ (told_to shares).a1203 + (told_in s.heard).a1203 = omega (arith, sum_by-append (λ (h : Holder). (told_in h.heard).a1203) shares (s ∷ [])) in
    let restarts : (told_to (shares ++ s ∷ [])).restarts ≡ (told_to shares).restarts + (told_in s.heard).restarts = omega (arith, sum_by-append (λ (h : Holder). (told_in h.heard).restarts) shares (s ∷ [])) in
    λ i. record { served = served i; a1201 = a1201 i; a1202 = a1202 i; a1203 = a1203 i; restarts = restarts i }

-- of the same growth from the same totals
pub same_growth : (s t u : Totals) → add s t ≡ add s u → t ≡ u
same_growth s t u e =
    let served : t.served ≡ u.served = omega (arith, ap (λ (x : Totals). x.served) e) in
    let a1201 : t.a1201 ≡ u.a1201 = omega (arith, ap (λ (x : Totals). x.a1201) e) in
    let a1202 : t.a1202 ≡ u.a1202 = omega (arith, ap (λ (x : Totals). x.a1202) e) in
    let a1203 : t.a1203 ≡ u.a1203 = omega (arith, ap (λ (x : Totals). x.a1203) e) in
    let restarts : t.restarts ≡ u.restarts = omega (arith, ap (λ (x : Totals). x.restarts) e) in
    λ i. record { served = served i; a1201 = a1201 i; a1202 = a1202 i; a1203 = a1203 i; restarts = restarts i }

-- nothing more was told
pub with_nothing : (t : Totals) → t ≡ add t nothing
with_nothing t = search rules

-- a request adds to a machine's totals what its answer tells
pub told_after : (m : Machined) (asked : Request) → (after m asked).totals ≡ add m.totals (told (answer_of m asked))
told_after m asked = by_refusal (refusal_of m asked)
  where
    by_refusal : (r : Option Refusal) → (option_map_or (λ refusal. m) r (served (stepped m asked) asked m)).totals ≡ add m.totals (told (result_of r (stepped m asked).reply))
    by_refusal None = refl
    by_refusal (Some refusal) = with_nothing m.totals

or_off : (b : Bool) → (b || false) ≡ true → b ≡ true
or_off true e = refl
or_off false e = e

-- what is among numbers and one more is among them, or is that one
pub push_cases : (k n : ℕ) (numbers : List ℕ) → list_any (nat_eq k) (numbers ++ n ∷ []) ≡ true → (list_any (nat_eq k) numbers ≡ true) ⊎ (k ≡ n)
push_cases k n numbers has = by_test (list_any (nat_eq k) numbers) refl
  where
    by_test : (b : Bool) → list_any (nat_eq k) numbers ≡ b → (list_any (nat_eq k) numbers ≡ true) ⊎ (k ≡ n)
    by_test true old = inl old
    by_test false old =
        let either : (false || (nat_eq k n || false)) ≡ true = subst (λ b. (b || (nat_eq k n || false)) ≡ true) old (sym (list_any-append (nat_eq k) numbers (n ∷ [])) ∙ has) in
        let same : nat_eq k n ≡ true = or_off (nat_eq k n) either in
        inr (grind (arith, nat_tests))

-- of n numbers below n, no two of which are the same, each number below n is one
pub all_numbers : (numbers : List ℕ) (n number : ℕ) → IsDistinct nat_eq numbers → ((k : ℕ) → list_any (nat_eq k) numbers ≡ true → k < n) → length numbers ≡ n → number < n
    → Contains numbers number
all_numbers numbers n number apart below many within = by_test (list_any (nat_eq number) numbers) refl
  where
    by_test : (b : Bool) → list_any (nat_eq number) numbers ≡ b → Contains numbers number
    by_test true has =
        let found = Any-from_list_any (nat_eq number) numbers has in
        let same : found.1 ≡ number = grind (arith, nat_tests, found.4) in
        (found.0, found.2, here found.0 found.1 found.2 found.3 same)
      where
        here : (k x : ℕ) → k < length numbers → slice_index_or numbers k x ≡ x → x ≡ number → slice_index_or numbers k number ≡ number
        here k x lt is same = subst (λ y. slice_index_or numbers k y ≡ y) same is
    by_test false lacks =
        let longer = length-le_from_distinct_below (numbers ++ number ∷ []) n (IsDistinct-push nat_eq_equiv numbers number apart lacks)
        (λ k has. ⊎_elim (λ old. below k old) (λ (same : k ≡ number). omega (arith, same, within)) (push_cases k number numbers has)) in
        absurd (omega (arith, longer, length_push numbers number, many))

-- a history is whole where as many shares were gathered as were given out
pub whole_history : (first : Machined) (shares : List Holder) (calls : List Call) (last : Machined) (given : ℕ)
    → Leads first calls last → All (λ s. calls_by s.number calls ≡ s.heard) shares → IsDistinct nat_eq (numbers_of shares)
    → ((k : ℕ) → list_any (nat_eq k) (numbers_of shares) ≡ true → k < given) → length shares ≡ given → All (λ call. call.by < given) calls → IsHistory first shares calls last
whole_history first shares calls last given leads each apart below many all = record {
  leads = leads;
  apart = apart;
  each = each;
  no_other = λ k d lt. all_numbers (numbers_of shares) given _ apart below (length-map shares (λ (s : Holder). s.number) ∙ many) (all k d lt);
}

-- with one growth more, the books still tell by how much the totals grew
pub grown_on : (total since before told after new : Totals) → add total since ≡ before → add before told ≡ after → new ≡ add total told → add new since ≡ after
grown_on total since before told after new e f n =
    let served : new.served + since.served ≡ after.served = omega (arith, ap (λ (x : Totals). x.served) e, ap (λ (x : Totals). x.served) f, ap (λ (x : Totals). x.served) n) in
    let a1201 : new.a1201 + since.a1201 ≡ after.a1201 = omega (arith, ap (λ (x : Totals). x.a1201) e, ap (λ (x : Totals). x.a1201) f, ap (λ (x : Totals). x.a1201) n) in
    let a1202 : new.a1202 + since.a1202 ≡ after.a1202 = omega (arith, ap (λ (x : Totals). x.a1202) e, ap (λ (x : Totals). x.a1202) f, ap (λ (x : Totals). x.a1202) n) in
    let a1203 : new.a1203 + since.a1203 ≡ after.a1203 = omega (arith, ap (λ (x : Totals). x.a1203) e, ap (λ (x : Totals). x.a1203) f, ap (λ (x : Totals). x.a1203) n) in
    let restarts : new.restarts + since.restarts ≡ after.restarts = omega (arith, ap (λ (x : Totals). x.restarts) e, ap (λ (x : Totals). x.restarts) f, ap (λ (x : Totals). x.restarts) n) in
    λ i. record { served = served i; a1201 = a1201 i; a1202 = a1202 i; a1203 = a1203 i; restarts = restarts i }
