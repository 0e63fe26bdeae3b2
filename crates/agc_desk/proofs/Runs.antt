use mathlib.Core.Logic.{dite}
use native.Mathlib.Decide.{ℕ_discrete}
use Rattle.std.proofs.Common.{◌≡◌, ◌≢◌, ℕ, zero, suc, ◌+◌, ◌<◌, IsNone, arith, List, [], ◌∷◌, ◌++◌, length, take, refl, sym, subst, ap, get_or, ◌∙◌, append_assoc}
use Rattle.std.proofs.lemmas.List.{append-nil, length-map, length-take-le, length_push, map-append, take_more}
use Rattle.std.proofs.lemmas.List.Elements.{All-nil, All-push}
use Rattle.agc_plan.specs.declared.request.Request.{Request}
use Rattle.agc_machine.specs.Machines.{Machined}
use Rattle.agc_machine.specs.Said.{Said}
use Rattle.agc_desk.specs.declared.ties.Call.{Call}
use Rattle.agc_desk.specs.History.{Holder, own_call, with_heard}
use Rattle.agc_desk.specs.Runs.{Asks, AsksAll, IsGiven, Reached}

-- one request more
pub reached_more : {S : Type 0} (R : S → Request → Said → S → Type 0) (T : ℕ → Said → Type 0) (n : ℕ) (s : S) (qs : List Request) (t : S) (q : Request) (a : Said) (u : S)
    → Reached R T n s qs t → R t q a u → T (n + length qs) a → Reached R T n s (qs ++ q ∷ []) u
reached_more {S} R T n s [] t q a u before now told =
    let P : S → Type 0 = λ x. R x q a u in
    let here : n + 0 ≡ n = omega arith in
    (u, ((a, subst P (sym before) now, subst (λ k. T k a) here told), refl))
reached_more R T n s (p ∷ qs) t q a u before now told =
    let here : n + suc (length qs) ≡ (n + 1) + length qs = omega arith in
    (before.0, (before.1.0, reached_more R T (n + 1) before.0 qs t q a u before.1.1 now (subst (λ k. T k a) here told)))

-- the next request of a list
pub reached_next : {S : Type 0} (R : S → Request → Said → S → Type 0) (T : ℕ → Said → Type 0) (s : S) (qs : List Request) (i : ℕ) (q : Request) (t : S) (a : Said) (u : S)
    → i < length qs → q ≡ get_or qs i q → Reached R T 0 s (take i qs) t → R t q a u → T i a → Reached R T 0 s (take (i + 1) qs) u
reached_next {S} R T s qs i q t a u below is before now told =
    let P : Request → Type 0 = λ p. Reached R T 0 s (take i qs ++ p ∷ []) u in
    let many : length (take i qs) ≡ i = length-take-le i qs (omega (arith, below)) in
    let here : i ≡ 0 + length (take i qs) = omega (arith, many) in
    rw (take_more qs i q below) (subst P is (reached_more R T 0 s (take i qs) t q a u before now (subst (λ k. T k a) here told)))

-- one element more
pub each_push : {T : Type 0} (P : ℕ → T → Type 0) (xs : List T) (x : T)
    → ((k : ℕ) (d : T) → k < length xs → P k (get_or xs k d)) → P (length xs) x
    → (k : ℕ) (d : T) → k < length xs + 1 → P k (get_or (xs ++ x ∷ []) k d)
each_push P [] x old here zero d lt = here
each_push P [] x old here (suc k) d lt = absurd (omega arith)
each_push P (y ∷ ys) x old here zero d lt = old zero d (omega arith)
each_push P (y ∷ ys) x old here (suc k) d lt =
    each_push (λ j. P (suc j)) ys x (λ j e l. old (suc j) e (omega arith)) here k d (omega arith)

-- the holder of a share asked nothing
pub asks_none : (first : Machined) (T : ℕ → Said → Type 0) (old : Holder) → AsksAll first T old [] old
asks_none first T old = record {
  calls = [];
  heard = ap (λ l. record old { heard = l }) (sym (append-nil old.heard));
  asked = refl;
  own = All-nil (λ (call : Call). IsNone call.pulse);
  given = All-nil (λ (call : Call). IsGiven first call.answer);
  told = λ k d below. absurd (omega (arith, below));
}

-- and one request more
pub asks_more : (first : Machined) (T : ℕ → Said → Type 0) (old : Holder) (rs : List Request) (mid : Holder) (r : Request) (said : Said) (new : Holder)
    → AsksAll first T old rs mid → Asks first mid r said new → T (length rs) said → AsksAll first T old (rs ++ r ∷ []) new
asks_more first T old rs mid r said new before now told =
    let many : length before.calls ≡ length rs = sym (length-map before.calls (λ (c : Call). c.answer.request)) ∙ ap length before.asked in
    let call : Call = own_call old.number said in
    let number : mid.number ≡ old.number = ap (λ (h : Holder). h.number) before.heard in
    record {
      calls = before.calls ++ call ∷ [];
      heard = now.2
          ∙ (ap (λ (n : ℕ). with_heard (own_call n said ∷ []) mid) number
          ∙ (ap (with_heard (call ∷ [])) before.heard
          ∙ ap (λ l. record old { heard = l }) (append_assoc old.heard before.calls (call ∷ []))));
      asked = map-append (λ (c : Call). c.answer.request) before.calls (call ∷ [])
          ∙ (ap (λ l. l ++ said.request ∷ []) before.asked ∙ ap (λ q. rs ++ q ∷ []) now.0);
      own = All-push (λ (c : Call). IsNone c.pulse) before.calls call before.own refl;
      given = All-push (λ (c : Call). IsGiven first c.answer) before.calls call before.given now.1;
      told = λ k d below. each_push (λ j (c : Call). T j c.answer) before.calls call before.told (subst (λ j. T j said) (sym many) told) k d (omega (arith, below, length_push before.calls call));
    }

-- whoever is seen as the holder of a share, and is asked as it asks, asked these requests with it
pub asks_all : {S : Type 0} (first : Machined) (T : ℕ → Said → Type 0) (share_of : S → Holder) (old : Holder) (done more : List Request) (mid new : S)
    → AsksAll first T old done (share_of mid) → Reached (λ s q a t. Asks first (share_of s) q a (share_of t)) T (length done) mid more new → AsksAll first T old (done ++ more) (share_of new)
asks_all first T share_of old done [] mid new before last =
    subst (λ rs. AsksAll first T old rs (share_of new)) (sym (append-nil done)) (subst (λ s. AsksAll first T old done (share_of s)) last before)
asks_all {S} first T share_of old done (r ∷ more) mid new before next =
    let R : S → Request → Said → S → Type 0 = λ s q a t. Asks first (share_of s) q a (share_of t) in
    let many : length done + 1 ≡ length (done ++ r ∷ []) = sym (length_push done r) in
    subst (λ rs. AsksAll first T old rs (share_of new)) (append_assoc done (r ∷ []) more)
    (asks_all first T share_of old (done ++ r ∷ []) more next.0 new (asks_more first T old done (share_of mid) r next.1.0.0 (share_of next.0) before next.1.0.1 next.1.0.2)
    (subst (λ k. Reached R T k next.0 more new) many next.1.1))

-- what holds of each number below n, and of n, holds of each below n + 1
pub below_next : (P : ℕ → Type 0) (n : ℕ) → ((k : ℕ) → k < n → P k) → P n → (k : ℕ) → k < n + 1 → P k
below_next P n all here k below =
    dite (ℕ_discrete k n) (λ (same : k ≡ n). subst P (sym same) here) (λ (other : k ≢ n). all k (omega (arith, below, other)))
