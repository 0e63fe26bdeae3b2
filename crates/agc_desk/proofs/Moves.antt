-- Each step of the table keeps its rule.
use Rattle.std.proofs.Common.{◌≡◌, ◌≢◌, ◌⊎◌, ℕ, zero, suc, ◌+◌, ◌<◌, ◌==◌, List, [], ◌∷◌, ◌++◌, length, set, Bool, true, false, cond, true≢false, refl, sym, ap, ◌∙◌, subst, ⊎_elim, inl, inr, arith, nat_eq, Option}
use Rattle.std.specs.List.{All, filter}
use Rattle.std.proofs.lemmas.List.{append-nil}
use Rattle.std.proofs.lemmas.Bool.Decides.{nat_tests}
use Rattle.std.proofs.lemmas.List.Elements.{All-append, All-push, filter-append}
use Rattle.std.proofs.lemmas.List.Folds.{list_any_none}
use mathlib.Core.Option.{some, none, some-ne-none, some-injective}
use lib.ListN.{get_elem?}
use Rattle.atomic_table.specs.Table.{State, Splits, Joins, Allows, keeps, step}
use Rattle.atomic_table.proofs.Lists.{at_set, set_again}
use Rattle.agc_plan.specs.declared.line.Line.{Line}
use Rattle.agc_machine.specs.Said.{Said}
use Rattle.agc_desk.specs.declared.ties.Call.{Call}
use Rattle.agc_desk.specs.declared.ties.View.{View}
use Rattle.agc_desk.specs.History.{calls_by, new_holder, with_heard}
use Rattle.agc_desk.specs.Views.{owner, nobody, joined, call_by, holder_of, IsGathered, Fits, Kept, Gathered, Counted, Checked}
use Rattle.agc_desk.specs.Knowing.{knower}

abbrev pub Holds : State ℕ View → Type 0
Holds s = Kept s.views

off : false ≡ true → ⊥
off e = true≢false (sym e)

at_end : {A : Type 0} (l : List A) (a b : A) (j : ℕ) → get_elem? (l ++ a ∷ []) j ≡ some b → (get_elem? l j ≡ some b) ⊎ ((j ≡ length l) × (a ≡ b))
at_end [] a b zero e = inr (refl, some-injective a b e)
at_end [] a b (suc j) e = absurd (some-ne-none b (sym e))
at_end (x ∷ xs) a b zero e = inl e
at_end (x ∷ xs) a b (suc j) e = ⊎_elim (λ t. inl t) (λ (t : (j ≡ length xs) × (a ≡ b)). inr (ap suc t.0, t.1)) (at_end xs a b j e)

-- a view that claims nothing fits
fits_nobody : (keeper given : ℕ) (seat_of : ℕ → ℕ) (calls : List Call) (i : ℕ) → Fits keeper given seat_of calls i nobody
fits_nobody keeper given seat_of calls i = record { knows = λ k. absurd (off k); own = λ c. absurd (off c) }

fits_set : (keeper given : ℕ) (seat_of : ℕ → ℕ) (calls : List Call) (views : List View) (i : ℕ) (w : View)
    → ((j : ℕ) (u : View) → j ≢ i → get_elem? views j ≡ some u → Fits keeper given seat_of calls j u) → Fits keeper given seat_of calls i w
    → (j : ℕ) (u : View) → get_elem? (set views i w) j ≡ some u → Fits keeper given seat_of calls j u
fits_set keeper given seat_of calls views i w others mine j u e =
    ⊎_elim
    (λ (x : (j ≡ i) × (w ≡ u)). subst (λ (y : ℕ × View). Fits keeper given seat_of calls y.0 y.1) (λ k. (sym x.0 k, x.1 k)) mine)
    (λ (x : (j ≢ i) × (get_elem? views j ≡ some u)). others j u x.0 x.1)
    (at_set views i j w u e)

fits_end : (keeper given : ℕ) (seat_of : ℕ → ℕ) (calls : List Call) (views : List View) (w : View)
    → ((j : ℕ) (u : View) → get_elem? views j ≡ some u → Fits keeper given seat_of calls j u) → Fits keeper given seat_of calls (length views) w
    → (j : ℕ) (u : View) → get_elem? (views ++ w ∷ []) j ≡ some u → Fits keeper given seat_of calls j u
fits_end keeper given seat_of calls views w others mine j u e =
    ⊎_elim
    (λ (x : get_elem? views j ≡ some u). others j u x)
    (λ (x : (j ≡ length views) × (w ≡ u)). subst (λ (y : ℕ × View). Fits keeper given seat_of calls y.0 y.1) (λ k. (sym x.0 k, x.1 k)) mine)
    (at_end views w u j e)

-- who has which number, where this number goes to this seat, or to none
turned : (ℕ → ℕ) → ℕ → ℕ → ℕ → ℕ
turned seat_of b i k = cond (k == b) i (seat_of k)

turned_here : (seat_of : ℕ → ℕ) (b i : ℕ) → turned seat_of b i b ≡ i
unfolding turned
turned_here seat_of b i = here (b == b) (grind (arith, nat_tests))
  where
    here : (t : Bool) → t ≡ true → cond t i (seat_of b) ≡ i
    here t e = ap (λ x. cond x i (seat_of b)) e

turned_else : (seat_of : ℕ → ℕ) (b i k : ℕ) → k ≢ b → turned seat_of b i k ≡ seat_of k
unfolding turned
turned_else seat_of b i k apart = else (k == b) (grind (arith, nat_tests))
  where
    else : (t : Bool) → t ≡ false → cond t i (seat_of k) ≡ seat_of k
    else t e = ap (λ x. cond x i (seat_of k)) e

-- where this number goes to a seat or from one, or is given out first, the gathered ones stay gathered
still_gathered : (given more : ℕ) (seat_of : ℕ → ℕ) (b i : ℕ) (gathered : List ℕ) → ((k : ℕ) → IsGathered given seat_of k → k ≢ b)
    → All (λ n. IsGathered given seat_of n) gathered → All (λ n. IsGathered (given + more) (turned seat_of b i) n) gathered
still_gathered given more seat_of b i gathered apart all k d below =
    let s = all k d below in
    record { given_out = omega (arith, s.given_out); nobody_has = turned_else seat_of b i _ (apart _ s) ∙ s.nobody_has }

-- of numbers that were not given out there is no call
none_by : (number given : ℕ) → number ≡ given → (calls : List Call) → All (λ x. x.by < given) calls → calls_by number calls ≡ []
none_by number given is [] below = refl
none_by number given is (e ∷ more) below =
    let first : e.by < given = below 0 e (omega arith) in
    let apart : (e.by == number) ≡ false = grind (arith, nat_tests) in
    rw apart (none_by number given is more (λ k d l. below (suc k) d (omega arith)))

pub calls_here : (number : ℕ) (calls : List Call) (e : Call) → e.by ≡ number → calls_by number (calls ++ e ∷ []) ≡ calls_by number calls ++ e ∷ []
calls_here number calls e is =
    let same : (e.by == number) ≡ true = grind (arith, nat_tests) in
    filter-append (λ (x : Call). x.by == number) calls (e ∷ []) ∙ ap (λ t. filter (λ (x : Call). x.by == number) calls ++ cond t (e ∷ []) []) same

pub calls_else : (number : ℕ) (calls : List Call) (e : Call) → e.by ≢ number → calls_by number (calls ++ e ∷ []) ≡ calls_by number calls
calls_else number calls e apart =
    let other : (e.by == number) ≡ false = grind (arith, nat_tests) in
    filter-append (λ (x : Call). x.by == number) calls (e ∷ [])
    ∙ (ap (λ t. filter (λ (x : Call). x.by == number) calls ++ cond t (e ∷ []) []) other ∙ append-nil (filter (λ (x : Call). x.by == number) calls))

one_below : (given : ℕ) (e : Call) → e.by < given → All (λ x. x.by < given) (e ∷ [])
one_below given e below zero d l = below
one_below given e below (suc k) d l = absurd (omega arith)

below_as : (all calls : List Call) (n given : ℕ) → all ≡ calls → n ≡ given → All (λ x. x.by < given) calls → All (λ x. x.by < n) all
below_as all calls n given same is below = subst (λ (y : List Call × ℕ). All (λ x. x.by < y.1) y.0) (λ k. (sym same k, sym is k)) below

pub begins : Kept (knower [] 0 [] ∷ [])
begins = record { keeper = 0; given = 0; seat_of = λ k. 0; calls = []; below = λ k d l. absurd (omega arith); fits = one }
  where
    one : (i : ℕ) (v : View) → get_elem? (knower [] 0 [] ∷ []) i ≡ some v → Fits 0 0 (λ k. 0) [] i v
    one zero v e = subst (Fits 0 0 (λ k. 0) [] 0) (some-injective _ _ e) (record { knows = λ _. (refl, refl, refl, λ k d l. absurd (omega arith)); own = λ c. absurd (off c) })
    one (suc i) v e = absurd (some-ne-none v (sym e))

pub spares : (i : ℕ) (v : View) → Splits Holds i v v nobody
spares i v s h at =
    record {
      keeper = h.keeper;
      given = h.given;
      seat_of = h.seat_of;
      calls = h.calls;
      below = h.below;
      fits =
          fits_end h.keeper h.given h.seat_of h.calls (set s.views i v) nobody
          (λ j u e. h.fits j u (subst (λ l. get_elem? l j ≡ some u) (set_again s.views i v at) e))
          (fits_nobody h.keeper h.given h.seat_of h.calls _);
    }

pub takes : (i : ℕ) (v : View) (o : ℕ) (w : View) → v.keeps ≡ true → Joins Holds i v o w (joined v w) nobody
takes i v o w is_keeper s h at apart there =
    let k = (h.fits i v at).knows is_keeper in
    let theirs : Fits h.keeper h.given h.seat_of h.calls o w = ⊎_elim (λ (t : (o ≡ i) × (joined v w ≡ w)). absurd (apart t.0)) (λ (t : (o ≢ i) × (get_elem? s.views o ≡ some w)). h.fits o w t.1) (at_set s.views i o (joined v w) w there) in
    by_claim k theirs w.owns refl
  where
    by_claim : (i ≡ h.keeper) × (v.calls ≡ h.calls) × (v.given ≡ h.given) × All (λ n. IsGathered h.given h.seat_of n) v.gathered → Fits h.keeper h.given h.seat_of h.calls o w
        → (b : Bool) → w.owns ≡ b → Kept (set (set s.views i (joined v w)) o nobody)
    by_claim k theirs false without =
        record {
          keeper = h.keeper;
          given = h.given;
          seat_of = h.seat_of;
          calls = h.calls;
          below = h.below;
          fits =
              fits_set h.keeper h.given h.seat_of h.calls (set s.views i (joined v w)) o nobody
              (λ j u _ e. fits_set h.keeper h.given h.seat_of h.calls s.views i (joined v w) (λ m x _ e'. h.fits m x e') (record { knows = λ _. k; own = λ c. absurd (off (sym without ∙ c)) }) j u e)
              (fits_nobody h.keeper h.given h.seat_of h.calls o);
        }
    by_claim k theirs true claims =
        let own = theirs.own claims in
        let now = turned h.seat_of w.number (i + 1) in
        let gathered : (n : ℕ) → IsGathered h.given h.seat_of n → IsGathered h.given now n =
        λ n z. record { given_out = z.given_out; nobody_has = turned_else h.seat_of w.number (i + 1) n (λ same. omega (arith, z.nobody_has, own.0, ap h.seat_of same)) ∙ z.nobody_has } in
        record {
          keeper = h.keeper;
          given = h.given;
          seat_of = now;
          calls = h.calls;
          below = h.below;
          fits =
              λ j u e. ⊎_elim
              (λ (t : (j ≡ o) × (nobody ≡ u)). subst (Fits h.keeper h.given now h.calls j) t.1 (fits_nobody h.keeper h.given now h.calls j))
              (λ (t : (j ≢ o) × (get_elem? (set s.views i (joined v w)) j ≡ some u)).
              ⊎_elim
              (λ (x : (j ≡ i) × (joined v w ≡ u)). subst (λ (y : ℕ × View). Fits h.keeper h.given now h.calls y.0 y.1) (λ m. (sym x.0 m, x.1 m)) (record { knows = λ _. (k.0, k.1, k.2, λ n d l. gathered _ (k.3 n d l)); own = λ c. (turned_here h.seat_of w.number (i + 1), own.1, own.2) }))
              (λ (x : (j ≢ i) × (get_elem? s.views j ≡ some u)).
              let f = h.fits j u x.1 in
              record {
                knows = λ c. let mine = f.knows c in absurd (x.0 (mine.0 ∙ sym k.0));
                own = λ c. let mine = f.own c in (turned_else h.seat_of w.number (i + 1) u.number (λ same. t.0 (omega (arith, mine.0, own.0, ap h.seat_of same))) ∙ mine.0, mine.1, mine.2);
              })
              (at_set s.views i j (joined v w) u t.1))
              (at_set (set s.views i (joined v w)) o j nobody u e);
        }

pub deals : (i : ℕ) (v : View) → v.keeps ≡ true → Splits Holds i v (knower v.calls (v.given + 1) v.gathered) (owner (new_holder v.given))
deals i v is_keeper s h at =
    let k = (h.fits i v at).knows is_keeper in
    let left = knower v.calls (v.given + 1) v.gathered in
    let new = length (set s.views i left) in
    let now = turned h.seat_of v.given (new + 1) in
    record {
      keeper = h.keeper;
      given = h.given + 1;
      seat_of = now;
      calls = h.calls;
      below = λ n d l. let b = h.below n d l in omega (arith, b);
      fits = fits_end h.keeper (h.given + 1) now h.calls (set s.views i left) (owner (new_holder v.given))
          (fits_set h.keeper (h.given + 1) now h.calls s.views i left
          (λ j u far e.
          let f = h.fits j u e in
          record {
            knows = λ c. absurd (far (((f.knows c).0) ∙ sym k.0));
            own = λ c. let mine = f.own c in (turned_else h.seat_of v.given (new + 1) u.number (λ same. omega (arith, same, mine.1, k.2)) ∙ mine.0, omega (arith, mine.1), mine.2);
          })
          (record {
            knows = λ _. (k.0, k.1, ap (λ n. n + 1) k.2, still_gathered h.given 1 h.seat_of v.given (new + 1) v.gathered (λ n z same. omega (arith, z.given_out, same, k.2)) k.3);
            own = λ c. absurd (off c);
          }))
          (record { knows = λ c. absurd (off c); own = λ _. (turned_here h.seat_of v.given (new + 1), omega (arith, k.2), none_by v.given h.given k.2 h.calls h.below) });
    }

pub notes : (i : ℕ) (v : View) (said : Said) (pulse : Option Line) → v.keeps ≡ true → v.owns ≡ true
    → Splits Holds i v (knower (v.calls ++ call_by v said pulse ∷ []) v.given v.gathered) (owner (with_heard (call_by v said pulse ∷ []) (holder_of v)))
notes i v said pulse is_keeper owns s h at =
    let k = (h.fits i v at).knows is_keeper in
    let own = (h.fits i v at).own owns in
    let e : Call = call_by v said pulse in
    let left = knower (v.calls ++ e ∷ []) v.given v.gathered in
    let new = length (set s.views i left) in
    let now = turned h.seat_of v.number (new + 1) in
    record {
      keeper = h.keeper;
      given = h.given;
      seat_of = now;
      calls = h.calls ++ e ∷ [];
      below = All-append (λ x. x.by < h.given) h.calls (e ∷ []) h.below (one_below h.given e own.1);
      fits = fits_end h.keeper h.given now (h.calls ++ e ∷ []) (set s.views i left) (owner (with_heard (e ∷ []) (holder_of v)))
          (fits_set h.keeper h.given now (h.calls ++ e ∷ []) s.views i left
          (λ j u far at'.
          let f = h.fits j u at' in
          record {
            knows = λ c. absurd (far (((f.knows c).0) ∙ sym k.0));
            own = λ c.
                let mine = f.own c in
                let apart : u.number ≢ v.number = λ same. far (omega (arith, mine.0, own.0, ap h.seat_of same)) in
                (turned_else h.seat_of v.number (new + 1) u.number apart ∙ mine.0, mine.1, calls_else u.number h.calls e (λ same. apart (sym same)) ∙ mine.2);
          })
          (record {
            knows = λ _. (k.0, ap (λ l. l ++ e ∷ []) k.1, k.2, λ n d l. (let z = k.3 n d l in record { given_out = z.given_out; nobody_has = turned_else h.seat_of v.number (new + 1) _ (λ same. omega (arith, z.nobody_has, own.0, ap h.seat_of same)) ∙ z.nobody_has }));
            own = λ c. absurd (off c);
          }))
          (record { knows = λ c. absurd (off c); own = λ _. (turned_here h.seat_of v.number (new + 1), own.1, calls_here v.number h.calls e refl ∙ ap (λ l. l ++ e ∷ []) own.2) });
    }

pub gathers_as : (slots i : ℕ) (me : View × List (ℕ × ℕ)) → me.0.keeps ≡ true → me.0.owns ≡ true
    → Allows Holds slots i me 0 (λ n. n) (Gathered (step slots 0 0 0 none) me)
gathers_as slots i me is_keeper owns s h len at word =
    let v = me.0 in
    let f = h.fits i v at in
    let k = f.knows is_keeper in
    let own = f.own owns in
    let w = knower v.calls v.given (v.gathered ++ v.number ∷ []) in
    let now = turned h.seat_of v.number 0 in
    let apart : (n : ℕ) → IsGathered h.given h.seat_of n → n ≢ v.number = λ n z same. omega (arith, z.nobody_has, own.0, ap h.seat_of same) in
    let gathered : (n : ℕ) → IsGathered h.given h.seat_of n → IsGathered h.given now n =
    λ n z. record { given_out = z.given_out; nobody_has = turned_else h.seat_of v.number 0 n (apart n z) ∙ z.nobody_has } in
    let new : Kept (set s.views i w) = record {
      keeper = h.keeper;
      given = h.given;
      seat_of = now;
      calls = h.calls;
      below = h.below;
      fits =
          fits_set h.keeper h.given now h.calls s.views i w
          (λ j u far e.
          let g = h.fits j u e in
          record {
            knows = λ c. absurd (far (((g.knows c).0) ∙ sym k.0));
            own = λ c. let mine = g.own c in (turned_else h.seat_of v.number 0 u.number (λ same. far (omega (arith, mine.0, own.0, ap h.seat_of same))) ∙ mine.0, mine.1, mine.2);
          })
          (record {
            knows = λ _. (k.0, k.1, k.2, All-push (λ n. IsGathered h.given now n) v.gathered v.number (λ n d l. gathered _ (k.3 n d l)) (record { given_out = own.1; nobody_has = turned_here h.seat_of v.number 0 }));
            own = λ c. absurd (off c);
          });
    } in (
      w,
      keeps,
      tt,
      new,
      (
        record {
          new = refl;
          heard = subst (λ l. calls_by v.number l ≡ v.heard) (sym k.1) own.2;
          given_out = subst (λ n. v.number < n) (sym k.2) own.1;
          apart = list_any_none (nat_eq v.number) v.gathered (λ n d l. other v.number _ (apart _ (k.3 n d l)));
        },
        refl,
      ),
    )
  where
    other : (a b : ℕ) → b ≢ a → nat_eq a b ≡ false
    other a b apart = grind (arith, nat_tests)

pub counts_as : (slots i : ℕ) (me : View × List (ℕ × ℕ))
    → Allows Holds slots i me 0 (λ n. n) (Counted (step slots 0 0 0 none) me)
counts_as slots i me s h len at word =
    let v = me.0 in
    let w = record v { drains = v.drains + 1 } in
    let f = h.fits i v at in
    let new : Kept (set s.views i w) = record {
      keeper = h.keeper;
      given = h.given;
      seat_of = h.seat_of;
      calls = h.calls;
      below = h.below;
      fits = fits_set h.keeper h.given h.seat_of h.calls s.views i w (λ j u far e. h.fits j u e)
          (record { knows = f.knows; own = f.own });
    } in (w, keeps, tt, new, (refl, refl))

pub checks_as : (slots i : ℕ) (me : View × List (ℕ × ℕ)) → me.0.keeps ≡ true
    → Allows Holds slots i me 0 (λ n. n) (Checked (step slots 0 0 0 none) me)
checks_as slots i me is_keeper s h len at word =
    let k = (h.fits i me.0 at).knows is_keeper in
    (me.0, keeps, tt, subst Kept (sym (set_again s.views i me.0 at)) h, (refl, below_as me.0.calls h.calls me.0.given h.given k.1 k.2 h.below))
