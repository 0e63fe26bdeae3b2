-- A text and its first space.
use Rattle.std.proofs.Common.{◌≡◌, ◌≢◌, ℕ, suc, ◌<◌, Bool, true, false, cond, eqb, List, [], ◌∷◌, ◌++◌, length, get_or, Option, Some, None, refl, sym, ap, ◌∙◌, arith, rules, MatchOption, Bor}
use Rattle.std.specs.Option.{option_map}
use Rattle.std.proofs.lemmas.Str.Pattern.{split_parts, IsSplitOnceResult}
use Rattle.std.proofs.lemmas.Bool.{eqb-true}
use Rattle.agc_text.specs.Chain.{◌>>=◌}
use Rattle.agc_text.specs.Reading.{cut}

abbrev pub Lacks : ℕ → List ℕ → Type 0
Lacks mark [] = Unit {0}
Lacks mark (c ∷ cs) = (c ≢ mark) × Lacks mark cs

pub eqb-false : (a b : ℕ) → a ≢ b → eqb a b ≡ false
eqb-false a b h = search rules

pub lacks_by_index : (mark : ℕ) (s : List ℕ) → ((i : ℕ) → i < length s → get_or s i 0 ≢ mark) → Lacks mark s
lacks_by_index mark [] h = tt
lacks_by_index mark (c ∷ cs) h = (h 0 (omega arith), lacks_by_index mark cs (λ i l. h (suc i) (omega arith)))

pub cut_none : (mark : ℕ) (s : List ℕ) → Lacks mark s → cut mark s ≡ None
cut_none mark [] h = refl
cut_none mark (c ∷ cs) h = rw (eqb-false c mark h.0, cut_none mark cs h.1) refl

eqb-same : (a : ℕ) → eqb a a ≡ true
eqb-same a = search rules

pub cut_at : (mark : ℕ) (front back : List ℕ) → Lacks mark front → cut mark (front ++ mark ∷ back) ≡ Some (front, back)
cut_at mark [] back h = rw (eqb-same mark) refl
cut_at mark (c ∷ cs) back h = rw (eqb-false c mark h.0, cut_at mark cs back h.1) refl

pub parts_are : (mark : ℕ) (s : List ℕ) (r : Option (Bor (List ℕ) × Bor (List ℕ))) → IsSplitOnceResult mark s r → mark < 128 → option_map (λ x. (x.0.now, x.1.now)) r ≡ cut mark s
parts_are mark s r h small = from_parts r (split_parts mark s r h small) where
  from_parts : (q : Option (Bor (List ℕ) × Bor (List ℕ))) → MatchOption q ((i : ℕ) → i < length s → get_or s i 0 ≢ mark) (λ x. (s ≡ x.0.now ++ (mark ∷ x.1.now)) × ((i : ℕ) → i < length x.0.now → get_or x.0.now i 0 ≢ mark)) → option_map (λ x. (x.0.now, x.1.now)) q ≡ cut mark s
  from_parts None g = sym (cut_none mark s (lacks_by_index mark s g))
  from_parts (Some x) g = sym (ap (cut mark) g.0 ∙ cut_at mark x.0.now x.1.now (lacks_by_index mark x.0.now g.1))

cut_step : (mark c : ℕ) (cs : List ℕ) (x : List ℕ × List ℕ) (b : Bool) (q : Option (List ℕ × List ℕ)) → ((p : List ℕ × List ℕ) → q ≡ Some p → cs ≡ p.0 ++ mark ∷ p.1) → eqb c mark ≡ b → cond b (Some ([], cs)) (q >>= λ p. Some (c ∷ p.0, p.1)) ≡ Some x → c ∷ cs ≡ x.0 ++ mark ∷ x.1
cut_step mark c cs x true q h t g = let y : ([], cs) ≡ x = cc in rw (← y) (ap (λ (d : ℕ). d ∷ cs) (eqb-true c mark t))
cut_step mark c cs x false None h t g = absurd cc
cut_step mark c cs x false (Some p) h t g = let y : (c ∷ p.0, p.1) ≡ x = cc in rw (← y) (ap (λ (d : List ℕ). c ∷ d) (h p refl))

pub cut_found : (mark : ℕ) (s : List ℕ) (x : List ℕ × List ℕ) → cut mark s ≡ Some x → s ≡ x.0 ++ mark ∷ x.1
cut_found mark [] x e = absurd cc
cut_found mark (c ∷ cs) x e = cut_step mark c cs x (eqb c mark) (cut mark cs) (cut_found mark cs) refl e
