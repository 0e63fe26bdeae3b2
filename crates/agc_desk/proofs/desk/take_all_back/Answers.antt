use Rattle.std.proofs.Common.{List, false, arith, ◌≡◌, ◌<◌, ◌+◌, ◌++◌, ◌∷◌, [], ℕ, length, true, nat_eq, refl, sym, ap, ◌∙◌, subst, ⊎_elim, append_assoc, append-nil}
use Rattle.std.specs.List.{All, IsDistinct, list_any}
use Rattle.std.specs.Vec.Iter.{into_iter_items}
use Rattle.std.proofs.lemmas.Cmp.{nat_eq_equiv}
use Rattle.std.proofs.lemmas.List.{length_push, map-append}
use Rattle.std.proofs.lemmas.List.Elements.{All-push}
use Rattle.std.proofs.lemmas.Map.Keys.{IsDistinct-push}
use Rattle.agc_machine.specs.Told.{add}
use Rattle.agc_desk.specs.Books.{told_in, told_to}
use Rattle.agc_desk.specs.History.{Holder, Known, calls_by, numbers_of}
use Rattle.agc_desk.proofs.Calls.{push_cases, told_to_push}
use Rattle.agc_desk.proofs.desk.take_all_back.Goals as goal

nothing_left : {X : Type 0} (l : List X) → length l ≡ 0 → l ≡ []
nothing_left [] h = refl
nothing_left (x ∷ xs) h = absurd (omega (arith, h))

pub loop-share-init : goal.loop-share-init
unfolding IsDistinct
loop-share-init g c = record {
  rest = refl;
  left_over = search arith;
  total = refl;
  left = omega arith;
  back = c.requires.nothing;
  history = ap (λ s. record { calls = c.args.history.now.calls; given = c.args.history.now.given; gathered = s }) c.requires.none;
  each = λ k d below. absurd (omega arith);
  apart = tt;
  below = λ k e. cc;
}

pub loop-share-preserved : goal.loop-share-preserved
loop-share-preserved g c =
    let old : List Holder = c.loop-share.yielded in
    let share : Holder = c.in-Some.share in
    let initial : Known = c.args.history.now in
    let i = c.loop-share.invariant in
    let back = c.take_back.ensures in
    let numbers : numbers_of (old ++ share ∷ []) ≡ numbers_of old ++ share.number ∷ [] = map-append (λ (s : Holder). s.number) old (share ∷ []) in
    let calls_are : c.loop-share.history.calls ≡ initial.calls = ap (λ h. h.calls) i.history in
    let given_are : c.loop-share.history.given ≡ initial.given = ap (λ h. h.given) i.history in
    let gathered_are : c.loop-share.history.gathered ≡ numbers_of old = ap (λ h. h.gathered) i.history in
    let heard : calls_by share.number initial.calls ≡ share.heard = subst (λ l. calls_by share.number l ≡ share.heard) calls_are back.heard in
    let given_out : share.number < initial.given = subst (λ n. share.number < n) given_are back.given_out in
    let apart : list_any (nat_eq share.number) (numbers_of old) ≡ false = subst (λ l. list_any (nat_eq share.number) l ≡ false) gathered_are back.apart in
    let steps : into_iter_items c.loop-share.share-iterator ≡ share ∷ into_iter_items c.next.new.self = c.in-Some.ensures.steps.0 in
    record {
      rest = append_assoc old (share ∷ []) _ ∙ rw (← steps) i.rest;
      left_over = omega (arith, i.left_over, c.in-Some.ensures.steps.1, ap length steps);
      total = back.total ∙ i.total;
      left = omega (arith, back.left, i.left, length_push old share);
      back = back.back ∙ (ap (λ t. add t (told_in share.heard)) i.back ∙ sym (told_to_push old share));
      history =
          back.gathered ∙ (ap (λ (h : Known). record h { gathered = h.gathered ++ share.number ∷ [] }) i.history
          ∙ ap (λ l. record { calls = initial.calls; given = initial.given; gathered = l }) (sym numbers));
      each = All-push (λ (s : Holder). calls_by s.number initial.calls ≡ s.heard) old share i.each heard;
      apart = subst (IsDistinct nat_eq) (sym numbers) (IsDistinct-push nat_eq_equiv (numbers_of old) share.number i.apart apart);
      below = λ k has. ⊎_elim (λ before. i.below k before) (λ (same : k ≡ share.number). omega (arith, same, given_out))
          (push_cases k share.number (numbers_of old) (subst (λ l. list_any (nat_eq k) l ≡ true) numbers has));
    }

-- at the end all are back
all_back : (shares old left : List Holder) → old ++ left ≡ shares → length left ≡ 0 → old ≡ shares
all_back shares old left rest none = sym (append-nil old) ∙ (ap (λ l. old ++ l) (sym (nothing_left left none)) ∙ rest)

pub audit-requires : goal.audit-requires
audit-requires g c =
    let i = c.loop-share.invariant in
    let all : c.loop-share.yielded ≡ c.args.shares.items =
    all_back c.args.shares.items c.loop-share.yielded (into_iter_items c.loop-share.share-iterator) (i.rest ∙ c.into_iter-share-iterator.ensures.into_iter_gives.0) (sym i.left_over ∙ c.in-None.ensures.steps.0) in
    record { all = i.left ∙ (ap (λ (l : List Holder). c.args.ledgers.now.left + length l) all ∙ c.requires.all) }

pub returns : goal.returns
returns g c =
    let initial : Known = c.args.history.now in
    let i = c.loop-share.invariant in
    let all : c.loop-share.yielded ≡ c.args.shares.items =
    all_back c.args.shares.items c.loop-share.yielded (into_iter_items c.loop-share.share-iterator) (i.rest ∙ c.into_iter-share-iterator.ensures.into_iter_gives.0) (sym i.left_over ∙ c.in-None.ensures.steps.0) in
    record {
      total = sym i.total ∙ (sym c.audit.ensures.whole ∙ (i.back ∙ ap told_to all));
      each = subst (λ ss. All (λ s. calls_by s.number initial.calls ≡ s.heard) ss) all i.each;
      apart = subst (λ ss. IsDistinct nat_eq (numbers_of ss)) all i.apart;
      below = subst (λ ss. (k : ℕ) → list_any (nat_eq k) (numbers_of ss) ≡ true → k < initial.given) all i.below;
      given = subst (λ (h : Known). All (λ call. call.by < h.given) h.calls) i.history c.check.ensures.below;
    }
