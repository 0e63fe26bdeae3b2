-- Each kind of step keeps the latch's rule.
use Rattle.std.proofs.Common.{◌≡◌, ℕ, zero, suc, ◌+◌, ◌*◌, ◌%◌, ◌^◌, ◌<◌, ◌≤◌, ◌≢◌, List, [], ◌∷◌, length, set, slice_index, sum, sym, refl, ap, ◌∙◌, subst, ⊎_elim, arith, length-set, get_or-set_same, get_or-set_other}
use mathlib.Core.Logic.{dite}
use native.Mathlib.Decide.{ℕ_discrete}
use mathlib.Core.Option.{none, some, some-injective, some-ne-none}
use lib.ListN.{get_elem?}
use Rattle.atomic_table.specs.Table.{step, keeps, Allows, Splits, Joins, Final, Seen}
use Rattle.atomic_table.proofs.Lists.{at_set, at_snoc, set_else}
use Rattle.agc_latch.specs.declared.views.View.{View}
use Rattle.agc_latch.specs.declared.views.Role.{Role}
use Rattle.agc_latch.specs.declared.views.Role.TheVariants.{Takes, Posts, Spent}
use Rattle.agc_plan.specs.declared.line.Line.{Line}
use Rattle.agc_plan.specs.declared.line.Line.TheVariants.{Timer, Key, Radar}
use Rattle.agc_plan.specs.Pulses.{word_of}
use Rattle.agc_latch.specs.Lines.{raised, zeros}
use Rattle.agc_latch.specs.Latches.{total, takers_as, takers, seats, given, posted_at, taken_at, IsInTurn, IsTurnOf, HasTakenNothing, FitsRole, Fits, IsLatch}
use Rattle.agc_latch.specs.Steps.{Seated, after_post, after_take, after_split, after_join, device_view, spent_view}
use Rattle.agc_latch.specs.Tellings.{IsLatchState, Posted, Taken}
use Rattle.agc_latch.specs.Laws.{BeginsAtZero, PostKeeps, TakeKeeps, SplitKeeps, JoinKeeps, TakesInTurn, TakesOnlyPosted, IsBounded}
use Rattle.agc_latch.proofs.Totals.{total-append, total-set, terms_le, total_alone, total_below, sum_raised, raised_here, raised_else, one_le_sum, added_at, length_added, sum_added}

pub word_inside : (line : Line) → word_of line < 3
word_inside Timer = omega arith
word_inside Key = omega arith
word_inside Radar = omega arith

each_set : (views : List View) (id : ℕ) (w : View) → Fits w
    → ((seat : ℕ) (v : View) → get_elem? views seat ≡ some v → Fits v)
    → (seat : ℕ) (v : View) → get_elem? (set views id w) seat ≡ some v → Fits v
each_set views id w fits each seat v e =
    ⊎_elim (λ (t : (seat ≡ id) × (w ≡ v)). subst Fits t.1 fits)
    (λ (t : (seat ≢ id) × (get_elem? views seat ≡ some v)). each seat v t.1)
    (at_set views id seat w v e)

-- A view is replaced by one of the same role, and word i by x. That keeps the account where the
-- word changes as the view
replaced : (words : List ℕ) (views : List View) (id i x : ℕ) (v w : View) → i < 3
    → IsLatch words views → get_elem? views id ≡ some v → Fits w
    → w.role ≡ v.role → w.seats ≡ v.seats → w.given ≡ v.given
    → x + taken_at i w + posted_at i v ≡ slice_index words i + taken_at i v + posted_at i w
    → ((j : ℕ) → j ≢ i → (taken_at j w ≡ taken_at j v) × (posted_at j w ≡ posted_at j v))
    → IsLatch (set words i x) (set views id w)
replaced words views id i x v w inside k at fits role same_seats same_given here else =
    let wide = k.three in record {
      three = length-set words i x ∙ wide;
      lines = λ j l.
          let t = total-set (taken_at j) views id v w at in
          let p = total-set (posted_at j) views id v w at in
          let was = k.lines j l in
          dite (ℕ_discrete j i)
          (λ same.
          let now = get_or-set_same words i x 0 (omega arith) in
          subst
          (λ (z : ℕ). slice_index (set words i x) z + total (taken_at z) (set views id w) ≡ total (posted_at z) (set views id w))
          (sym same)
          (let t' = total-set (taken_at i) views id v w at in
          let p' = total-set (posted_at i) views id v w at in
          let was' = k.lines i inside in omega arith))
          (λ other. let now = get_or-set_other words i j x 0 other in let e = else j other in omega arith);
      one_taker =
          let t = total-set takers views id v w at in
          let o = k.one_taker in
          let r : takers w ≡ takers v = ap takers_as role in omega arith;
      seated =
          let s = total-set seats views id v w at in
          let g = total-set given views id v w at in
          let was = k.seated in omega arith;
      most = let g = total-set given views id v w at in let was = k.most in omega arith;
      each = each_set views id w fits k.each;
    }

-- no line has more pulses than the devices may post
pub room : (words : List ℕ) (views : List View) (i : ℕ) → i < 3 → IsLatch words views
    → total (posted_at i) views ≤ 4294967295 * total given views
room words views i inside k =
    let most = total_below (posted_at i) seats views (λ seat v e.
    let f = k.each seat v e in
    let wide = f.posted_wide in
    let b = f.bounded in
    let o = one_le_sum v.posted i (omega arith) in omega arith) in
    let s = k.seated in omega arith

pub takes_only_posted : TakesOnlyPosted
takes_only_posted words views i k inside = let l = k.lines i inside in omega arith

pub begins_at_zero : BeginsAtZero
begins_at_zero words Timer k = let l = k.lines 0 (omega arith) in omega arith
begins_at_zero words Key k = let l = k.lines 1 (omega arith) in omega arith
begins_at_zero words Radar k = let l = k.lines 2 (omega arith) in omega arith

pub is_bounded : IsBounded
is_bounded words views i k inside =
    let l = k.lines i inside in
    let r = room words views i inside k in
    let m = k.most in omega arith

role_of_post : (v : View) → v.role ≡ Posts → Fits v → (v.seats ≡ 1) × HasTakenNothing v
role_of_post v is f = subst (λ (r : Role). FitsRole r v) is f.of_role

pub post_keeps : PostKeeps
post_keeps words views id i v k at is inside few =
    let w = after_post i v in
    let f = k.each id v at in
    let wide = f.posted_wide in
    let r = role_of_post v is f in
    let one = r.0 in
    let up = raised_here v.posted i 1 (omega arith) in
    let more = sum_raised v.posted i 1 (omega arith) in
    let w_fits : Fits w = record {
      posted_wide = length-set v.posted i _ ∙ wide;
      taken_wide = f.taken_wide;
      takes_wide = f.takes_wide;
      bounded = omega arith;
      of_role = subst (λ (z : Role). FitsRole z w) (sym is) r;
    } in
    replaced words views id i _ v w inside k at w_fits refl refl refl (omega arith)
    (λ j other. (refl, raised_else v.posted i j 1 other))

pub posts : (slots id i : ℕ) (me : Seated) → i < 3 → me.0.role ≡ Posts → sum me.0.posted < 4294967295
    → Allows IsLatchState slots id me i (λ n. (n + 1) % 2 ^ 64) (Posted (step slots i 1 0 none) me)
posts slots id i me inside is few s k homes at small =
    let v = me.0 in
    let w = after_post i v in
    let x : ℕ = slice_index s.words i in
    let most = is_bounded s.words s.views i k inside in
    let fits : (x + 1) % 2 ^ 64 ≡ x + 1 = omega arith in
    let kept = post_keeps s.words s.views id i v k at is inside few in (
      w,
      keeps,
      tt,
      subst (λ (z : ℕ). IsLatch (set s.words i z) (set s.views id w)) (sym fits) kept,
      refl,
    )

others_quiet : (v : View) → Fits v → takers v ≡ 0 → HasTakenNothing v
others_quiet v f no_taker = go v.role f.of_role no_taker
  where
    go : (r : Role) → FitsRole r v → takers_as r ≡ 0 → HasTakenNothing v
    go Takes f no_taker = absurd (omega arith)
    go Posts f no_taker = f.1
    go Spent f no_taker = f.1

none_posted : (v : View) (i : ℕ) → i < 3 → Fits v → v.seats ≡ 0 → posted_at i v ≡ 0
none_posted v i inside f no_seat =
    let b = f.bounded in
    let wide = f.posted_wide in
    let o = one_le_sum v.posted i (omega arith) in omega arith

-- what the taker's view says of the whole
module _ (words : List ℕ) (views : List View) (k : IsLatch words views) (id : ℕ) (v : View) (at : get_elem? views id ≡ some v) (is : v.role ≡ Takes) where
  alone : (seat : ℕ) (u : View) → seat ≢ id → get_elem? views seat ≡ some u → takers u ≡ 0
  alone seat u other e =
      let both = terms_le takers views id seat v u other at e in
      let o = k.one_taker in
      let me : takers v ≡ 1 = ap takers_as is in omega arith

  quiet : (seat : ℕ) (u : View) → seat ≢ id → get_elem? views seat ≡ some u → HasTakenNothing u
  quiet seat u other e = others_quiet u (k.each seat u e) (alone seat u other e)

  pub all_given : total given views ≡ v.given
  all_given = total_alone given views id v at (λ seat u other e. (quiet seat u other e).0)

  pub all_taken : (i : ℕ) → total (taken_at i) views ≡ taken_at i v
  all_taken i = total_alone (taken_at i) views id v at (λ seat u other e. (quiet seat u other e).1 i)

  pub all_posted : (i : ℕ) → i < 3 → v.seats ≡ v.given → total (posted_at i) views ≡ posted_at i v
  all_posted i inside back = total_alone (posted_at i) views id v at (λ seat u other e.
      let both = terms_le seats views id seat v u other at e in
      let s = k.seated in
      let g = all_given in none_posted u i inside (k.each seat u e) (omega arith))

  pub line_at : (i : ℕ) → i < 3 → v.seats ≡ v.given → slice_index words i + taken_at i v ≡ posted_at i v
  line_at i inside back =
      let l = k.lines i inside in
      let t = all_taken i in
      let p = all_posted i inside back in omega arith

-- the taker's view has taken in turn
turn_of : (v : View) → v.role ≡ Takes → Fits v → IsInTurn v.takes
turn_of v is f = subst (λ (r : Role). FitsRole r v) is f.of_role

pub takes_in_turn : TakesInTurn
takes_in_turn words views id v k at is = turn_of v is (k.each id v at)

-- and goes on in turn
turned : (line : Line) (takes : List ℕ) → length takes ≡ 3 → IsInTurn takes → IsTurnOf line takes → IsInTurn (raised (word_of line) 1 takes)
turned Timer takes wide was turn =
    let here = raised_here takes 0 1 (omega arith) in
    let key = raised_else takes 0 1 1 (λ e. omega arith) in
    let radar = raised_else takes 0 2 1 (λ e. omega arith) in (omega arith, omega arith, omega arith)
turned Key takes wide was turn =
    let timer = raised_else takes 1 0 1 (λ e. omega arith) in
    let here = raised_here takes 1 1 (omega arith) in
    let radar = raised_else takes 1 2 1 (λ e. omega arith) in (omega arith, omega arith, omega arith)
turned Radar takes wide was turn =
    let timer = raised_else takes 2 0 1 (λ e. omega arith) in
    let key = raised_else takes 2 1 1 (λ e. omega arith) in
    let here = raised_here takes 2 1 (omega arith) in (omega arith, omega arith, omega arith)

pub take_keeps : TakeKeeps
take_keeps words views id line v k at is turn =
    let i : ℕ = word_of line in
    let inside = word_inside line in
    let x : ℕ = slice_index words i in
    let w = after_take i x v in
    let f = k.each id v at in
    let wide = f.taken_wide in
    let up = raised_here v.taken i x (omega arith) in
    let w_fits : Fits w = record {
      posted_wide = f.posted_wide;
      taken_wide = length-set v.taken i _ ∙ wide;
      takes_wide = length-set v.takes i _ ∙ f.takes_wide;
      bounded = f.bounded;
      of_role = subst (λ (z : Role). FitsRole z w) (sym is) (turned line v.takes f.takes_wide (turn_of v is f) turn);
    } in
    replaced words views id i 0 v w inside k at w_fits refl refl refl (omega arith)
    (λ j other. (raised_else v.taken i j x other, refl))

takes_line : (slots id : ℕ) (line : Line) (me : Seated) → me.0.role ≡ Takes → IsTurnOf line me.0.takes
    → Allows IsLatchState slots id me (word_of line) (λ _. 0) (Taken (step slots (word_of line) 0 0 none) me)
takes_line slots id line me is turn s k homes at small =
    let v = me.0 in
    let i : ℕ = word_of line in
    let inside = word_inside line in
    let x : ℕ = slice_index s.words i in
    let w = after_take i x v in
    let before = k.lines i inside in
    let t = all_taken s.words s.views k id v at is i in
    let g = all_given s.words s.views k id v at is in
    let full = room s.words s.views i inside k in
    let kept = take_keeps s.words s.views id line v k at is turn in (
      w,
      keeps,
      tt,
      kept,
      (
        refl,
        omega arith,
        (λ back. let l = line_at s.words s.views k id v at is i inside back in omega arith),
      ),
    )

pub takes : (slots id i : ℕ) (line : Line) (me : Seated) → i ≡ word_of line → me.0.role ≡ Takes → IsTurnOf line me.0.takes
    → Allows IsLatchState slots id me i (λ _. 0) (Taken (step slots i 0 0 none) me)
takes slots id i line me same is turn =
    subst (λ (j : ℕ). Allows IsLatchState slots id me j (λ _. 0) (Taken (step slots j 0 0 none) me)) (sym same) (takes_line slots id line me is turn)

zeros_at : (i : ℕ) → slice_index zeros i ≡ 0
zeros_at zero = refl
zeros_at (suc zero) = refl
zeros_at (suc (suc zero)) = refl
zeros_at (suc (suc (suc i))) = refl

pub split_keeps : SplitKeeps
split_keeps words views id v k at is few =
    let w = after_split v in
    let u = device_view in
    let vs = set views id w in
    let f = k.each id v at in
    let w_fits : Fits w = record {
      posted_wide = f.posted_wide;
      taken_wide = f.taken_wide;
      takes_wide = f.takes_wide;
      bounded = f.bounded;
      of_role = subst (λ (z : Role). FitsRole z w) (sym is) (turn_of v is f);
    } in
    let u_fits : Fits u = record {
      posted_wide = refl;
      taken_wide = refl;
      takes_wide = refl;
      bounded = omega arith;
      of_role = (refl, (refl, zeros_at));
    } in
    let g = all_given words views k id v at is in record {
      three = k.three;
      lines = λ i l.
          let was = k.lines i l in
          let z = zeros_at i in
          let t = total-set (taken_at i) views id v w at in
          let t' = total-append (taken_at i) vs (u ∷ []) in
          let p = total-set (posted_at i) views id v w at in
          let p' = total-append (posted_at i) vs (u ∷ []) in omega arith;
      one_taker =
          let t = total-set takers views id v w at in
          let t' = total-append takers vs (u ∷ []) in
          let o = k.one_taker in omega arith;
      seated =
          let t = total-set seats views id v w at in
          let t' = total-append seats vs (u ∷ []) in
          let p = total-set given views id v w at in
          let p' = total-append given vs (u ∷ []) in
          let o = k.seated in omega arith;
      most =
          let p = total-set given views id v w at in
          let p' = total-append given vs (u ∷ []) in omega arith;
      each = λ seat x e.
          ⊎_elim (λ d. each_set views id w w_fits k.each seat x d) (λ same. subst Fits same u_fits) (at_snoc vs u x seat e);
    }

pub splits : (id : ℕ) (v : View) → v.role ≡ Takes → v.given < 64
    → Splits IsLatchState id v (after_split v) device_view
splits id v is few s k at = split_keeps s.words s.views id v k at is few

pub join_keeps : JoinKeeps
join_keeps words views id other v w k at is apart was posts_role =
    let b = after_join v w in
    let vs = set views id b in
    let there : get_elem? vs other ≡ some w = set_else views id other b apart ∙ was in
    let f = k.each id v at in
    let g = k.each other w was in
    let r = role_of_post w posts_role g in
    let none_given = r.1.0 in
    let wide = f.posted_wide in
    let wide' = g.posted_wide in
    let less = f.bounded in
    let less' = g.bounded in
    let b_fits : Fits b = record {
      posted_wide = length_added v.posted w.posted (omega arith) ∙ wide;
      taken_wide = f.taken_wide;
      takes_wide = f.takes_wide;
      bounded = omega (arith, sum_added v.posted w.posted);
      of_role = subst (λ (z : Role). FitsRole z b) (sym is) (turn_of v is f);
    } in
    let spent_fits : Fits spent_view = record {
      posted_wide = refl;
      taken_wide = refl;
      takes_wide = refl;
      bounded = omega arith;
      of_role = (refl, (refl, zeros_at));
    } in
    let taker_w : takers w ≡ 0 = ap takers_as posts_role in record {
      three = k.three;
      lines = λ i l.
          let line = k.lines i l in
          let z = zeros_at i in
          let sums = added_at v.posted w.posted i in
          let none_taken = r.1.1 i in
          let t = total-set (taken_at i) views id v b at in
          let t' = total-set (taken_at i) vs other w spent_view there in
          let p = total-set (posted_at i) views id v b at in
          let p' = total-set (posted_at i) vs other w spent_view there in omega arith;
      one_taker =
          let t = total-set takers views id v b at in
          let t' = total-set takers vs other w spent_view there in
          let o = k.one_taker in omega arith;
      seated =
          let t = total-set seats views id v b at in
          let t' = total-set seats vs other w spent_view there in
          let p = total-set given views id v b at in
          let p' = total-set given vs other w spent_view there in
          let o = k.seated in omega arith;
      most =
          let p = total-set given views id v b at in
          let p' = total-set given vs other w spent_view there in
          let o = k.most in omega arith;
      each = each_set vs other spent_view spent_fits (each_set views id b b_fits k.each);
    }

pub joins : (id other : ℕ) (v w : View) → v.role ≡ Takes → w.role ≡ Posts
    → Joins IsLatchState id v other w (after_join v w) spent_view
joins id other v w is posts_role s k at apart there =
    let b = after_join v w in
    let was : get_elem? s.views other ≡ some w =
    ⊎_elim (λ (t : (other ≡ id) × (b ≡ w)). absurd (apart t.0))
    (λ (t : (other ≢ id) × (get_elem? s.views other ≡ some w)). t.1)
    (at_set s.views id other b w there) in
    join_keeps s.words s.views id other v w k at is apart was posts_role

-- at the end, where each device came back
pub closes : (ws : List ℕ) (xs : List (Unit {0})) (id : ℕ) (v : View) → v.role ≡ Takes → v.seats ≡ v.given
    → Final (Seen IsLatchState id v) ws xs
    → (i : ℕ) → i < 3 → slice_index ws i + slice_index v.taken i ≡ slice_index v.posted i
closes ws xs id v is back f i l =
    let s = f.0 in
    let e = line_at s.words s.views f.1.0 id v f.1.1 is i l back in
    subst (λ (z : List ℕ). slice_index z i + slice_index v.taken i ≡ slice_index v.posted i) f.2 e

read_at : (ws : List ℕ) (i a : ℕ) → get_elem? ws i ≡ some a → a ≡ slice_index ws i
read_at [] i a e = absurd (some-ne-none a (sym e))
read_at (w ∷ ws) zero a e = sym (some-injective w a e)
read_at (w ∷ ws) (suc i) a e = read_at ws i a e

pub three_read : (ws : List ℕ) (a b c : ℕ) → get_elem? ws 0 ≡ some a → get_elem? ws 1 ≡ some b → get_elem? ws 2 ≡ some c
    → (i : ℕ) → i < 3 → slice_index (a ∷ b ∷ c ∷ []) i ≡ slice_index ws i
three_read ws a b c at at' at'' zero l = read_at ws 0 a at
three_read ws a b c at at' at'' (suc zero) l = read_at ws 1 b at'
three_read ws a b c at at' at'' (suc (suc zero)) l = read_at ws 2 c at''
three_read ws a b c at at' at'' (suc (suc (suc i))) l = absurd (omega arith)
