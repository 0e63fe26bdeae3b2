-- The rows of addresses, with one release or one life more.
use Rattle.std.proofs.Common.{◌≡◌, ◌≢◌, ◌⊎◌, ℕ, ◌+◌, ◌<◌, ◌≤◌, ◌==◌, nat_lt, Bool, true, false, cond, List, [], ◌∷◌, ◌++◌, length, map, get_or, Option, Some, None, refl, sym, ap, subst, ◌∙◌, append-nil, inl, inr, arith}
use Rattle.std.specs.Prelude.{◌||◌, slice_set}
use Rattle.std.specs.List.{AllPairs, fold, list_any, position, position_or_len}
use Rattle.std.specs.List.Sorted.{IsNonDecreasing}
use Rattle.std.proofs.Math.Seq.{map-set_same}
use Rattle.std.proofs.lemmas.Bool.{cases_lt, eq-eqb, eqb-true, ne_eqb}
use Rattle.std.proofs.lemmas.Bool.Decides.{eqb_tells}
use Rattle.std.proofs.lemmas.Grind.{common_steps}
use Rattle.std.proofs.lemmas.List.{get_or_default, length-map, length-set, get_or-map, get_or-set_other, get_or-set_same, map-append}
use Rattle.std.proofs.lemmas.List.Elements.{All-push, filter-append}
use Rattle.std.proofs.lemmas.List.Folds.{list_any-append, list_any_at, list_any_none}
use Rattle.std.proofs.lemmas.List.Quantifiers.{all_pairs_push, position-Some}
use Rattle.std.proofs.lemmas.List.Sums.{fails_before_first, fold_push}
use Rattle.agc_stats.specs.Addresses.{AreRows, IsAddress, IsRow, addresses, lives_at, noted, releases_at}
use Rattle.agc_stats.specs.Eras.{counted}
use Rattle.agc_stats.specs.declared.address_statistics.AddressStatistics.{AddressStatistics}
use Rattle.agc_stats.specs.declared.live_jobs.JobLife.{JobLife}
use Rattle.agc_stats.proofs.Eras.{counted_more, pushed}

-- addresses are distinct
AreDistinct : List ℕ → Type 0
AreDistinct known = AllPairs (λ (x y : ℕ). x ≢ y) known

no_two : AreDistinct []
unfolding AreDistinct
no_two i j d low lt = absurd (omega arith)

noted_once : (known : List ℕ) (at : ℕ) (b : Bool) → list_any (λ (a : ℕ). a == at) known ≡ b → AreDistinct known → AreDistinct (cond b known (known ++ at ∷ []))
unfolding AreDistinct
noted_once known at true e once = once
noted_once known at false e once =
    all_pairs_push (λ (x y : ℕ). x ≢ y) known at once
    (λ k d lt same. let differs : true ≡ false = sym (list_any_at (λ (a : ℕ). a == at) known k d lt (eq-eqb (get_or known k d) at same)) ∙ e in absurd (cc))

all_once : (known releases : List ℕ) → AreDistinct known → AreDistinct (fold noted known releases)
all_once known [] once = once
all_once known (at ∷ releases) once = all_once (noted known at) releases (noted_once known at (list_any (λ (a : ℕ). a == at) known) refl once)

-- what isn't of an address
other : (a at : ℕ) → a ≢ at → (a == at) ≡ false
other a at differs = ne_eqb a at differs

flipped : (a at : ℕ) → a ≢ at → (at == a) ≡ false
flipped a at differs = ne_eqb at a (λ same. differs (sym same))

same_releases : (a at : ℕ) (releases : List ℕ) → a ≢ at → releases_at a (releases ++ at ∷ []) ≡ releases_at a releases
same_releases a at releases differs =
    let more : releases_at a (releases ++ at ∷ []) ≡ releases_at a releases + cond {A = ℕ} (at == a) 1 0 = pushed (λ (x : ℕ). cond (x == a) 1 0) releases at in
    let none : cond {A = ℕ} (at == a) 1 0 ≡ 0 = rw (flipped a at differs) refl in
    omega arith

more_releases : (a at : ℕ) (releases : List ℕ) → a ≡ at → releases_at a (releases ++ at ∷ []) ≡ releases_at a releases + 1
more_releases a at releases is =
    let more : releases_at a (releases ++ at ∷ []) ≡ releases_at a releases + cond {A = ℕ} (at == a) 1 0 = pushed (λ (x : ℕ). cond (x == a) 1 0) releases at in
    let one : cond {A = ℕ} (at == a) 1 0 ≡ 1 = rw (eq-eqb at a (sym is)) refl in
    omega arith

same_lives : (a : ℕ) (life : JobLife) (lives : List JobLife) → a ≢ life.job.at → lives_at a (lives ++ life ∷ []) ≡ lives_at a lives
same_lives a life lives differs =
    filter-append (λ (l : JobLife). l.job.at == a) lives (life ∷ [])
    ∙ ap (λ (b : Bool). lives_at a lives ++ cond b (life ∷ []) []) (flipped a life.job.at differs)
    ∙ append-nil (lives_at a lives)

more_lives : (a : ℕ) (life : JobLife) (lives : List JobLife) → a ≡ life.job.at → lives_at a (lives ++ life ∷ []) ≡ lives_at a lives ++ life ∷ []
more_lives a life lives is =
    filter-append (λ (l : JobLife). l.job.at == a) lives (life ∷ [])
    ∙ ap (λ (b : Bool). lives_at a lives ++ cond b (life ∷ []) []) (eq-eqb life.job.at a (sym is))

-- an address has no row
no_place : (rows : List AddressStatistics) (at : ℕ) → position (λ (r : AddressStatistics). r.at == at) rows ≡ None → list_any (λ (r : AddressStatistics). r.at == at) rows ≡ false
no_place rows at none = go (nat_lt (position_or_len (λ (r : AddressStatistics). r.at == at) rows) (length rows)) refl none where
  go : (b : Bool) → nat_lt (position_or_len (λ (r : AddressStatistics). r.at == at) rows) (length rows) ≡ b → cond b (Some (position_or_len (λ (r : AddressStatistics). r.at == at) rows)) None ≡ None → list_any (λ (r : AddressStatistics). r.at == at) rows ≡ false
  go true e q = absurd (let differs : Some (position_or_len (λ (r : AddressStatistics). r.at == at) rows) ≡ None = q in cc)
  go false e q =
      let far : length rows ≤ position_or_len (λ (r : AddressStatistics). r.at == at) rows = grind (arith, common_steps) in
      list_any_none (λ (r : AddressStatistics). r.at == at) rows (λ k d lt. fails_before_first (λ (r : AddressStatistics). r.at == at) rows k d (omega arith))

not_at : (rows : List AddressStatistics) (at : ℕ) → list_any (λ (r : AddressStatistics). r.at == at) rows ≡ false → (k : ℕ) (d : AddressStatistics) → k < length rows → (get_or rows k d).at ≢ at
not_at rows at none k d lt same =
    let differs : true ≡ false = sym (list_any_at (λ (r : AddressStatistics). r.at == at) rows k d lt (eq-eqb (get_or rows k d).at at same)) ∙ none in
    absurd (cc)

-- a row of another address
row_kept : (deadlines : ℕ → Option ℕ) (releases those : List ℕ) (lives these : List JobLife) (row : AddressStatistics) → releases_at row.at those ≡ releases_at row.at releases → lives_at row.at these ≡ lives_at row.at lives → IsRow deadlines releases lives row → IsRow deadlines those these row
row_kept deadlines releases those lives these row same alike is = record {
  released_is = is.released_is ∙ ap counted (sym same);
  deadline_is = is.deadline_is;
  lives_are = subst (λ (l : List JobLife). IsAddress l row) (sym alike) is.lives_are;
}

-- no two rows have one address
apart : (rows : List AddressStatistics) (k place : ℕ) (d : AddressStatistics) → AreDistinct (map (λ (r : AddressStatistics). r.at) rows) → k < length rows → place < length rows → k ≢ place → (get_or rows k d).at ≢ (get_or rows place d).at
unfolding AreDistinct
apart rows k place d once lt within differs same = elim (cases_lt k place) [
  | inl low ↦ once k place 0 low (rw length-map within) (get_or-map (λ (r : AddressStatistics). r.at) rows k d 0 lt ∙ same ∙ sym (get_or-map (λ (r : AddressStatistics). r.at) rows place d 0 within))
  | inr high ↦ once place k 0 (omega arith) (rw length-map lt) (get_or-map (λ (r : AddressStatistics). r.at) rows place d 0 within ∙ sym same ∙ sym (get_or-map (λ (r : AddressStatistics). r.at) rows k d 0 lt))
]

any_at : (a : ℕ) (rows : List AddressStatistics) → list_any (λ (r : AddressStatistics). r.at == a) rows ≡ list_any (λ (x : ℕ). x == a) (map (λ (r : AddressStatistics). r.at) rows)
any_at a [] = refl
any_at a (r ∷ rows) = ap (λ (b : Bool). (r.at == a) || b) (any_at a rows)

-- one row changes
pub changed : (deadlines : ℕ → Option ℕ) (releases those : List ℕ) (lives these : List JobLife) (rows : List AddressStatistics) (at place : ℕ) (old new : AddressStatistics)
    → AreRows deadlines releases lives rows
    → position (λ (r : AddressStatistics). r.at == at) rows ≡ Some place → old ≡ get_or rows place old → new.at ≡ old.at
    → addresses those ≡ addresses releases
    → ((a : ℕ) → a ≢ at → releases_at a those ≡ releases_at a releases)
    → ((a : ℕ) → a ≢ at → lives_at a these ≡ lives_at a lives)
    → (old.at ≡ at → IsRow deadlines releases lives old → IsRow deadlines those these new)
    → AreRows deadlines those these (slice_set rows place new)
changed deadlines releases those lives these rows at place old new are found is same_at same_addresses same alike turns =
    let found_at = position-Some (λ (r : AddressStatistics). r.at == at) rows place old found in
    let within : place < length rows = found_at.0 in
    let at_is : old.at ≡ at = ap (λ (r : AddressStatistics). r.at) is ∙ eqb-true (get_or rows place old).at at found_at.1 in
    let once : AreDistinct (map (λ (r : AddressStatistics). r.at) rows) = subst AreDistinct (sym are.addresses_are) (all_once [] releases (no_two)) in
    let mapped : map (λ (r : AddressStatistics). r.at) (slice_set rows place new) ≡ map (λ (r : AddressStatistics). r.at) rows =
    map-set_same (λ (r : AddressStatistics). r.at) rows place new old (same_at ∙ ap (λ (r : AddressStatistics). r.at) is) in
    record {
      addresses_are = mapped ∙ are.addresses_are ∙ sym same_addresses;
      each = λ k d lt. each_at within at_is once k d (subst (λ (n : ℕ). k < n) (length-set rows place new) lt) (eqb_tells k place);
      others = λ a none.
          let rest : list_any (λ (r : AddressStatistics). r.at == a) rows ≡ false = any_at a rows ∙ ap (list_any (λ (x : ℕ). x == a)) (sym mapped) ∙ sym (any_at a (slice_set rows place new)) ∙ none in
          let differs : a ≢ at = λ e. not_at rows a rest place old within (ap (λ (r : AddressStatistics). r.at) (sym is) ∙ at_is ∙ sym e) in
          let were = are.others a rest in
          (same a differs ∙ were.0, alike a differs ∙ were.1);
    }
  where
    each_at : place < length rows → old.at ≡ at → AreDistinct (map (λ (r : AddressStatistics). r.at) rows) → (k : ℕ) (d : AddressStatistics) → k < length rows → ((k == place) ≡ true × k ≡ place) ⊎ ((k == place) ≡ false × k ≢ place) → IsRow deadlines those these (get_or (slice_set rows place new) k d)
    each_at within at_is once k d lt (inl w) =
        subst (λ (j : ℕ). IsRow deadlines those these (get_or (slice_set rows place new) j d)) (sym w.1)
        (subst (IsRow deadlines those these) (sym (get_or-set_same rows place new d within))
        (turns at_is (subst (IsRow deadlines releases lives) (sym is) (are.each place old within))))
    each_at within at_is once k d lt (inr w) =
        let there : get_or rows place d ≡ old = get_or_default rows place d old within ∙ sym is in
        let differs : (get_or rows k d).at ≢ at = λ e. apart rows k place d once lt within w.1 (e ∙ sym at_is ∙ ap (λ (r : AddressStatistics). r.at) (sym there)) in
        subst (IsRow deadlines those these) (sym (get_or-set_other rows place k new d w.1))
        (row_kept deadlines releases those lives these (get_or rows k d) (same (get_or rows k d).at differs) (alike (get_or rows k d).at differs) (are.each k d lt))

-- one row changes that has the same releases and lives
pub row_changed : (deadlines : ℕ → Option ℕ) (releases : List ℕ) (lives : List JobLife) (rows : List AddressStatistics) (place : ℕ) (old new : AddressStatistics)
    → AreRows deadlines releases lives rows → place < length rows → old ≡ get_or rows place old → new.at ≡ old.at
    → (IsRow deadlines releases lives old → IsRow deadlines releases lives new)
    → AreRows deadlines releases lives (slice_set rows place new)
row_changed deadlines releases lives rows place old new are within is same_at turns =
    let mapped : map (λ (r : AddressStatistics). r.at) (slice_set rows place new) ≡ map (λ (r : AddressStatistics). r.at) rows =
    map-set_same (λ (r : AddressStatistics). r.at) rows place new old (same_at ∙ ap (λ (r : AddressStatistics). r.at) is) in
    record {
      addresses_are = mapped ∙ are.addresses_are;
      each = λ k d lt. each_at k d (subst (λ (n : ℕ). k < n) (length-set rows place new) lt) (eqb_tells k place);
      others = λ a none. are.others a (any_at a rows ∙ ap (list_any (λ (x : ℕ). x == a)) (sym mapped) ∙ sym (any_at a (slice_set rows place new)) ∙ none);
    }
  where
    each_at : (k : ℕ) (d : AddressStatistics) → k < length rows → ((k == place) ≡ true × k ≡ place) ⊎ ((k == place) ≡ false × k ≢ place) → IsRow deadlines releases lives (get_or (slice_set rows place new) k d)
    each_at k d lt (inl w) =
        subst (λ (j : ℕ). IsRow deadlines releases lives (get_or (slice_set rows place new) j d)) (sym w.1)
        (subst (IsRow deadlines releases lives) (sym (get_or-set_same rows place new d within))
        (turns (subst (IsRow deadlines releases lives) (sym is) (are.each place old within))))
    each_at k d lt (inr w) =
        subst (IsRow deadlines releases lives) (sym (get_or-set_other rows place k new d w.1)) (are.each k d lt)

-- the response times of one row more are in order
pub sorted_more : (rows : List AddressStatistics) (place : ℕ) (new : AddressStatistics) → place < length rows
    → ((k : ℕ) (d : AddressStatistics) → k < place → IsNonDecreasing (get_or rows k d).responses.items) → IsNonDecreasing new.responses.items
    → (k : ℕ) (d : AddressStatistics) → k < place + 1 → IsNonDecreasing (get_or (slice_set rows place new) k d).responses.items
sorted_more rows place new within before its k d lt = go (eqb_tells k place) where
  go : ((k == place) ≡ true × k ≡ place) ⊎ ((k == place) ≡ false × k ≢ place) → IsNonDecreasing (get_or (slice_set rows place new) k d).responses.items
  go (inl w) =
      subst (λ (j : ℕ). IsNonDecreasing (get_or (slice_set rows place new) j d).responses.items) (sym w.1)
      (subst (λ (r : AddressStatistics). IsNonDecreasing r.responses.items) (sym (get_or-set_same rows place new d within)) its)
  go (inr w) =
      let differs : k ≢ place = w.1 in
      subst (λ (r : AddressStatistics). IsNonDecreasing r.responses.items) (sym (get_or-set_other rows place k new d differs)) (before k d (below differs))
    where
      below : k ≢ place → k < place
      below differs = elim (cases_lt k place) [
        | inl low ↦ low
        | inr high ↦ absurd (differs (omega arith))
      ]

-- one row comes
pub joined : (deadlines : ℕ → Option ℕ) (releases : List ℕ) (lives : List JobLife) (rows : List AddressStatistics) (at : ℕ) (new : AddressStatistics)
    → AreRows deadlines releases lives rows → position (λ (r : AddressStatistics). r.at == at) rows ≡ None → new.at ≡ at
    → (releases_at at releases ≡ 0 → lives_at at lives ≡ [] → IsRow deadlines (releases ++ at ∷ []) lives new)
    → AreRows deadlines (releases ++ at ∷ []) lives (rows ++ new ∷ [])
joined deadlines releases lives rows at new are none at_is is =
    let nowhere : list_any (λ (r : AddressStatistics). r.at == at) rows ≡ false = no_place rows at none in
    let were = are.others at nowhere in
    record {
      addresses_are = map-append (λ (r : AddressStatistics). r.at) rows (new ∷ [])
          ∙ ap (λ (l : List ℕ). l ++ new.at ∷ []) are.addresses_are
          ∙ ap (λ (n : ℕ). addresses releases ++ n ∷ []) at_is
          ∙ sym (fold_push noted [] releases at ∙ ap (λ (b : Bool). cond b (addresses releases) (addresses releases ++ at ∷ []))
          (ap (list_any (λ (x : ℕ). x == at)) (sym are.addresses_are) ∙ sym (any_at at rows) ∙ nowhere));
      each = All-push (IsRow deadlines (releases ++ at ∷ []) lives) rows new
          (λ k d lt. row_kept deadlines releases (releases ++ at ∷ []) lives lives (get_or rows k d) (same_releases (get_or rows k d).at at releases (not_at rows at nowhere k d lt)) refl (are.each k d lt))
          (is were.0 were.1);
      others = λ a gone.
          let both : (list_any (λ (r : AddressStatistics). r.at == a) rows || ((new.at == a) || false)) ≡ false = sym (list_any-append (λ (r : AddressStatistics). r.at == a) rows (new ∷ [])) ∙ gone in
          let rest : list_any (λ (r : AddressStatistics). r.at == a) rows ≡ false = neither_of (list_any (λ (r : AddressStatistics). r.at == a) rows) (new.at == a) both in
          let differs : a ≢ at = λ e. last_of (list_any (λ (r : AddressStatistics). r.at == a) rows) (new.at == a) both (eq-eqb new.at a (at_is ∙ sym e)) in
          let had = are.others a rest in
          (same_releases a at releases differs ∙ had.0, had.1);
    }
  where
    neither_of : (p q : Bool) → (p || (q || false)) ≡ false → p ≡ false
    neither_of true q e = absurd (let differs : true ≡ false = e in cc)
    neither_of false q e = refl

    last_of : (p q : Bool) → (p || (q || false)) ≡ false → q ≡ true → ⊥
    last_of true q e r = absurd (let differs : true ≡ false = e in cc)
    last_of false true e r = absurd (let differs : true ≡ false = e in cc)
    last_of false false e r = absurd (let differs : false ≡ true = r in cc)

-- what is known where an address has a row
pub same_addresses : (deadlines : ℕ → Option ℕ) (releases : List ℕ) (lives : List JobLife) (rows : List AddressStatistics) (at place : ℕ) (d : AddressStatistics) → AreRows deadlines releases lives rows → position (λ (r : AddressStatistics). r.at == at) rows ≡ Some place → addresses (releases ++ at ∷ []) ≡ addresses releases
same_addresses deadlines releases lives rows at place d are found =
    let found_at = position-Some (λ (r : AddressStatistics). r.at == at) rows place d found in
    fold_push noted [] releases at ∙ ap (λ (b : Bool). cond b (addresses releases) (addresses releases ++ at ∷ []))
    (ap (list_any (λ (x : ℕ). x == at)) (sym are.addresses_are) ∙ sym (any_at at rows) ∙ list_any_at (λ (r : AddressStatistics). r.at == at) rows place d found_at.0 found_at.1)

-- a row with one release more
pub released_row : (deadlines : ℕ → Option ℕ) (releases : List ℕ) (lives : List JobLife) (at : ℕ) (old new : AddressStatistics) → new ≡ record old { released = counted (old.released + 1) } → old.at ≡ at → IsRow deadlines releases lives old → IsRow deadlines (releases ++ at ∷ []) lives new
released_row deadlines releases lives at old new more at_is is = subst (IsRow deadlines (releases ++ at ∷ []) lives) (sym more) (record {
  released_is = ap (λ (n : ℕ). counted (n + 1)) is.released_is ∙ counted_more (releases_at old.at releases) 1 ∙ ap counted (sym (more_releases old.at at releases at_is));
  deadline_is = is.deadline_is;
  lives_are = record {
    lost_is = is.lives_are.lost_is;
    alive_is = is.lives_are.alive_is;
    preempted_is = is.lives_are.preempted_is;
    computed_is = is.lives_are.computed_is;
    responses_are = is.lives_are.responses_are;
    computed_to_end_is = is.lives_are.computed_to_end_is;
    slept_to_end_is = is.lives_are.slept_to_end_is;
    missed_is = is.lives_are.missed_is;
    first_missed_is = is.lives_are.first_missed_is;
  };
})

-- the row of an address whose first job is released
pub first_row : (deadlines : ℕ → Option ℕ) (releases : List ℕ) (lives : List JobLife) (at : ℕ) (none new : AddressStatistics) → IsAddress [] none → none.at ≡ at → none.released ≡ 0 → none.deadline ≡ deadlines at → new ≡ record none { released = counted (none.released + 1) } → releases_at at releases ≡ 0 → lives_at at lives ≡ [] → IsRow deadlines (releases ++ at ∷ []) lives new
first_row deadlines releases lives at none new empty at_is zero_is deadline_is more no_release no_life =
    released_row deadlines releases lives at none new more at_is (record {
      released_is = zero_is ∙ ap counted (sym (ap (λ (a : ℕ). releases_at a releases) at_is ∙ no_release));
      deadline_is = deadline_is ∙ ap deadlines (sym at_is);
      lives_are = subst (λ (l : List JobLife). IsAddress l none) (sym (ap (λ (a : ℕ). lives_at a lives) at_is ∙ no_life)) empty;
    })

-- a row with one life more
pub life_row : (deadlines : ℕ → Option ℕ) (releases : List ℕ) (lives : List JobLife) (life : JobLife) (old new : AddressStatistics) → ((all : List JobLife) → IsAddress all old → IsAddress (all ++ life ∷ []) new) → new.at ≡ old.at → new.released ≡ old.released → new.deadline ≡ old.deadline → old.at ≡ life.job.at → IsRow deadlines releases lives old → IsRow deadlines releases (lives ++ life ∷ []) new
life_row deadlines releases lives life old new counts same_at same_released same_deadline at_is is = record {
  released_is = same_released ∙ is.released_is ∙ ap (λ (a : ℕ). counted (releases_at a releases)) (sym same_at);
  deadline_is = same_deadline ∙ is.deadline_is ∙ ap deadlines (sym same_at);
  lives_are = subst (λ (l : List JobLife). IsAddress l new) (sym (ap (λ (a : ℕ). lives_at a (lives ++ life ∷ [])) same_at ∙ more_lives old.at life lives at_is)) (counts (lives_at old.at lives) is.lives_are);
}

-- a job that was released has a row
pub has_row : {P : Type 0} (deadlines : ℕ → Option ℕ) (releases : List ℕ) (lives : List JobLife) (rows : List AddressStatistics) (at : ℕ) → AreRows deadlines releases lives rows → position (λ (r : AddressStatistics). r.at == at) rows ≡ None → 0 < releases_at at releases → P
has_row deadlines releases lives rows at are none some =
    let were = are.others at (no_place rows at none) in
    let zero_is : releases_at at releases ≡ 0 = were.0 in
    absurd (omega arith)

pub these_lives : (a : ℕ) (life : JobLife) (lives : List JobLife) → a ≢ life.job.at → lives_at a (lives ++ life ∷ []) ≡ lives_at a lives
these_lives a life lives differs = same_lives a life lives differs

pub those_releases : (a at : ℕ) (releases : List ℕ) → a ≢ at → releases_at a (releases ++ at ∷ []) ≡ releases_at a releases
those_releases a at releases differs = same_releases a at releases differs
