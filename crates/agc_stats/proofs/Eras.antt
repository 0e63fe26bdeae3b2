-- The statistics of an era, with one request more.
use Rattle.std.proofs.Common.{◌≡◌, ℕ, ◌+◌, ◌-◌, ◌^◌, ◌<◌, ◌==◌, nat_lt, max, min, Bool, true, false, cond, List, [], ◌∷◌, ◌++◌, length, refl, sym, ap, ◌∙◌, inl, inr, arith}
use Rattle.std.specs.List.{sum_by}
use Rattle.std.proofs.lemmas.Bool.{cases_lt, eq-eqb}
use Rattle.std.proofs.lemmas.Grind.{common_steps}
use Rattle.std.proofs.lemmas.List.{length_push, map-append}
use Rattle.std.proofs.lemmas.List.Sums.{sum_by-append}
use Rattle.agc_stats.specs.Eras.{IsEra, Level, counted, fewer_sets, greatest, higher, is_idle, levels, more_sets, peak_of, since}
use Rattle.agc_stats.specs.declared.era.EraStatistics.{EraStatistics}
use Rattle.agc_stats.specs.declared.era.Peak.{Peak}
use Rattle.agc_stats.specs.declared.era.ServedRequest.{ServedRequest}
use Rattle.agc_stats.specs.declared.occupancy.Occupancy.{Occupancy}

pub counted_more : (a b : ℕ) → min (counted a + b) (2 ^ 64 - 1) ≡ counted (a + b)
counted_more a b = elim (cases_lt a (2 ^ 64 - 1)) [
  | inl low ↦
      let same : min a (2 ^ 64 - 1) ≡ a = grind (arith, common_steps) in
      rw same refl
  | inr high ↦
      let most : min a (2 ^ 64 - 1) ≡ 2 ^ 64 - 1 = grind (arith, common_steps) in
      let one : min ((2 ^ 64 - 1) + b) (2 ^ 64 - 1) ≡ 2 ^ 64 - 1 = grind (arith, common_steps) in
      let other : min (a + b) (2 ^ 64 - 1) ≡ 2 ^ 64 - 1 = grind (arith, common_steps) in
      rw (most, one, other) refl
]

pub pushed : {X : Type 0} (f : X → ℕ) (records : List X) (r : X) → sum_by f (records ++ r ∷ []) ≡ sum_by f records + f r
pushed f records r = sum_by-append f records (r ∷ []) ∙ (omega arith)

pub sum_more : {X : Type 0} (f : X → ℕ) (records : List X) (r : X) → min (counted (sum_by f records) + f r) (2 ^ 64 - 1) ≡ counted (sum_by f (records ++ r ∷ []))
sum_more f records r = counted_more (sum_by f records) (f r) ∙ ap counted (sym (pushed f records r))

sum_more_from : {X : Type 0} (f : X → ℕ) (first : ℕ) (records : List X) (r : X) → min (counted (first + sum_by f records) + f r) (2 ^ 64 - 1) ≡ counted (first + sum_by f (records ++ r ∷ []))
sum_more_from f first records r =
    let all : sum_by f (records ++ r ∷ []) ≡ sum_by f records + f r = pushed f records r in
    let same : first + sum_by f records + f r ≡ first + sum_by f (records ++ r ∷ []) = omega arith in
    counted_more (first + sum_by f records) (f r) ∙ ap counted same

-- a sum to which a number is added
pub more : (a b : ℕ) → a ≡ b → (c : ℕ) → min (a + c) (2 ^ 64 - 1) ≡ min (b + c) (2 ^ 64 - 1)
more a b is c = ap (λ (n : ℕ). min (n + c) (2 ^ 64 - 1)) is

pub added : {X : Type 0} (f : X → ℕ) (all : List X) (x : X) (old n result : ℕ) → result ≡ min (old + n) (2 ^ 64 - 1) → n ≡ f x → old ≡ counted (sum_by f all) → result ≡ counted (sum_by f (all ++ x ∷ []))
added f all x old n result sum is before =
    sum ∙ ap (λ (k : ℕ). min (old + k) (2 ^ 64 - 1)) is ∙ more old _ before (f x) ∙ sum_more f all x

pub added_from : {X : Type 0} (f : X → ℕ) (first : ℕ) (all : List X) (x : X) (old n result : ℕ) → result ≡ min (old + n) (2 ^ 64 - 1) → n ≡ f x → old ≡ counted (first + sum_by f all) → result ≡ counted (first + sum_by f (all ++ x ∷ []))
added_from f first all x old n result sum is before =
    sum ∙ ap (λ (k : ℕ). min (old + k) (2 ^ 64 - 1)) is ∙ more old _ before (f x) ∙ sum_more_from f first all x

-- one level more
greatest_more : (ls : List Level) (l : Level) → greatest (ls ++ l ∷ []) ≡ max (greatest ls) l.count
greatest_more [] l = grind (arith, common_steps)
greatest_more (first ∷ ls) l =
    let rest = greatest_more ls l in
    grind (arith, common_steps)

since_old : (ls : List Level) (l : Level) (count : ℕ) → count ≡ greatest ls → 0 < count → since count (ls ++ l ∷ []) ≡ since count ls
since_old [] l count is some = absurd (omega arith)
since_old (first ∷ ls) l count is some = go (first.count == count) refl (λ same. since_old ls l count same some) where
  go : (b : Bool) → (first.count == count) ≡ b → (count ≡ greatest ls → since count (ls ++ l ∷ []) ≡ since count ls) → since count (first ∷ (ls ++ l ∷ [])) ≡ since count (first ∷ ls)
  go true q rest = rw q refl
  go false q rest =
      let same : count ≡ greatest ls = grind (arith, common_steps) in
      rw q (rest same)

since_new : (ls : List Level) (l : Level) (count : ℕ) → count ≡ l.count → greatest ls < count → since count (ls ++ l ∷ []) ≡ l.time
since_new [] l count is more = rw (eq-eqb l.count count (sym is)) refl
since_new (first ∷ ls) l count is more =
    let other : (first.count == count) ≡ false = grind (arith, common_steps) in
    let rest : greatest ls < count = grind (arith, common_steps) in
    rw other (since_new ls l count is rest)

abbrev peak_at : ℕ → ℕ → Peak
peak_at count time = record { count = count; since = time }

same_since : (ls : List Level) (l : Level) (b : Bool) → (greatest ls == 0) ≡ b → cond (greatest ls == 0) 0 (since (greatest ls) ls) ≡ cond (greatest ls == 0) 0 (since (greatest ls) (ls ++ l ∷ []))
same_since ls l true z = rw z refl
same_since ls l false z =
    let some : 0 < greatest ls = grind (arith, common_steps) in
    rw (z, since_old ls l (greatest ls) refl some) refl

peak_more : (ls : List Level) (l : Level) → higher l.count l.time (peak_of ls) ≡ peak_of (ls ++ l ∷ [])
peak_more ls l = go (nat_lt (greatest ls) l.count) refl where
  go : (b : Bool) → nat_lt (greatest ls) l.count ≡ b → higher l.count l.time (peak_of ls) ≡ peak_of (ls ++ l ∷ [])
  go true q =
      let more : greatest ls < l.count = grind (arith, common_steps) in
      let most : greatest (ls ++ l ∷ []) ≡ l.count = greatest_more ls l ∙ grind (arith, common_steps) in
      let some : (l.count == 0) ≡ false = grind (arith, common_steps) in
      rw (q, most, some, since_new ls l l.count refl more) refl
  go false q =
      let most : greatest (ls ++ l ∷ []) ≡ greatest ls = greatest_more ls l ∙ grind (arith, common_steps) in
      rw (q, most) (ap (peak_at (greatest ls)) (same_since ls l (greatest ls == 0) refl))

levels_more : (table : Occupancy → ℕ) (began : ℕ) (first : Occupancy) (records : List ServedRequest) (r : ServedRequest) → levels table began first (records ++ r ∷ []) ≡ levels table began first records ++ record { count = table r.left; time = r.time } ∷ []
levels_more table began first records r = ap (λ (ls : List Level). record { count = table first; time = began } ∷ ls) (map-append (λ (s : ServedRequest). record { count = table s.left; time = s.time }) records (r ∷ []))

table_more : (table : Occupancy → ℕ) (began : ℕ) (first : Occupancy) (records : List ServedRequest) (r : ServedRequest) (old : Peak) → old ≡ peak_of (levels table began first records) → higher (table r.left) r.time old ≡ peak_of (levels table began first (records ++ r ∷ []))
table_more table began first records r old is =
    ap (higher (table r.left) r.time) is
    ∙ peak_more (levels table began first records) (record { count = table r.left; time = r.time })
    ∙ ap peak_of (sym (levels_more table began first records r))

-- the count of a peak, with one request more, and as an era begins
pub count_more : (table : Occupancy → ℕ) (began : ℕ) (first : Occupancy) (records : List ServedRequest) (r : ServedRequest) (old new : Peak) → old ≡ peak_of (levels table began first records) → new ≡ peak_of (levels table began first (records ++ r ∷ [])) → new.count ≡ max old.count (table r.left)
count_more table began first records r old new before is =
    ap (λ (p : Peak). p.count) is
    ∙ ap greatest (levels_more table began first records r)
    ∙ greatest_more (levels table began first records) (record { count = table r.left; time = r.time })
    ∙ ap (λ (p : Peak). max p.count (table r.left)) (sym before)

pub count_first : (table : Occupancy → ℕ) (began : ℕ) (first : Occupancy) (new : Peak) → new ≡ peak_of (levels table began first []) → new.count ≡ table first
count_first table began first new is =
    let same : max (table first) 0 ≡ table first = grind (arith, common_steps) in
    ap (λ (p : Peak). p.count) is ∙ same

-- all numbers of an era
pub record IsOneMore (r : ServedRequest) (old new : EraStatistics) : Type 0 where
  pub began_is : new.began ≡ old.began
  pub requests_is : new.requests ≡ min (old.requests + 1) (2 ^ 64 - 1)
  pub begun_is : new.jobs_begun ≡ min (old.jobs_begun + more_sets r) (2 ^ 64 - 1)
  pub ended_is : new.jobs_ended ≡ min (old.jobs_ended + fewer_sets r) (2 ^ 64 - 1)
  pub sets_is : new.sets ≡ higher r.left.sets r.time old.sets
  pub areas_is : new.areas ≡ higher r.left.areas r.time old.areas
  pub tasks_is : new.tasks ≡ higher r.left.tasks r.time old.tasks
  pub idle_is : new.idle ≡ min (old.idle + cond (is_idle r) 1 0) (2 ^ 64 - 1)

pub one_more : (began : ℕ) (first : Occupancy) (records : List ServedRequest) (r : ServedRequest) (old new : EraStatistics) → IsEra began first records old → IsOneMore r old new → IsEra began first (records ++ r ∷ []) new
one_more began first records r old new era is = record {
  began_is = is.began_is ∙ era.began_is;
  requests_is = is.requests_is ∙ more old.requests _ era.requests_is 1 ∙ counted_more (length records) 1 ∙ ap counted (sym (length_push records r));
  begun_is = is.begun_is ∙ more old.jobs_begun _ era.begun_is (more_sets r) ∙ sum_more_from more_sets first.sets records r;
  ended_is = is.ended_is ∙ more old.jobs_ended _ era.ended_is (fewer_sets r) ∙ sum_more fewer_sets records r;
  sets_is = is.sets_is ∙ table_more (λ (o : Occupancy). o.sets) began first records r old.sets era.sets_is;
  areas_is = is.areas_is ∙ table_more (λ (o : Occupancy). o.areas) began first records r old.areas era.areas_is;
  tasks_is = is.tasks_is ∙ table_more (λ (o : Occupancy). o.tasks) began first records r old.tasks era.tasks_is;
  idle_is = is.idle_is ∙ more old.idle _ era.idle_is (cond (is_idle r) 1 0) ∙ sum_more (λ (s : ServedRequest). cond (is_idle s) 1 0) records r;
}
