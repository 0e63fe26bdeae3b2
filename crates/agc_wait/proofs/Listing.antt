-- What a listing does to the agenda.
use Rattle.std.proofs.Common.{◌≡◌, ℕ, ◌<◌, ◌≤◌, nat_lt, Bool, true, false, cond, List, length, refl, ap, sym, subst, ◌∙◌, arith}
use Rattle.std.specs.List.{insert}
use Rattle.std.proofs.lemmas.Grind.{common_steps}
use Rattle.agc_word.specs.Layout.{Keeps, OutsideWaitlist}
use Rattle.agc_word.proofs.Keeping.{kept}
use Rattle.agc_plan.specs.declared.request.Task.{Task}
use Rattle.agc_plan.specs.Tasks.{Waiting, Agenda, StandsFor, has_room, listed}
use Rattle.agc_wait.specs.Waits.{place_for, due_now}
use Rattle.agc_wait.specs.Table.{IsLawfulTable, waits_of}
use Rattle.agc_wait.specs.Writing.{IsPut}
use Rattle.agc_wait.specs.Moving.{IsSpot}
use Rattle.agc_wait.specs.Calls.{Lists}
use Rattle.agc_wait.proofs.Distances.{StandsFor-length, StandsFor-listed}
use Rattle.agc_wait.proofs.Dues.{due_now-insert}
use Rattle.agc_wait.proofs.Standing.{shown}
use Rattle.agc_wait.proofs.Tables.{Carries, waits_of-carried, IsLawfulTable-carried}
use Rattle.agc_wait.proofs.Spots.{spot-within}
use Rattle.agc_wait.proofs.Putting.{Stands, Puts, put-is, put-outside, Carries-put, IsTidy-put}

below : (k : ℕ) → k < 9 → nat_lt k 9 ≡ true
below k lt = grind (arith, common_steps)

past : (k : ℕ) → 9 ≤ k → nat_lt k 9 ≡ false
past k le = grind (arith, common_steps)

-- nine wait
pub lists-full : (delay : ℕ) (task : Task) (old : List ℕ) → IsLawfulTable old → 8 < length (waits_of old) → Lists delay task old false old
lists-full delay task old lawful nine = record {
  shown = shown old lawful;
  room = λ agenda stands. sym (none agenda stands);
  listed = λ agenda stands. subst (λ (b : Bool). StandsFor (waits_of old) (cond b (listed delay task agenda) agenda)) (sym (none agenda stands)) stands;
  same_due = refl;
  lawful = lawful;
  tidy = λ tidy. tidy;
  others = kept OutsideWaitlist old;
  words = λ e. absurd (cc);
  unchanged = λ e. refl;
}
  where
    none : (agenda : Agenda) → StandsFor (waits_of old) agenda → has_room agenda ≡ false
    none agenda stands =
        let n : length agenda.tasks ≡ length (waits_of old) = StandsFor-length (waits_of old) agenda stands in
        past (length agenda.tasks) (omega arith)

-- fewer wait
pub lists-put : (delay : ℕ) (task : Task) (old new : List ℕ) → IsLawfulTable old → length (waits_of old) ≤ 8 → 1 ≤ delay → delay ≤ 16250 → 1 ≤ task.at → task.at ≤ 16383 → task.bank < 32768 → IsPut (place_for delay (waits_of old)) delay task old new → Keeps OutsideWaitlist old new → Lists delay task old true new
lists-put delay task old new lawful few far near low high word put others =
    let w : Waiting = record { task = task; distance = delay } in
    let carried : Carries new (insert (waits_of old) (place_for delay (waits_of old)) (record { task = task; distance = delay })) =
    Carries-put old new (record { task = task; distance = delay }) (place_for delay (waits_of old)) lawful few refl near put low high word in
    let is : waits_of new ≡ insert (waits_of old) (place_for delay (waits_of old)) (record { task = task; distance = delay }) = waits_of-carried new _ carried in
    record {
      shown = shown old lawful;
      room = λ agenda stands. sym (some agenda stands);
      listed = λ agenda stands.
          subst (λ (b : Bool). StandsFor (waits_of new) (cond b (listed delay task agenda) agenda)) (sym (some agenda stands))
          (rw is (StandsFor-listed (waits_of old) (record { task = task; distance = delay }) agenda stands));
      same_due = ap due_now is ∙ due_now-insert (record { task = task; distance = delay }) (waits_of old) (place_for delay (waits_of old)) far;
      lawful = IsLawfulTable-carried new _ carried;
      tidy = IsTidy-put old new (record { task = task; distance = delay }) (place_for delay (waits_of old)) lawful few refl near put;
      others = others;
      words = λ e. put;
      unchanged = λ e. absurd (cc);
    }
  where
    some : (agenda : Agenda) → StandsFor (waits_of old) agenda → has_room agenda ≡ true
    some agenda stands =
        let n : length agenda.tasks ≡ length (waits_of old) = StandsFor-length (waits_of old) agenda stands in
        below (length agenda.tasks) (omega arith)

-- by the writes, one after another
pub lists-by : (delay d : ℕ) (task : Task) (old put e new : List ℕ) (p : ℕ) (there : Bool) (b a : ℕ) → d ≡ delay → (1 ≤ delay) × (delay ≤ 16250) → IsLawfulTable old → length (waits_of old) ≤ 8 → Stands old p there → IsSpot (waits_of old) d p b a → 1 ≤ task.at → task.at ≤ 16383 → task.bank < 32768 → Puts old put e new task p there d b a → length new ≡ length old → Lists delay task old true new
lists-by delay d task old put e new p there b a is range lawful room stands spot low high word by len =
    let place : p ≡ place_for d (waits_of old) = spot.place_is in
    let low_d : 1 ≤ delay = range.0 in
    let high_d : delay ≤ 16250 = range.1 in
    let within : p ≤ length (waits_of old) = spot-within (waits_of old) d p b a spot in
    let small : p ≤ 8 = omega arith in
    let fits : there ≡ true → p ≤ 7 = λ is. (let some : p < length (waits_of old) = stands.some is in omega arith) in
    let words : IsPut p d task old new = put-is old put e new task p there d b a by small fits lawful stands spot in
    subst (λ x. Lists x task old true new) is
    (lists-put d task old new lawful room (omega arith) (omega arith) low high word (subst (λ x. IsPut x d task old new) place words)
    (record { same_length = len; words = put-outside old put e new task p there d b a by small fits }))
