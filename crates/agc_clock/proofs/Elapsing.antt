-- The time that passes from one clock to another.
use Rattle.std.proofs.Common.{◌≡◌, ℕ, ◌+◌, ◌-◌, ◌*◌, ◌<◌, ◌==◌, Bool, true, false, cond, Option, Some, None, is_some, refl, sym, ap, ◌∙◌, arith}
use Rattle.std.proofs.lemmas.Bool.{eqb-true}
use Rattle.agc_plan.specs.Jobs.{Jobs}
use Rattle.agc_clock.specs.declared.asked.Asked.{Asked}
use Rattle.agc_clock.specs.declared.counting.JobCost.{JobCost}
use Rattle.agc_clock.specs.Clocks.{Clocked}
use Rattle.agc_clock.specs.Counts.{worker_of}
use Rattle.agc_clock.specs.Elapsing.{computes, elapsed_between}
use Rattle.agc_clock.specs.Timetables.{Schedule}

-- all that was left, and what is stolen of the next centisecond
pub up_to_a_tick : (b : Bool) (old new : Clocked) (left idle stolen : ℕ) → left ≡ old.left → (b ≡ true → idle ≡ 0) → (b ≡ false → idle ≡ left) → stolen ≡ cond (old.time == new.time) 0 (100 - new.left) → (100 * old.time + new.left) + stolen ≡ 100 * new.time → record { computed = left - idle; stolen = stolen; idle = idle } ≡ elapsed_between b old new
up_to_a_tick b old new left idle stolen before all none is time = go b refl where
  given : cond (old.time == new.time) (old.left - new.left) old.left ≡ left
  given = by (old.time == new.time) refl where
    by : (within : Bool) → (old.time == new.time) ≡ within → cond within (old.left - new.left) old.left ≡ left
    by true q =
        let stolen_is : stolen ≡ 0 = is ∙ ap (λ (w : Bool). cond w 0 (100 - new.left)) q in
        let same : old.time ≡ new.time = eqb-true old.time new.time q in
        omega arith
    by false q = sym before

  go : (c : Bool) → b ≡ c → record { computed = left - idle; stolen = stolen; idle = idle } ≡ elapsed_between b old new
  go true q =
      let zero : idle ≡ 0 = all q in
      let computed : left - idle ≡ left = omega arith in
      rw (q, given, sym is, computed, zero) refl
  go false q =
      let same : idle ≡ left = none q in
      let computed : left - idle ≡ 0 = omega arith in
      rw (q, given, sym is, computed, same) refl

-- what is left after the work was given to nobody
pub nobody : (table : Schedule) (jobs : Jobs) (result : Option Asked) (left : ℕ) → (computes table jobs ≡ true → result ≡ None → left ≡ 0) → result ≡ None → 0 < left → worker_of table.costs jobs ≡ None
nobody table jobs result left worked none some = go (worker_of table.costs jobs) refl where
  go : (o : Option JobCost) → worker_of table.costs jobs ≡ o → worker_of table.costs jobs ≡ None
  go None q = q
  go (Some w) q = absurd (let zero = worked (ap (λ (o : Option JobCost). is_some o) q) none in omega arith)
