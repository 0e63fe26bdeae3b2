-- When a row of stolen time that comes again holds.
use Rattle.std.proofs.Common.{◌≡◌, ℕ, ◌+◌, ◌-◌, ◌*◌, ◌%◌, ◌<◌, ◌==◌, nat_le, nat_lt, true, false, ◌&&◌, refl, ap, ◌∙◌, arith}
use Rattle.std.proofs.lemmas.Grind.{common_steps}
use Rattle.std.proofs.lemmas.Nat.{mod-mul-add}
use Rattle.agc_clock.specs.declared.timetable.Stolen.{Stolen}
use Rattle.agc_clock.specs.Laws.{comes_at}
use Rattle.agc_clock.specs.Timetables.{holds}

held : (row : Stolen) (time after first : ℕ) → nat_le row.from time ≡ true → (row.every == 0) ≡ false → (time - row.from) % row.every ≡ after → time - after ≡ first → holds row time ≡ (nat_lt after (row.to - row.from) && nat_le first row.until)
held row time after first begun again since is = rw (begun, again, since, is) refl

again : (n after : ℕ) → after < n → (n == 0) ≡ false
again n after lt = grind (arith, common_steps)

since : (begins p after : ℕ) → begins + p + after - begins ≡ p + after
since begins p after = omega arith

first : (m after : ℕ) → m + after - after ≡ m
first m after = omega arith

later : (m p after : ℕ) → nat_le m (m + p + after) ≡ true
later m p after = grind (arith, common_steps)

pub comes_again : (row : Stolen) (k after : ℕ) → after < row.every → holds row (comes_at row k + after) ≡ (nat_lt after (row.to - row.from) && nat_le (comes_at row k) row.until)
comes_again row k after lt =
    held row (comes_at row k + after) after (comes_at row k) (later row.from (k * row.every) after) (again row.every after lt)
    (ap (λ n. n % row.every) (since row.from (k * row.every) after) ∙ mod-mul-add k row.every after lt)
    (first (comes_at row k) after)
