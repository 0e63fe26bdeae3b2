-- Events that count from an alarm: what its coming changes, and what it doesn't.
use Rattle.std.proofs.Common.{◌≡◌, ℕ, ◌+◌, ◌-◌, ◌≤◌, ◌<◌, nat_le, max, min, Bool, true, false, Option, Some, None, refl, sym, ◌∙◌, arith}
use Rattle.std.proofs.Math.Nat.{le-max_left}
use Rattle.std.proofs.lemmas.Grind.{common_steps}
use Rattle.agc_plan.specs.declared.reply.Alarm.{Alarm}
use Rattle.agc_plan.specs.declared.reply.Alarm.TheVariants.{A1201, A1202, A1203}
use Rattle.agc_clock.specs.declared.alarms.Alarms.{Alarms}
use Rattle.agc_clock.specs.declared.times.TheConstants.{LAST_TIME}
use Rattle.agc_clock.specs.Alarms.{came, first_came, first_or, never, times_after}
use Rattle.agc_clock.specs.Coming.{Coming, comes}

not_yet : (time at : ℕ) → time < at → nat_le at time ≡ false
not_yet time at lt = grind (arith, common_steps)

never_comes : (time : ℕ) → comes never time ≡ false
never_comes time = go (nat_le 1 time) refl where
  go : (b : Bool) → nat_le 1 time ≡ b → comes never time ≡ false
  go true is = let late : nat_le time 0 ≡ false = grind (arith, common_steps) in rw (is, late) refl
  go false is = rw is refl

-- the alarm's own time is before all of its events
later_alone : (times : Coming) (first time : ℕ) → time ≤ first → comes (times_after (Some first) times) time ≡ false
later_alone times first time le = go (nat_le (first + max 1 times.at) LAST_TIME) refl where
  go : (b : Bool) → nat_le (first + max 1 times.at) LAST_TIME ≡ b → comes (times_after (Some first) times) time ≡ false
  go true is =
      let more : 1 ≤ max 1 times.at = le-max_left 1 times.at in
      let late : nat_le (first + max 1 times.at) time ≡ false = not_yet time (first + max 1 times.at) (omega arith) in
      rw (is, late) refl
  go false is = rw is (never_comes time)

same_by : (times : Coming) (first : Option ℕ) (now time : ℕ) → time ≤ now → comes (times_after (first_or first now) times) time ≡ comes (times_after first times) time
same_by times None now time le = later_alone times now time le ∙ sym (never_comes time)
same_by times (Some first) now time le = refl

pub nothing_moved : (times : Coming) (code : Alarm) (alarm : Option Alarm) (alarms : Alarms) (now time : ℕ) → time ≤ now → comes (times_after (first_came code (came alarm now alarms)) times) time ≡ comes (times_after (first_came code alarms) times) time
nothing_moved times code None alarms now time le = refl
nothing_moved times A1201 (Some A1201) alarms now time le = same_by times alarms.a1201 now time le
nothing_moved times A1201 (Some A1202) alarms now time le = refl
nothing_moved times A1201 (Some A1203) alarms now time le = refl
nothing_moved times A1202 (Some A1201) alarms now time le = refl
nothing_moved times A1202 (Some A1202) alarms now time le = same_by times alarms.a1202 now time le
nothing_moved times A1202 (Some A1203) alarms now time le = refl
nothing_moved times A1203 (Some A1201) alarms now time le = refl
nothing_moved times A1203 (Some A1202) alarms now time le = refl
nothing_moved times A1203 (Some A1203) alarms now time le = same_by times alarms.a1203 now time le

-- so long after it as after the start
moved_le : (first a b : ℕ) → nat_le (first + a) (first + b) ≡ nat_le a b
moved_le first a b = go (nat_le a b) refl where
  go : (c : Bool) → nat_le a b ≡ c → nat_le (first + a) (first + b) ≡ nat_le a b
  go true is = grind (arith, common_steps)
  go false is = grind (arith, common_steps)

least : (n : ℕ) → 1 ≤ n → max 1 n ≡ n
least n some = grind (arith, common_steps)

fits : (n : ℕ) → n ≤ LAST_TIME → min n LAST_TIME ≡ n
fits n le = grind (arith, common_steps)

in_range : (n : ℕ) → n ≤ LAST_TIME → nat_le n LAST_TIME ≡ true
in_range n le = grind (arith, common_steps)

moved_less : (first a b : ℕ) → (first + b) - (first + a) ≡ b - a
moved_less first a b = omega arith

pub as_long_after : (times : Coming) (first after : ℕ) → 1 ≤ times.at → 1 ≤ times.until → first + times.at ≤ LAST_TIME → first + times.until ≤ LAST_TIME → comes (times_after (Some first) times) (first + after) ≡ comes times after
as_long_after times first after at until room more =
    rw (least times.at at, least times.until until, in_range (first + times.at) room, fits (first + times.until) more, moved_le first times.at after, moved_le first after times.until, moved_less first times.at after) refl
