-- Devices and takers, as contracts see them.
use Rattle.std.specs.Prelude.{◌≡◌, ℕ, ◌+◌, List, [], sum}
use Rattle.atomic_table.specs.Seated.{TableId}
use Rattle.agc_latch.specs.declared.views.Role.TheVariants.{Posts}
use Rattle.agc_plan.specs.declared.line.Line.{Line}
use Rattle.agc_latch.specs.Lines.{raised, zeros}
use Rattle.agc_plan.specs.Pulses.{word_of}
use Rattle.agc_latch.specs.Steps.{Seated}

-- a device: its latch, how many pulses it may post in all, and what it posted per line
pub record Posting : Type 0 where
  pub latch : TableId
  pub posts : ℕ
  pub posted : List ℕ

-- a taker: its latch, what it took per line, how often it took each line, and how many devices
-- were given out under it
pub record Taking : Type 0 where
  pub latch : TableId
  pub taken : List ℕ
  pub takes : List ℕ
  pub given : ℕ

-- a device: its seat has posted as many pulses as the device counts, and this many are left of
-- those that it may post
pub record IsDevice (me : Seated) (posts rest : ℕ) (counts : List ℕ) : Type 0 where
  pub role : me.0.role ≡ Posts
  pub slots : me.1 ≡ []
  pub seats : me.0.seats ≡ 1
  pub posted : me.0.posted ≡ counts
  pub left : sum counts + rest ≡ posts

abbrev pub new_device : TableId → ℕ → Posting
new_device latch posts = record { latch = latch; posts = posts; posted = zeros }

-- the device after one more pulse on a line
abbrev pub with_one_more : Line → Posting → Posting
with_one_more line d = record d { posted = raised (word_of line) 1 d.posted }

abbrev pub new_taker : TableId → Taking
new_taker latch = record { latch = latch; taken = zeros; takes = zeros; given = 0 }
