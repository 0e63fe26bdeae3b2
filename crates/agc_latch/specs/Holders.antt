-- Helpers of proofs: what stands behind a device and a taker.
use Rattle.std.specs.Prelude.{◌≡◌, ℕ, ◌+◌, List, [], length}
use Rattle.atomic_table.specs.Seated.{TableId}
use Rattle.agc_latch.specs.declared.views.Role.TheVariants.{Takes}
use Rattle.agc_plan.specs.declared.line.Line.TheVariants.{Timer, Key, Radar}
use Rattle.agc_latch.specs.Lines.{on}
use Rattle.agc_latch.specs.Steps.{Seated}
use Rattle.agc_latch.specs.Ends.{Taking}

-- a taker to which devices come back: besides, how many are back, and what these posted per line
pub record Joining : Type 0 where
  pub latch : TableId
  pub taken : List ℕ
  pub takes : List ℕ
  pub given : ℕ
  pub back : ℕ
  pub posted : List ℕ

-- the seat that a taker holds is the taker's
pub record IsTaker (me : Seated) : Type 0 where
  pub role : me.0.role ≡ Takes
  pub slots : me.1 ≡ []
  pub wide : length me.0.taken ≡ 3
  pub takes_wide : length me.0.takes ≡ 3

-- each line was taken as often
abbrev pub IsRoundDone : List ℕ → Type 0
IsRoundDone takes = (on Timer takes ≡ on Key takes) × (on Key takes ≡ on Radar takes)

-- the taker after it gave out one more device
abbrev pub with_one_given : Taking → Taking
with_one_given t = record t { given = t.given + 1 }

-- which latch it is where nobody says
abbrev pub no_latch : TableId
no_latch = record {
  words = 0;
  slots = 0;
  views_name = 0;
  atom = 0;
  block = 0;
  offset = 0;
  slot_names = [];
}
