-- Words of seven core sets become words of eight.
use Rattle.std.specs.Prelude.{◌≡◌, ℕ, List, [], ◌∷◌, ◌++◌, None, replicate}
use Rattle.agc_plan.specs.Jobs.{Jobs}
use Rattle.agc_plan.specs.Steps.{Plain}
use Rattle.agc_exec.specs.Image.{minus_zero, entries_in}
use Rattle.agc_machine.specs.Image.{IsLawfulImage, IsTidyImage, WordsStandFor}

-- the same jobs, with a number more, which nobody has
abbrev pub roomier : Jobs → Jobs
roomier jobs = record jobs { slots = jobs.slots ++ None ∷ [] }

-- the same plain state, with a core set more
abbrev pub with_roomier : Plain → Plain
with_roomier plain = record plain { work = record plain.work { jobs = roomier plain.work.jobs } }

-- the old words are kept, and an eighth core set stands behind them, free: PRIORITY, the last of
-- its twelve words, is minus zero; the new words are lawful, and stand for each plain state for
-- which the old ones do, with each job in the set that it had
pub record Migrates (old new : List ℕ) : Type 0 where
  pub words : new ≡ old ++ (replicate 11 0 ++ minus_zero ∷ [])
  pub lawful : IsLawfulImage new
  pub tidy : IsTidyImage old → IsTidyImage new
  pub placed : entries_in new ≡ entries_in old ++ 0 ∷ []
  pub stands : (plain : Plain) → WordsStandFor old plain → WordsStandFor new (with_roomier plain)
