-- The words of a machine: lawful, tidy, placed, and standing for what base and log reach.
use Rattle.std.specs.Prelude.{◌≡◌, ℕ, false, List}
use Rattle.agc_word.specs.Layout.{IsSized, sets_in, padded}
use Rattle.agc_plan.specs.Steps.{Plain}
use Rattle.agc_plan.specs.Tasks.{StandsFor}
use Rattle.agc_exec.specs.Image.{jobs_in, entries_in}
use Rattle.agc_exec.specs.Image as cores
use Rattle.agc_wait.specs.Table.{waits_of}
use Rattle.agc_wait.specs.Table as table
use Rattle.agc_wait.specs.Waits.{is_due}
use Rattle.agc_phase.specs.Image.{base_of}
use Rattle.agc_phase.specs.Image as phases
use Rattle.agc_machine.specs.Machines.{Machined, IsLawful, plain_of, places_of}

-- lawful words: each table's part is
pub record AreLawful (words : List ℕ) : Type 0 where
  pub size : IsSized words
  pub cores : cores.IsLawfulWords words
  pub waits : table.IsLawfulTable words
  pub phases : phases.IsLawfulTable words

-- lawful words between two requests: no task is due
pub record IsLawfulImage (words : List ℕ) : Type 0 where
  pub tables : AreLawful words
  pub none_due : is_due (waits_of words) ≡ false

-- MODE and PUSHLOC of each job are 00000, and no gap is written as minus zero
pub record IsTidyImage (words : List ℕ) : Type 0 where
  pub cores : cores.IsTidy words
  pub waits : table.IsTidy words

-- the words stand for these jobs, tasks, phases and codes
pub record WordsStandFor (words : List ℕ) (plain : Plain) : Type 0 where
  pub jobs : jobs_in words ≡ plain.work.jobs
  pub tasks : StandsFor (waits_of words) plain.work.agenda
  pub base : base_of words ≡ plain.base

-- the words of this machine, which is lawful: they have as many core sets, and stand for what its
-- base and log reach, with the jobs in the core sets of their placement
pub record IsImage (m : Machined) (words : List ℕ) : Type 0 where
  pub machine : IsLawful m
  pub sets : sets_in words ≡ m.plan.sets
  pub lawful : IsLawfulImage words
  pub tidy : IsTidyImage words
  pub placed : entries_in words ≡ places_of m
  pub stands : WordsStandFor words (plain_of m)

-- these are all words of a machine, and 00000 in the places of a core set that it doesn't have
pub record HandsOut (m : Machined) (words : List ℕ) : Type 0 where
  pub own : List ℕ
  pub image : IsImage m own
  pub all : words ≡ padded own
