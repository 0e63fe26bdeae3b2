-- The page of a document.
use Rattle.std.specs.Prelude.{◌≡◌, ℕ, List, ◌++◌, Option, Result, Ok, Err, true, false, Bool}
use Rattle.std.specs.Io.KnownBytes.{Appends}
use Rattle.agc_text.specs.Writing.{AppendsFront}
use Rattle.agc_session.specs.declared.run_fault.RunFault.{RunFault}
use Rattle.agc_session.specs.declared.run_fault.RunFault.TheVariants as fault
use Rattle.agc_watch.specs.Data.{IsData}
use Rattle.agc_watch.specs.declared.page.TheConstants.{OPENING, CLOSING, CHART_CLOSING}
use Rattle.agc_watch.specs.declared.page.PageView.{PageView}
use Rattle.agc_watch.specs.declared.page.PageView.TheVariants as view

-- a workbench is this front, which ends with the opening tag of its element for a document, and
-- then what begins with the closing tag
pub record IsWorkbench (workbench front : List ℕ) : Type 0 where
  pub before : List ℕ
  pub opened : front ≡ before ++ OPENING.now
  pub closed : workbench ≡ front ++ CLOSING.now

-- what comes right after the document's data
abbrev pub closing_of : PageView → List ℕ
closing_of view.Whole = CLOSING.now
closing_of view.Chart = CHART_CLOSING.now

-- the page is the workbench, with data of the document at that place, and opens in this view
pub record IsPage (opens : PageView) (workbench document page : List ℕ) : Type 0 where
  pub front : List ℕ
  pub inner : List ℕ
  pub parted : IsWorkbench workbench front
  pub holds : IsData document inner
  pub whole : page ≡ front ++ (inner ++ closing_of opens)

-- a page was written and nothing else; where a write failed, a front of one; and nothing where
-- there was no memory, or what should be a workbench is none
abbrev pub WritesPage : PageView → Option (List ℕ) → Option (List ℕ) → List ℕ → List ℕ
    → Result Bool RunFault → Type 0
WritesPage opens old new workbench document (Ok true) =
    (page : List ℕ) × IsPage opens workbench document page × Appends old new page
WritesPage opens old new workbench document (Ok false) =
    (new ≡ old) × ((front : List ℕ) → IsWorkbench workbench front → ⊥)
WritesPage opens old new workbench document (Err fault.NoMemory) = new ≡ old
WritesPage opens old new workbench document (Err fault.Output) =
    (page : List ℕ) × IsPage opens workbench document page × AppendsFront old new page
WritesPage opens old new workbench document (Err why) = ⊥
