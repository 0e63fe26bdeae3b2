-- How a program ends on its input.
use Rattle.std.specs.Prelude.{◌≡◌, ℕ, ◌⊎◌, List, Option, Result, Err}
use Rattle.toml.specs.Parse.{parse_document}
use Rattle.agc_text.specs.declared.fault.ReadFault.{ReadFault}
use Rattle.agc_text.specs.Faults.{RefusesInput}
use Rattle.agc_text.specs.Input.{ReadsAll}
use Rattle.agc_document.specs.Benches.{Benched, IsBench, bench_texts}
use Rattle.agc_document.specs.Faults.{HasTexts}
use Rattle.agc.specs.declared.fault.ProgramFault.{ProgramFault}
use Rattle.agc.specs.declared.fault.ProgramFault.TheVariants as fault

-- the text is the document of a bench
abbrev pub IsDocument : List ℕ → Benched → Type 0
IsDocument text bench = IsBench bench × HasTexts (parse_document text) (bench_texts bench)

-- input can't be read, and the outcome says why
abbrev pub IsUnread : {T : Type 0} → Option (List ℕ) → Option (List ℕ) → Result T ProgramFault
    → Type 0
IsUnread unread rest outcome =
    (why : ReadFault) × (outcome ≡ Err (fault.Read why)) × RefusesInput unread rest why

-- the input can't be read; or all of it was read, and the program ends as its text says
abbrev pub EndsBy : {T : Type 0}
    → (List ℕ → Option (List ℕ) → Option (List ℕ) → Result T ProgramFault → Type 0)
    → Option (List ℕ) → Option (List ℕ) → Option (List ℕ) → Option (List ℕ)
    → Result T ProgramFault → Type 0
EndsBy runs unread rest old new outcome =
    (IsUnread unread rest outcome × (new ≡ old))
    ⊎ ((text : List ℕ) × ReadsAll unread rest text × runs text old new outcome)

-- a run can end so: for want of a buffer, by a failed flush, or as some input has it
abbrev pub CanEnd : {T : Type 0}
    → (List ℕ → Option (List ℕ) → Option (List ℕ) → Result T ProgramFault → Type 0)
    → Result T ProgramFault → Type 0
CanEnd runs outcome = (outcome ≡ Err fault.NoMemory) ⊎ (outcome ≡ Err fault.Output)
    ⊎ ((unread rest old new : Option (List ℕ)) × EndsBy runs unread rest old new outcome)
