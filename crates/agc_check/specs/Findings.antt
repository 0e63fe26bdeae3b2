-- The findings of a document.
use Rattle.std.specs.Prelude.{◌≡◌, ◌≤◌, ℕ, suc, ◌+◌, ◌==◌, if◌then◌else◌, List, [], ◌∷◌, ◌++◌}
use Rattle.std.specs.Prelude.{length, take, map, min}
use Rattle.std.specs.List.{All}
use Rattle.std.specs.List.Sorted.{IsNonDecreasingBy}
use Rattle.agc_document.specs.declared.fault.BenchFault.{BenchFault}
use Rattle.agc_document.specs.declared.fault.BenchFault.TheVariants as refusal
use Rattle.agc_document.specs.declared.key_fault.KeyFault.{KeyFault}
use Rattle.agc_document.specs.declared.key_fault.KeyFault.TheVariants.{Unknown, Value, Item}
use Rattle.agc_document.specs.declared.key_fault.KeyFault.TheVariants.{NoneAbove}
use Rattle.agc_document.specs.declared.notes.KeyNote.{KeyNote}
use Rattle.agc_document.specs.declared.notes.TextNote.{TextNote}
use Rattle.agc_document.specs.declared.location.Location.{Location}
use Rattle.agc_document.specs.declared.location.Location.TheVariants.{Whole}
use Rattle.agc_check.specs.declared.problem.Problem.{Problem}
use Rattle.agc_check.specs.declared.problem.Problem.TheVariants as wrong

-- a finding: the byte of the document at which it is, the number of that byte's line, where in the
-- bench that is, the text that is told, and what is wrong
pub record FindingView : Type 0 where
  pub at : ℕ
  pub line : ℕ
  pub place : Location
  pub text : List ℕ
  pub wrong : Problem

-- the fault of a bench with which this is wrong
abbrev pub refusal_of : Problem → BenchFault
refusal_of wrong.NotToml = refusal.NotToml
refusal_of wrong.NoQuotes = refusal.NotToml
refusal_of wrong.KeyTwice = refusal.NotToml
refusal_of (wrong.Key fault) = refusal.Key
refusal_of (wrong.Text form) = refusal.Line
refusal_of wrong.TaskTwice = refusal.TaskTwice
refusal_of wrong.PhaseTwice = refusal.PhaseTwice
refusal_of wrong.TooManyAreas = refusal.TooManyAreas

-- how many lines end in a text
abbrev pub line_ends : List ℕ → ℕ
line_ends [] = 0
line_ends (c ∷ cs) = if c == 10 then suc (line_ends cs) else line_ends cs

-- the number of the line in which a byte of a document stands, from 1: the last, where the document
-- ends before it
abbrev pub line_of : List ℕ → ℕ → ℕ
line_of document at = line_ends (take (min at (length document)) document) + 1

-- the text has a line of this number; what follows the last end of a line is a line too
abbrev pub StandsIn : List ℕ → ℕ → Type 0
StandsIn text n = (1 ≤ n) × (n ≤ line_ends text + 1)

-- a finding of this fault, at a byte of the document or at its end, and in that byte's line
pub record IsFindingOf (document : List ℕ) (fault : BenchFault) (f : FindingView) : Type 0 where
  pub at : f.at ≤ length document
  pub line : f.line ≡ line_of document f.at
  pub is : refusal_of f.wrong ≡ fault

-- findings of one fault, in the order of the document
pub record AreFindingsOf (document : List ℕ) (fault : BenchFault)
    (fs : List FindingView) : Type 0 where
  pub all : All (IsFindingOf document fault) fs
  pub order : IsNonDecreasingBy (λ f. f.at) fs

-- how many findings of a fault there may be, and how many of texts after them
abbrev pub most_of : BenchFault → ℕ
most_of refusal.Key = 20
most_of refusal.Line = 20
most_of _ = 1

abbrev pub most_after : BenchFault → ℕ
most_after refusal.Key = 20
most_after _ = 0

-- the findings of a document with this fault: some of that fault, and then texts
pub record AreFindings (document : List ℕ) (fault : BenchFault)
    (fs : List FindingView) : Type 0 where
  pub front : List FindingView
  pub texts : List FindingView
  pub is : fs ≡ front ++ texts
  pub some : 1 ≤ length front
  pub few : length front ≤ most_of fault
  pub few_texts : length texts ≤ most_after fault
  pub of_fault : AreFindingsOf document fault front
  pub of_texts : AreFindingsOf document refusal.Line texts

-- the contents of a finding: the place of the error, its kind, and the text there
pub record Message : Type 0 where
  pub place : Location
  pub wrong : Problem
  pub text : List ℕ

-- the text that a finding quotes, unless it quotes the value of a key
abbrev pub quoted : Problem → List ℕ → List ℕ
quoted (wrong.Key (Value key)) text = []
quoted (wrong.Key (Item key)) text = []
quoted (wrong.Key (NoneAbove number)) text = []
quoted other text = text

-- the contents of a finding, apart from the value that it quotes
abbrev pub say : Location → Problem → List ℕ → Message
say place what text = record { place = place; wrong = what; text = quoted what text }

abbrev pub message_of : FindingView → Message
message_of f = say f.place f.wrong f.text

-- the name of a key that is unknown; other faults of keys have no text
abbrev pub name_if : KeyFault → List ℕ → List ℕ
name_if (Unknown level) name = name
name_if fault name = []

-- the finding that reports a note
abbrev pub of_key : KeyNote → Message
of_key n =
    record { place = n.place; wrong = wrong.Key n.fault; text = name_if n.fault n.text.now }

abbrev pub of_text : TextNote → Message
of_text n = record { place = n.place; wrong = wrong.Text n.form; text = n.text.now }

-- the one thing to say
abbrev pub alone : Location → Problem → List Message
alone place what = say place what [] ∷ []

-- where a document is refused for a key or a text, at least one such was noted
abbrev pub IsNote : BenchFault → List KeyNote → List TextNote → Type 0
IsNote refusal.Key keys texts = 1 ≤ length keys
IsNote refusal.Line keys texts = 1 ≤ length texts
IsNote fault keys texts = Unit {0}

-- the findings of a document that is refused for this fault, from the notes about its keys and its
-- texts and the place of its plan
abbrev pub to_say : BenchFault → List KeyNote → List TextNote → Location → List Message
to_say refusal.NoMemory keys texts plan = []
to_say refusal.NotToml keys texts plan = alone Whole wrong.NotToml
to_say refusal.Key keys texts plan = map of_key keys ++ map of_text texts
to_say refusal.Line keys texts plan = map of_text texts
to_say refusal.TaskTwice keys texts plan = alone plan wrong.TaskTwice
to_say refusal.PhaseTwice keys texts plan = alone plan wrong.PhaseTwice
to_say refusal.TooManyAreas keys texts plan = alone plan wrong.TooManyAreas

-- a document is refused for this reason, and these are its findings, the first of that fault
abbrev pub IsRefusedWith : (BenchFault → Type 0) → List ℕ → List FindingView → Type 0
IsRefusedWith refuses text fs =
    (fault : BenchFault) × refuses fault × AreFindings text fault fs
