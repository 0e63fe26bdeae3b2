-- What calls on one table leave of the array.
use Rattle.std.proofs.Common.{◌≡◌, ◌↔◌, ℕ, ◌≤◌, Bool, false, IsTrue, List, inl, inr, arith}
use Rattle.agc_word.specs.Layout.{Keeps, OutsideWaitlist, OutsidePhases}
use Rattle.agc_wait.specs.Table as table
use Rattle.agc_phase.specs.Image as phases
use Rattle.agc_image.specs.Images.{IsSets, IsImage, IsOpened, IsWritten, Changed}
use Rattle.libagc.specs.Codes.{NoImage}
use Rattle.libagc.specs.Stepping.{Allows}
use Rattle.agc_image.proofs.Frames.{changed, lawful_by_waits, lawful_by_phases}

-- a test answered no
pub false_no : (P : Type 0) (answer : Bool) → IsTrue answer ↔ P → answer ≡ false → ¬ P
false_no P answer iff off p = let on : IsTrue answer = iff.1 p in grind (arith, on, off)

-- a call that had a number of core sets lacked something else
sets_most : (sets : ℕ) → IsSets sets → sets ≤ 8
sets_most sets valid = elim valid [ inl seven ↦ omega arith | inr eight ↦ omega arith ]

pub few_sets : (code sets : ℕ) (array : List ℕ) → Allows code sets array → 2 ≤ code → sets ≤ 8
unfolding NoImage
few_sets code sets array coded some = elim coded [
  | inl image ↦ sets_most sets image.0.count
  | inr none ↦ elim none [
    | inl lacking ↦ absurd (omega (arith, some, lacking.1))
    | inr other ↦ elim other [ inl words ↦ sets_most sets words.0 | inr unlawful ↦ sets_most sets unlawful.0 ]
  ]
]

-- a call on the Waitlist, or on phases, changed the array
pub changed_waits : (does : List ℕ → List ℕ → Type 0) (sets : ℕ) (old new words then : List ℕ) → IsImage sets old → IsOpened sets old words → does words then → Keeps OutsideWaitlist words then → table.IsLawfulTable then → IsWritten then old new → Changed does sets old new
changed_waits does sets old new words then image opened did kept own written =
    changed does sets old new words then image.count opened did kept.same_length (lawful_by_waits words then kept opened.lawful own) written

pub changed_phases : (does : List ℕ → List ℕ → Type 0) (sets : ℕ) (old new words then : List ℕ) → IsImage sets old → IsOpened sets old words → does words then → Keeps OutsidePhases words then → phases.IsLawfulTable then → IsWritten then old new → Changed does sets old new
changed_phases does sets old new words then image opened did kept own written =
    changed does sets old new words then image.count opened did kept.same_length (lawful_by_phases words then kept opened.lawful own) written
