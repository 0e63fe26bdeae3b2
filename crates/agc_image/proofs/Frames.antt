-- What a call on one table leaves of the image.
use Rattle.std.proofs.Common.{◌≡◌, ℕ, List, length, sym, subst, ◌∙◌, inl, inr, arith}
use Rattle.agc_word.specs.Layout.{sets_in, Keeps, OutsideCores, OutsideWaitlist, OutsidePhases}
use Rattle.agc_word.proofs.Keeping.{kept_also}
use Rattle.agc_exec.specs.Image as cores
use Rattle.agc_exec.proofs.Agreeing.{kept_by_waitlist, kept_by_phases, IsLawfulWords-agrees}
use Rattle.agc_wait.specs.Table.{SameTable}
use Rattle.agc_wait.specs.Table as table
use Rattle.agc_wait.proofs.Same.{IsLawfulTable-same}
use Rattle.agc_phase.specs.Image as phases
use Rattle.agc_phase.proofs.Kept.{InPhases, IsLawfulTable-kept}
use Rattle.agc_image.specs.Images.{IsSets, size_with, image_of, behind, IsLawful, IsOpened, IsWritten, Changed}

-- the Waitlist's words, kept by a call on core sets, or on phases
table_by_cores : (old new : List ℕ) → Keeps OutsideCores old new → SameTable new old
table_by_cores old new kept = λ i within. kept.words i (within.0, omega arith)

pub table_by_phases : (old new : List ℕ) → Keeps OutsidePhases old new → SameTable new old
table_by_phases old new kept = λ i within. kept.words i (inl within.1)

-- the words of phases and FAILREG, kept by a call on core sets, or on the Waitlist
pub phases_by_cores : (old new : List ℕ) → Keeps OutsideCores old new → Keeps InPhases old new
phases_by_cores old new kept = kept_also OutsideCores InPhases old new (λ place is. (omega arith, is.1)) kept

pub phases_by_waits : (old new : List ℕ) → Keeps OutsideWaitlist old new → Keeps InPhases old new
phases_by_waits old new kept = kept_also OutsideWaitlist InPhases old new (λ place is. inr is.0) kept

pub lawful_by_cores : (old new : List ℕ) → Keeps OutsideCores old new → IsLawful old → cores.IsLawfulWords new → IsLawful new
lawful_by_cores old new kept lawful own = record {
  cores = own;
  waits = IsLawfulTable-same new old (table_by_cores old new kept) lawful.waits;
  phases = IsLawfulTable-kept old new (phases_by_cores old new kept) lawful.phases;
}

pub lawful_by_waits : (old new : List ℕ) → Keeps OutsideWaitlist old new → IsLawful old → table.IsLawfulTable new → IsLawful new
lawful_by_waits old new kept lawful own = record {
  cores = IsLawfulWords-agrees old new (kept_by_waitlist old new kept) lawful.cores;
  waits = own;
  phases = IsLawfulTable-kept old new (phases_by_waits old new kept) lawful.phases;
}

pub lawful_by_phases : (old new : List ℕ) → Keeps OutsidePhases old new → IsLawful old → phases.IsLawfulTable new → IsLawful new
lawful_by_phases old new kept lawful own = record {
  cores = IsLawfulWords-agrees old new (kept_by_phases old new kept) lawful.cores;
  waits = IsLawfulTable-same new old (table_by_phases old new kept) lawful.waits;
  phases = own;
}

-- words of so many sets tell their number
pub sets_of_size : (sets : ℕ) (words : List ℕ) → IsSets sets → length words ≡ size_with sets → sets_in words ≡ sets
sets_of_size sets words valid size = elim valid [ inl seven ↦ omega arith | inr eight ↦ omega arith ]

-- a call on an open image, whose words were written back, changed the array
pub changed : (does : List ℕ → List ℕ → Type 0) (sets : ℕ) (old new words then : List ℕ) → IsSets sets → IsOpened sets old words → does words then → length then ≡ length words → IsLawful then → IsWritten then old new → Changed does sets old new
changed does sets old new words then valid opened did same_length lawful written =
    let count : sets_in then ≡ sets = sets_of_size sets then valid (same_length ∙ opened.size) in
    let is : image_of sets new ≡ then = subst (λ (n : ℕ). image_of n new ≡ then) count written.image in
    record {
      did = subst (λ (w : List ℕ). does w (image_of sets new)) opened.image (subst (λ (w : List ℕ). does words w) (sym is) did);
      image = record {
        count = valid;
        words = rw is written.range;
        lawful = rw is lawful;
      };
      rest = subst (λ (n : ℕ). behind n new ≡ behind n old) count written.rest;
    }
