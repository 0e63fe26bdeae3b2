-- From seven core sets to eight.
use Rattle.std.proofs.Common.{◌≡◌, ℕ, Bool, true, false, not, List, length, refl, ap, sym, subst, ◌∙◌, inl, inr, arith}
use Rattle.std.proofs.lemmas.List.{take_all}
use Rattle.libagc.specs.Codes.{Coded, code_unless}
use Rattle.libagc.specs.declared.fault.Fault.TheVariants.{NotNow}
use Rattle.agc_image.specs.Images.{size_with, image_of, AreWords, IsImage}
use Rattle.agc_machine.specs.Image.{IsLawfulImage}
use Rattle.agc_machine.specs.Migration.{Migrates}
use Rattle.libagc.specs.Requests.{one_due}

-- an image whose words aren't lawful between requests has a task that is due
due_inside : (array words : List ℕ) → IsImage 7 array → words ≡ image_of 7 array → ¬ IsLawfulImage words → (due : Bool) → one_due 7 array ≡ due → due ≡ true
due_inside array words image same unlawful true is = refl
due_inside array words image same unlawful false none = absurd (unlawful (subst IsLawfulImage (sym same) (record {
  tables = record {
    size = image.lawful.cores.sets.sized;
    cores = image.lawful.cores;
    waits = image.lawful.waits;
    phases = image.lawful.phases;
  };
  none_due = none;
})))

pub inside_a_tick : (code : ℕ) (array words : List ℕ) → IsImage 7 array → words ≡ image_of 7 array → ¬ IsLawfulImage words → code ≡ 6 → Coded code 7 array (code_unless (not (one_due 7 array)) NotNow)
inside_a_tick code array words image same unlawful is =
    let due : one_due 7 array ≡ true = due_inside array words image same unlawful (one_due 7 array) refl in
    inl (image, is ∙ sym (ap (λ (b : Bool). code_unless (not b) NotNow) due))

-- all words of an array are an image of eight core sets
pub eight : (array : List ℕ) → length array ≡ 144 → AreWords array → IsLawfulImage array → IsImage 8 array
eight array long range lawful =
    let whole : image_of 8 array ≡ array = take_all (size_with 8) array (omega arith) in
    record {
      count = inr refl;
      words = rw whole range;
      lawful = rw whole (record { cores = lawful.tables.cores; waits = lawful.tables.waits; phases = lawful.tables.phases });
    }

pub migrated_to : (old new words then : List ℕ) → words ≡ image_of 7 old → new ≡ then → length new ≡ 144 → AreWords new → Migrates words then → Migrates (image_of 7 old) new × IsImage 8 new
migrated_to old new words then same written long range migrates =
    let moved : Migrates (image_of 7 old) new = subst (λ (w : List ℕ). Migrates w new) same (subst (λ (w : List ℕ). Migrates words w) (sym written) migrates) in
    (moved, eight new long range moved.lawful)
