-- Words that agree at the places of core sets, use words and NEWJOB: for crates whose calls change
-- other words.
use Rattle.std.proofs.Common.{◌≡◌, ℕ, ◌+◌, ◌-◌, ◌/◌, ◌<◌, List, length, ap, sym, ◌∙◌, inl, inr, arith}
use Rattle.std.proofs.lemmas.Bool.{cases_lt}
use Rattle.std.proofs.lemmas.List.{same_lists}
use Rattle.agc_word.specs.Layout as layout
use Rattle.agc_word.specs.Layout.{OutsideWaitlist, OutsidePhases, Keeps, sets_in, set_place, use_place, others_size, set_size}
use Rattle.agc_exec.specs.Frames.{InsideCores}
use Rattle.agc_word.proofs.Keeping.{kept_also}
use Rattle.agc_exec.specs.Blocks.{blocks_of}
use Rattle.agc_exec.specs.Image.{sets_of, IsTidy, IsLawfulWords, jobs_in, entries_in}
use Rattle.agc_exec.proofs.Decoding.{IsSized-kept}
use Rattle.agc_exec.proofs.Finishing.{sets_of-same}
use Rattle.agc_exec.proofs.Reading.{length-blocks_of, get-blocks_of, block_in-same}

-- what keeps all but the Waitlist's words keeps those of the core sets
pub kept_by_waitlist : (old new : List ℕ) → Keeps OutsideWaitlist old new → Keeps InsideCores old new
kept_by_waitlist old new kept =
    kept_also OutsideWaitlist InsideCores old new (λ place is. elim is [ inl low ↦ inl low | inr high ↦ inr (omega arith) ]) kept

-- and so does what keeps all but the phase words and FAILREG
pub kept_by_phases : (old new : List ℕ) → Keeps OutsidePhases old new → Keeps InsideCores old new
kept_by_phases old new kept =
    kept_also OutsidePhases InsideCores old new (λ place is. elim is [ inl low ↦ inl (omega arith) | inr high ↦ inr high ]) kept

inside : (k i : ℕ) → i < set_size → InsideCores (set_place k + i)
inside k i lt = elim (cases_lt k 7) [ inl low ↦ inl (omega arith) | inr high ↦ inr (omega arith) ]

pub blocks_of-agrees : (old new : List ℕ) → Keeps InsideCores old new → blocks_of new ≡ blocks_of old
blocks_of-agrees old new kept =
    let len_old : length (blocks_of old) ≡ sets_in old = length-blocks_of old in
    let len_new : length (blocks_of new) ≡ sets_in new = length-blocks_of new in
    let same_count : sets_in new ≡ sets_in old = ap (λ n. (n - others_size) / set_size) kept.same_length in
    same_lists (blocks_of new) (blocks_of old) (len_new ∙ same_count ∙ sym len_old) (λ k d lt.
    let lt_old : k < sets_in old = omega arith in
    get-blocks_of new k d (omega arith)
    ∙ block_in-same old new k (λ i lt_i. kept.words (set_place k + i) (inside k i lt_i))
    ∙ sym (get-blocks_of old k d lt_old))

pub sets_of-agrees : (old new : List ℕ) → Keeps InsideCores old new → sets_of new ≡ sets_of old
sets_of-agrees old new kept = sets_of-same old new (blocks_of-agrees old new kept)

pub jobs_in-agrees : (old new : List ℕ) → Keeps InsideCores old new → jobs_in new ≡ jobs_in old
jobs_in-agrees old new kept = rw (sets_of-agrees old new kept)

pub entries_in-agrees : (old new : List ℕ) → Keeps InsideCores old new → entries_in new ≡ entries_in old
entries_in-agrees old new kept = rw (sets_of-agrees old new kept)

pub IsTidy-agrees : (old new : List ℕ) → Keeps InsideCores old new → IsTidy old → IsTidy new
IsTidy-agrees old new kept tidy = rw (blocks_of-agrees old new kept) tidy

pub IsLawfulWords-agrees : (old new : List ℕ) → Keeps InsideCores old new → IsLawfulWords old → IsLawfulWords new
IsLawfulWords-agrees old new kept lawful = record {
  sets = record {
    sized = IsSized-kept old new kept.same_length lawful.sets.sized;
    coded = rw (blocks_of-agrees old new kept) lawful.sets.coded;
    standing = rw (sets_of-agrees old new kept) lawful.sets.standing;
  };
  uses = rw (sets_of-agrees old new kept) (λ area low high. kept.words (use_place area) (inl (omega arith)) ∙ lawful.uses area low high);
  newjob = rw (sets_of-agrees old new kept) (kept.words layout.newjob (inl (omega arith)) ∙ lawful.newjob);
}
