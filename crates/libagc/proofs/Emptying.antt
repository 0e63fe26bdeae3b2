-- Words whose tables were cleared, one after the other.
use Rattle.std.proofs.Common.{◌≡◌, ℕ, List, length, replicate, ap, sym, subst, ◌∙◌}
use Rattle.std.proofs.lemmas.List.{length-replicate}
use Rattle.agc_word.specs.Layout.{sets_in}
use Rattle.agc_word.specs.Profiles.{count_of, size_of}
use Rattle.agc_word.specs.declared.sets.Sets.{Sets}
use Rattle.agc_plan.specs.Base.{fresh_base}
use Rattle.agc_plan.specs.Jobs.{no_jobs}
use Rattle.agc_exec.specs.Calls as cores
use Rattle.agc_exec.proofs.Agreeing.{kept_by_waitlist, kept_by_phases, blocks_of-agrees, jobs_in-agrees, entries_in-agrees, IsTidy-agrees, IsLawfulWords-agrees}
use Rattle.agc_machine.proofs.Beginning.{same_sets}
use Rattle.agc_wait.specs.Calls as table
use Rattle.agc_wait.proofs.Same.{waits_of-same, IsLawfulTable-same, IsTidy-same}
use Rattle.agc_phase.specs.Image.{Becomes, base_of}
use Rattle.agc_phase.proofs.Kept.{base_of-kept}
use Rattle.agc_image.specs.Images.{IsSets, size_with, image_of, behind, IsLawful, IsWritten}
use Rattle.agc_image.proofs.Frames.{phases_by_cores, phases_by_waits, table_by_phases, sets_of_size}
use Rattle.libagc.specs.Requests.{Empties, IsFresh}

-- core sets were cleared, and then the Waitlist
pub emptied : (old mid new : List ℕ) → cores.Clears old mid → table.Clears mid new → Empties (base_of old) old new
emptied old mid new first second =
    let kept = kept_by_waitlist mid new second.others in
    let count : sets_in mid ≡ sets_in new = sym (same_sets mid new second.others.same_length) in
    record {
      jobs = jobs_in-agrees mid new kept ∙ first.jobs ∙ ap no_jobs count;
      placed = entries_in-agrees mid new kept ∙ first.placed ∙ ap (λ (n : ℕ). replicate n 0) count;
      waits = second.empty;
      tidy_cores = IsTidy-agrees mid new kept first.tidy;
      tidy_waits = second.tidy;
      words = blocks_of-agrees mid new kept ∙ first.words;
      base_is = base_of-kept mid new (phases_by_waits mid new second.others) ∙ base_of-kept old mid (phases_by_cores old mid first.others);
    }

-- and then phases and codes
pub begun_afresh : (old mid then new : List ℕ) → cores.Clears old mid → table.Clears mid then → Becomes fresh_base then new → Empties fresh_base old new
begun_afresh old mid then new first second third =
    let was = emptied old mid then first second in
    let kept = kept_by_phases then new third.others in
    let same = table_by_phases then new third.others in
    let count : sets_in then ≡ sets_in new = sym (same_sets then new third.others.same_length) in
    record {
      jobs = jobs_in-agrees then new kept ∙ was.jobs ∙ ap no_jobs count;
      placed = entries_in-agrees then new kept ∙ was.placed ∙ ap (λ (n : ℕ). replicate n 0) count;
      waits = waits_of-same new then same ∙ was.waits;
      tidy_cores = IsTidy-agrees then new kept was.tidy_cores;
      tidy_waits = IsTidy-same new then same was.tidy_waits;
      words = blocks_of-agrees then new kept ∙ was.words;
      base_is = third.base_is;
    }

pub lawful_afresh : (old mid then new : List ℕ) → cores.Clears old mid → table.Clears mid then → Becomes fresh_base then new → IsLawful new
lawful_afresh old mid then new first second third = record {
  cores = IsLawfulWords-agrees then new (kept_by_phases then new third.others) (IsLawfulWords-agrees mid then (kept_by_waitlist mid then second.others) first.lawful);
  waits = IsLawfulTable-same new then (table_by_phases then new third.others) second.lawful;
  phases = third.lawful;
}

-- of words that were all 00000, which were written
pub fresh : (count : Sets) (sets : ℕ) (old new words then : List ℕ) → IsSets sets → count_of count ≡ sets → words ≡ replicate (size_of count) 0 → Empties fresh_base words then → IsLawful then → length then ≡ length words → IsWritten then old new → IsFresh sets old new
fresh count sets old new words then valid same blank emptied lawful long written =
    let size : length words ≡ size_with sets = ap length blank ∙ length-replicate (size_of count) 0 ∙ ap size_with same in
    let last_count : sets_in then ≡ sets = sets_of_size sets then valid (long ∙ size) in
    let is : image_of sets new ≡ then = subst (λ (n : ℕ). image_of n new ≡ then) last_count written.image in
    let zeros : words ≡ replicate (size_with sets) 0 = blank ∙ ap (λ (n : ℕ). replicate (size_with n) 0) same in
    record {
      image = record { count = valid; words = rw is written.range; lawful = rw is lawful };
      empties = rw is (subst (λ (w : List ℕ). Empties fresh_base w then) zeros emptied);
      rest = subst (λ (n : ℕ). behind n new ≡ behind n old) last_count written.rest;
    }
