-- Core sets, seen as a plain list of jobs and their places.
use Rattle.std.specs.Prelude.{◌≡◌, ℕ, ◌<◌, ◌≤◌, ◌==◌, false, if◌then◌else◌, List}
use Rattle.std.specs.Prelude.{[], ◌∷◌, Option, Some, None, map, length, slice_index_or}
use Rattle.std.specs.List.{range_with_len}
use Rattle.agc_plan.specs.Jobs.{Job}
use Rattle.agc_exec.specs.HeldJob.{HeldJob}

-- the job that a set holds, without its number
abbrev pub job_of : HeldJob → Job
job_of r = record {
  at = r.at;
  bank = r.bank;
  priority = r.priority;
  asleep = r.asleep;
  area = r.area;
  work = r.work;
}

-- the job of this number
abbrev pub job_numbered : List (Option HeldJob) → ℕ → Option Job
job_numbered [] number = None
job_numbered (None ∷ sets) number = job_numbered sets number
job_numbered (Some r ∷ sets) number =
    if r.number == number then Some (job_of r) else job_numbered sets number

-- the jobs by number, with as many numbers as sets
abbrev pub slots_of : List (Option HeldJob) → List (Option Job)
slots_of sets = map (job_numbered sets) (range_with_len 1 (length sets))

-- the number of a set's job, 0 for none
abbrev pub number_in : Option HeldJob → ℕ
number_in None = 0
number_in (Some r) = r.number

-- which set holds which job
abbrev pub entries_of : List (Option HeldJob) → List ℕ
entries_of sets = map number_in sets

-- the number of a set's job, if that is awake
abbrev pub awake_in : Option HeldJob → Option ℕ
awake_in None = None
awake_in (Some r) = if r.asleep then None else Some r.number

-- the number of the job in set 0, if that is awake
abbrev pub running_in : List (Option HeldJob) → Option ℕ
running_in [] = None
running_in (set ∷ sets) = awake_in set

-- core set k holds this job
abbrev pub Holds : List (Option HeldJob) → ℕ → HeldJob → Type 0
Holds sets k r = slice_index_or sets k None ≡ Some r

-- each job has a number of its own, in range, and an area of its own, if one
pub record IsLawful (sets : List (Option HeldJob)) : Type 0 where
  pub distinct : (i j : ℕ) (r s : HeldJob) → Holds sets i r → Holds sets j s → r.number ≡ s.number
      → i ≡ j
  pub low : (i : ℕ) (r : HeldJob) → Holds sets i r → 1 ≤ r.number
  pub high : (i : ℕ) (r : HeldJob) → Holds sets i r → r.number ≤ length sets
  pub areas : (i j : ℕ) (r s : HeldJob) → Holds sets i r → Holds sets j s → 0 < r.area
      → r.area ≡ s.area → i ≡ j

-- where anybody is awake, the job in set 0 is
abbrev pub IsFronted : List (Option HeldJob) → Type 0
IsFronted sets =
    (i : ℕ) (r : HeldJob) → Holds sets i r → r.asleep ≡ false
    → (s : HeldJob) × Holds sets 0 s × (s.asleep ≡ false)

-- the rule of the sets between two requests
pub record IsStanding (sets : List (Option HeldJob)) : Type 0 where
  pub lawful : IsLawful sets
  pub in_front : IsFronted sets
