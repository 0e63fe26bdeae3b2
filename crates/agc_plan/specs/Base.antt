-- The six phases, and the codes in FAILREG.
use Rattle.std.specs.Prelude.{ℕ, ◌-◌, List, Option, Some, None, slice_set, slice_index_or}
use Rattle.std.specs.Prelude.{replicate}
use Rattle.agc_plan.specs.declared.reply.Code.{Code}

-- the part of a state that an era begins with, and that a restart keeps
pub record Base : Type 0 where
  pub phases : List ℕ
  pub codes : List (Option Code)

-- a fresh start: all groups inactive, and no codes
abbrev pub fresh_base : Base
fresh_base = record { phases = replicate 6 0; codes = replicate 3 None }

-- one group's phase is set
abbrev pub with_phase : ℕ → ℕ → Base → Base
with_phase group phase base = record { phases = slice_set base.phases (group - 1) phase; codes = base.codes }

-- the codes, with this one in the first place where there is none, else in the second where there
-- is none
abbrev pub kept_first : Option Code → Option Code → Code → List (Option Code) → List (Option Code)
kept_first None second code codes = slice_set codes 0 (Some code)
kept_first (Some first) None code codes = slice_set codes 1 (Some code)
kept_first (Some first) (Some second) code codes = codes

-- an alarm adds its code: to the first free place of the first two, and always to the third, the
-- latest
abbrev pub with_code : Code → Base → Base
with_code code base =
    record { phases = base.phases; codes = slice_set (kept_first (slice_index_or base.codes 0 None) (slice_index_or base.codes 1 None) code base.codes) 2 (Some code) }
