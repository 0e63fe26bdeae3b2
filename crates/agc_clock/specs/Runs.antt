-- A scenario that runs: its instants in order, each with the jobs as they then are.
use Rattle.std.specs.Prelude.{ℕ, ◌∷◌, ◌++◌, Bool, false, List, [], Option, Some, None, Result, Ok}
use Rattle.std.specs.Prelude.{Err}
use Rattle.std.specs.List.{fold}
use Rattle.agc_plan.specs.Jobs.{Jobs}
use Rattle.agc_plan.specs.Steps.{begins}
use Rattle.agc_plan.specs.declared.reply.Reply.{Reply}
use Rattle.agc_machine.specs.declared.answer.Refusal.{Refusal}
use Rattle.agc_machine.specs.Machines.{Machined, after, answer_of, plain_of}
use Rattle.agc_clock.specs.declared.asked.Asked.{Asked}
use Rattle.agc_clock.specs.declared.timetable.Cost.{Cost}
use Rattle.agc_clock.specs.Counts.{Counts, kept, none_given, passed}
use Rattle.agc_clock.specs.Instants.{Instant, instants}
use Rattle.agc_clock.specs.Timetables.{Schedule}

-- who is asked: the state after a request; the jobs of a state; whether an era begins with a
-- request
pub record Serving (S : Type 0) : Type 0 where
  pub next : S → Asked → S
  pub jobs : S → Jobs
  pub begins : S → Asked → Bool

-- where a run stands: what was asked, the state, and what is counted
pub record Standing (S : Type 0) : Type 0 where
  pub asked : List Asked
  pub state : S
  pub counts : Counts

-- a request, where this was counted before it
abbrev pub served : {S : Type 0} → Serving S → Asked → Counts → Standing S → Standing S
served by asked counts at =
    let state = by.next at.state asked in
    record {
      asked = at.asked ++ asked ∷ [];
      state = state;
      counts = kept (by.begins at.state asked) (by.jobs state) counts;
    }

-- the state after an instant with a request, or with none
abbrev pub goes_on : {S : Type 0} → Serving S → Option Asked → Counts → Standing S → Standing S
goes_on by (Some asked) counts at = served by asked counts at
goes_on by None counts at = record at { counts = counts }

-- an instant
abbrev pub lived : {S : Type 0} → Serving S → List Cost → Standing S → Instant → Standing S
lived by costs at instant =
    let did = passed costs (by.jobs at.state) instant at.counts in
    goes_on by did.asked did.counts at

-- the state after instants, in order
abbrev pub lived_all : {S : Type 0} → Serving S → List Cost → Standing S → List Instant
    → Standing S
lived_all by costs at instants = fold (lived by costs) at instants

-- nothing was asked yet, and lots are drawn from this seed on
abbrev pub standing_at : {S : Type 0} → ℕ → S → Standing S
standing_at seed start = record { asked = []; state = start; counts = none_given seed }

-- the whole scenario
unfoldable pub run : {S : Type 0} → Serving S → Schedule → ℕ → S → Standing S
run by table seed start = lived_all by table.costs (standing_at seed start) (instants table)

-- all that it asks for, in order
abbrev pub scenario_requests : {S : Type 0} → Serving S → Schedule → ℕ → S → List Asked
scenario_requests by table seed start = (run by table seed start).asked

-- whether an era begins with an answer
abbrev pub begins_with : Result Reply Refusal → Bool
begins_with (Ok reply) = begins reply
begins_with (Err refusal) = false

-- a machine that is asked: a request that it refuses begins no era
abbrev pub by_machine : Serving Machined
by_machine = record {
  next = λ m asked. after m asked.request;
  jobs = λ m. (plain_of m).work.jobs;
  begins = λ m asked. begins_with (answer_of m asked.request);
}
