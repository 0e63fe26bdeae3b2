use Rattle.std.proofs.Common.{◌≡◌, ℕ, Bool, List, ◌++◌, Option, Result, Ok, Err, refl, sym, ap, subst}
use Rattle.std.specs.Result.{IsErr, IsErrAnd}
use Rattle.agc_session.specs.declared.run_fault.RunFault.{RunFault}
use Rattle.agc_session.specs.declared.run_fault.RunFault.TheVariants.{NoMemory, Output, NoThread, Lost}
use Rattle.agc_document.specs.Benches.{Benched}
use Rattle.agc_machine.specs.declared.totals.Totals.{Totals}
use Rattle.agc_machine.specs.Image.{HandsOut}
use Rattle.agc_machine.specs.Machines.{Machined}
use Rattle.agc_latch.specs.declared.accounts.Settled.{Settled}
use Rattle.std.specs.Io.KnownBytes.{Appends}
use Rattle.agc_text.specs.Pulses.{pulses_text}
use Rattle.agc_text.specs.Report.{report_text}
use Rattle.agc_text.specs.Writing.{AppendsFront, Writes}
use Rattle.agc_machine.specs.Said.{Said}
use Rattle.agc_bench.specs.Sharing.{IsToldRun}
use Rattle.agc_bench.specs.Threads.{AreSettled, IsRunReport, WritesRun}
use Rattle.agc_bench.specs.Steps.{IsEarly, WritesSettled}

-- an early fault is handed on, and nothing was written
pub early_writes : {T : Type 0} (may_answer : ℕ → ℕ → Bool → Type 0) (is_told : ℕ → ℕ → Said → Type 0) (bench : Benched) (written : Option (List ℕ)) (fault : RunFault) (result : Result T RunFault)
    → IsEarly fault → IsErr result → IsErrAnd result (λ e. e ≡ fault) → WritesRun may_answer is_told bench written written result
early_writes may_answer is_told bench written fault (Ok x) early is same = absurd cc
early_writes may_answer is_told bench written fault (Err NoMemory) early is same = refl
early_writes may_answer is_told bench written fault (Err NoThread) early is same = refl
early_writes may_answer is_told bench written fault (Err Lost) early is same = absurd (subst IsEarly (sym same) early)
early_writes may_answer is_told bench written fault (Err Output) early is same = absurd (subst IsEarly (sym same) early)

-- the report of as many core sets as the machine has, and the lines of pulses
pub settled_written : {T E : Type 0} (old new : Option (List ℕ)) (machine : Machined) (totals : Totals) (settled : Settled) (sets : ℕ) (words : List ℕ) (result : Result T E)
    → sets ≡ machine.plan.sets → HandsOut machine words
    → Writes old new (report_text sets words totals ++ pulses_text settled.posted settled.applied settled.owed) result
    → WritesSettled old new machine totals settled result
settled_written old new machine totals settled sets words result same image written =
    (words, image, subst (λ (n : ℕ). Writes old new (report_text n words totals ++ pulses_text settled.posted settled.applied settled.owed) result) same written)

-- the text of a run was written
pub run_written : (may_answer : ℕ → ℕ → Bool → Type 0) (is_told : ℕ → ℕ → Said → Type 0) (bench : Benched) (machine : Machined) (totals : Totals) (settled : Settled) (old new : Option (List ℕ))
    → IsToldRun may_answer is_told bench machine settled → totals ≡ machine.totals → AreSettled bench settled
    → (words : List ℕ) × HandsOut machine words × Appends old new (report_text machine.plan.sets words totals ++ pulses_text settled.posted settled.applied settled.owed)
    → (text : List ℕ) × IsRunReport may_answer is_told bench text × Appends old new text
run_written may_answer is_told bench machine totals settled old new run same pulses written = (
  report_text machine.plan.sets written.0 totals ++ pulses_text settled.posted settled.applied settled.owed,
  record {
    machine = machine;
    settled = settled;
    run = run.run;
    told = run.told;
    words = written.0;
    words_are = written.1;
    pulses = pulses;
    text_is = ap (λ t. report_text machine.plan.sets written.0 t ++ pulses_text settled.posted settled.applied settled.owed) same;
  },
  written.2,
)

-- a front of it was written where a write failed
pub output_writes : {T : Type 0} (may_answer : ℕ → ℕ → Bool → Type 0) (is_told : ℕ → ℕ → Said → Type 0) (bench : Benched) (machine : Machined) (totals : Totals) (settled : Settled) (old new : Option (List ℕ)) (result : Result T RunFault)
    → IsToldRun may_answer is_told bench machine settled → totals ≡ machine.totals → AreSettled bench settled
    → (words : List ℕ) × HandsOut machine words × AppendsFront old new (report_text machine.plan.sets words totals ++ pulses_text settled.posted settled.applied settled.owed)
    → IsErr result → IsErrAnd result (λ e. e ≡ Output) → WritesRun may_answer is_told bench old new result
output_writes may_answer is_told bench machine totals settled old new (Ok x) run same pulses written is output = absurd cc
output_writes may_answer is_told bench machine totals settled old new (Err Output) run same pulses written is output = (
  report_text machine.plan.sets written.0 totals ++ pulses_text settled.posted settled.applied settled.owed,
  record {
    machine = machine;
    settled = settled;
    run = run.run;
    told = run.told;
    words = written.0;
    words_are = written.1;
    pulses = pulses;
    text_is = ap (λ t. report_text machine.plan.sets written.0 t ++ pulses_text settled.posted settled.applied settled.owed) same;
  },
  written.2,
)
output_writes may_answer is_told bench machine totals settled old new (Err NoMemory) run same pulses written is output = absurd cc
output_writes may_answer is_told bench machine totals settled old new (Err NoThread) run same pulses written is output = absurd cc
output_writes may_answer is_told bench machine totals settled old new (Err Lost) run same pulses written is output = absurd cc
