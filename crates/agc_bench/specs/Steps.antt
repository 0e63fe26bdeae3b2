-- Of proofs alone: what the steps of a run answer and write.
use Rattle.std.specs.Prelude.{ℕ, List, ◌++◌, slice_index_or, Option, Result}
use Rattle.agc_latch.specs.declared.accounts.Settled.{Settled}
use Rattle.agc_machine.specs.declared.totals.Totals.{Totals}
use Rattle.agc_machine.specs.Image.{HandsOut}
use Rattle.agc_machine.specs.Machines.{Machined}
use Rattle.agc_session.specs.declared.run_fault.RunFault.{RunFault}
use Rattle.agc_session.specs.declared.run_fault.RunFault.TheVariants.{NoMemory, Output, NoThread}
use Rattle.agc_session.specs.declared.run_fault.RunFault.TheVariants.{Lost}
use Rattle.agc_document.specs.Benches.{Benched}
use Rattle.agc_bench.specs.Threads.{Asker, Attends, askers_of, threads_of}
use Rattle.agc_text.specs.Pulses.{pulses_text}
use Rattle.agc_text.specs.Report.{report_text}
use Rattle.agc_text.specs.Writing.{Writes}

-- who asks in the thread of this number
abbrev pub thread_at : Benched → ℕ → Asker
thread_at bench thread = slice_index_or (threads_of bench) thread (Attends bench.attends)

-- who asks with the share of this number
abbrev pub asker_at : Benched → ℕ → Asker
asker_at bench number = slice_index_or (askers_of bench) number (Attends bench.attends)

-- of a machine's words, of these totals and of what became of pulses the lines were written and
-- nothing else; where a write failed, a front of them
abbrev pub WritesSettled : {T E : Type 0} → Option (List ℕ) → Option (List ℕ)
    → Machined → Totals → Settled → Result T E → Type 0
WritesSettled old new machine totals settled result = (words : List ℕ) × HandsOut machine words
    × Writes old new (report_text machine.plan.sets words totals
    ++ pulses_text settled.posted settled.applied settled.owed) result

-- a fault that comes before the first write; Lost is never answered
abbrev pub IsEarly : RunFault → Type 0
IsEarly NoMemory = Unit {0}
IsEarly NoThread = Unit {0}
IsEarly Lost = ⊥
IsEarly Output = ⊥
