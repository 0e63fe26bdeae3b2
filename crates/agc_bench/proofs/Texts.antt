-- A run's report has one text.
use Rattle.std.proofs.Common.{◌≡◌, ℕ, Bool, List, ◌++◌, ap, sym, subst, ◌∙◌}
use Rattle.agc_latch.specs.declared.accounts.Settled.{Settled}
use Rattle.agc_machine.specs.Image.{HandsOut}
use Rattle.agc_machine.specs.Machines.{Machined}
use Rattle.agc_machine.specs.Said.{Said}
use Rattle.agc_document.specs.Benches.{Benched}
use Rattle.agc_text.specs.Pulses.{pulses_text}
use Rattle.agc_text.specs.Report.{report_text}
use Rattle.agc_bench.specs.Threads.{IsRunReport}
use Rattle.agc_session.proofs.OneText.{one_report}

pub one_run_text : (may_answer : ℕ → ℕ → Bool → Type 0) (is_told : ℕ → ℕ → Said → Type 0) (bench : Benched) (these those : List ℕ) (a : IsRunReport may_answer is_told bench these) (b : IsRunReport may_answer is_told bench those) → a.machine ≡ b.machine → a.settled ≡ b.settled → these ≡ those
one_run_text may_answer is_told bench these those a b machine settled =
    let moved : HandsOut b.machine a.words = subst (λ (m : Machined). HandsOut m a.words) machine a.words_are in
    let report : report_text a.machine.plan.sets a.words a.machine.totals ≡ report_text b.machine.plan.sets b.words b.machine.totals =
    ap (λ (m : Machined). report_text m.plan.sets a.words m.totals) machine ∙ one_report b.machine a.words b.words moved b.words_are in
    a.text_is
    ∙ ap (λ l. l ++ pulses_text a.settled.posted a.settled.applied a.settled.owed) report
    ∙ ap (λ (s : Settled). report_text b.machine.plan.sets b.words b.machine.totals ++ pulses_text s.posted s.applied s.owed) settled
    ∙ sym b.text_is
