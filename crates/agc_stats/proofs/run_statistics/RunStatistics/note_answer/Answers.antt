use Rattle.std.proofs.Common.{Result, refl, sym, subst, ◌∙◌}
use Rattle.agc_plan.specs.declared.reply.Reply.{Reply}
use Rattle.agc_machine.specs.declared.answer.Refusal.{Refusal}
use Rattle.agc_stats.specs.Steps.{IsAnswered}
use Rattle.agc_stats.specs.declared.run_statistics.RunStatistics.{RunStatistics}
use Rattle.agc_stats.proofs.Runs.{begun_more, refused_more, served_more}
use Rattle.agc_stats.proofs.run_statistics.RunStatistics.note_answer.Goals as goal

pub returns-in-Err-clause-counts : goal.returns-in-Err-clause-counts
returns-in-Err-clause-counts c = λ start es m are full is.
    refused_more start es m c.args.answered.now.request.now c.args.machine.now _ c.args.answered.now.left c.args.self.now _ are full
    (subst (λ (a : Result Reply Refusal). IsAnswered m c.args.answered.now.request.now c.args.machine.now a c.args.answered.now.left) c.in-Err.is is)
    refl c.saturating_add-self.ensures c.saturating_add-self-in-Err.ensures refl refl refl refl refl refl

pub returns-then-begins-clause-counts : goal.returns-then-begins-clause-counts
returns-then-begins-clause-counts c = λ start es m are full is.
    let mid : RunStatistics = record c.args.self.now { requests = c.saturating_add-self.result } in
    begun_more start es m c.args.answered.now.request.now c.args.machine.now _ c.args.answered.now.left c.log_len.result c.args.self.now mid c.note.new.self c.begin.new.self c.alarm.result c.begin.result are full
    (subst (λ (a : Result Reply Refusal). IsAnswered m c.args.answered.now.request.now c.args.machine.now a c.args.answered.now.left) c.in-Ok.is is)
    c.log_len.ensures
    (record { time_is = refl; requests_is = c.saturating_add-self.ensures; refused_is = refl; longest_is = refl; occupancy_is = refl; number_is = refl; by_is = refl; era_is = refl; peaks_is = refl })
    c.note.ensures (sym c.begins.ensures ∙ c.if-begins.true) c.alarm.ensures c.begin.ensures

pub returns-else-begins-clause-counts : goal.returns-else-begins-clause-counts
returns-else-begins-clause-counts c = λ start es m are full is.
    let mid : RunStatistics = record c.args.self.now { requests = c.saturating_add-self.result } in
    served_more start es m c.args.answered.now.request.now c.args.machine.now _ c.args.answered.now.left c.log_len.result c.args.self.now mid c.note.new.self are full
    (subst (λ (a : Result Reply Refusal). IsAnswered m c.args.answered.now.request.now c.args.machine.now a c.args.answered.now.left) c.in-Ok.is is)
    c.log_len.ensures
    (record { time_is = refl; requests_is = c.saturating_add-self.ensures; refused_is = refl; longest_is = refl; occupancy_is = refl; number_is = refl; by_is = refl; era_is = refl; peaks_is = refl })
    c.note.ensures (sym c.begins.ensures ∙ c.if-begins.false)
