use Rattle.std.proofs.Common.{◌≡◌, List, [], ◌∷◌, ◌++◌, true, refl, sym, ap, subst, ◌∙◌}
use Rattle.std.specs.List.{fold}
use Rattle.std.specs.Prelude.{IfOk}
use Rattle.agc_machine.specs.Machines.{Machined, after, answer_of}
use Rattle.agc_machine.specs.Moments.{IsMoment}
use Rattle.agc_plan.specs.Steps.{begins}
use Rattle.agc_run.specs.Runs.{Pending, asks_after, to_ask}
use Rattle.agc_run.specs.Reading.{IsServed}
use Rattle.agc_stats.specs.Runs.{AreStatistics, Entry, entries, entry_of, occupancy_now}
use Rattle.agc_stats.specs.Steps.{IsAnswered, IsOneMore}
use Rattle.agc_stats.proofs.Occupancies.{left_is}
use Rattle.agc_stats.proofs.Runs.{asked_once, made_more}
use Rattle.agc_stats.proofs.running.run_to_end.Goals as goal

pub loop-call-init : goal.loop-call-init
loop-call-init g c =
    let m = c.args.run.now.machine in
    record {
      machine = refl {a = fold after m (to_ask m c.args.run.now.pending)};
      made = (
        [],
        subst (λ (x : Machined). AreStatistics x [] c.new-statistics.result) c.machine.ensures c.new-statistics.ensures.statistics,
        ap (λ t. entries m t (to_ask m c.args.run.now.pending)) c.new-statistics.ensures.time,
      );
      full = c.new-statistics.ensures.occupancy ∙ ap occupancy_now c.machine.ensures;
    }

pub loop-call-preserved : goal.loop-call-preserved
loop-call-preserved g c =
    let m : Machined = c.loop-call.run.machine in
    let old : Pending = c.loop-call.run.pending in
    let mid : Pending = c.next.new.self.pending in
    let q = c.in-Some.call.request in
    let now : Machined = c.ask-answer.new.self.machine in
    let new : Pending = c.ask-answer.new.self.pending in
    let es : List Entry = c.loop-call.invariant.made.0 in
    let same : c.next.new.self.machine ≡ m = c.in-Some.ensures.machine in
    let asked : now ≡ after m q = c.ask-answer.ensures.machine ∙ ap (λ (x : Machined). after x q) same in
    let pending : new ≡ asks_after m mid c.in-Some.call = c.ask-answer.ensures.pending ∙ ap (λ (x : Machined). asks_after x mid c.in-Some.call) same in
    let answer : c.ask-answer.result ≡ answer_of m q = c.ask-answer.ensures.answer ∙ ap (λ (x : Machined). answer_of x q) same in
    let served : IsServed m q now c.ask-answer.result c.ask-answer.new.self.snapshot = record {
      now_is = asked;
      answer_is = answer;
      kept = subst (λ (x : Machined). IfOk c.ask-answer.result (λ reply. begins reply ≡ true → IsMoment x q c.ask-answer.new.self.snapshot)) same c.ask-answer.ensures.begun;
    } in
    let answered : IsAnswered m q c.machine-in-Some-2.result.now c.ask-answer.result c.occupancy_of.result = record {
      now_is = c.machine-in-Some-2.ensures ∙ asked;
      answer_is = answer;
      left_is = c.occupancy_of.ensures ∙ left_is m q now c.ask-answer.result c.ask-answer.new.self.snapshot c.words_left.result.now served c.words_left.ensures.begun c.words_left.ensures.goes_on;
    } in
    let more : IsOneMore c.args.run.now.machine es (entry_of m c.loop-call.statistics.time q) c.note_answer-ended.new.self c.note_answer-ended.result =
    c.note_answer-ended.ensures.counts c.args.run.now.machine es m c.loop-call.invariant.made.1 c.loop-call.invariant.full answered in
    record {
      machine = asked_once m old mid new c.in-Some.call now c.in-Some.ensures.pulls asked pending ∙ c.loop-call.invariant.machine;
      made = (
        es ++ entry_of m c.loop-call.statistics.time q ∷ [],
        more.statistics,
        made_more es m c.loop-call.statistics.time old mid new c.in-Some.call now c.note_answer-ended.new.self.time _ c.in-Some.ensures.pulls asked pending more.time c.loop-call.invariant.made.2,
      );
      full = more.occupancy ∙ ap occupancy_now (sym asked);
    }
