use Rattle.std.proofs.Common.{◌≡◌, ◌∷◌, Bool, true, replicate, Option, Some, None, Result, refl, sym, ap, subst, ◌∙◌}
use Rattle.std.specs.Prelude.{◌&&◌, not, is_some, IfOk, if◌then◌else◌}
use Rattle.std.specs.List.{fold}
use Rattle.agc_clock.specs.declared.elapsed.Elapsed.{Elapsed}
use Rattle.agc_clock.specs.Elapsing.{Elapses}
use Rattle.agc_machine.specs.declared.answer.Refusal.{Refusal}
use Rattle.agc_machine.specs.Machines.{Machined, after, answer_of, begins_with, plain_of}
use Rattle.agc_machine.specs.Moments.{IsMoment}
use Rattle.agc_plan.specs.declared.reply.Reply.{Reply}
use Rattle.agc_plan.specs.Steps.{begins, is_tick}
use Rattle.agc_run.specs.Events.{scene_at, scene_now}
use Rattle.std.specs.Result.{is_ok}
use Rattle.agc_stats.specs.Followed.{AreFollowed, next_snapshot, noted_by}
use Rattle.agc_session.specs.declared.source.PendingRequest.{PendingRequest}
use Rattle.agc_stats.specs.ObservedJobs.{states_in}
use Rattle.agc_stats.specs.declared.live_jobs.LifeEnd.TheVariants.{Alive}
use Rattle.agc_stats.specs.declared.job_statistics.PassedTime.{PassedTime}
use Rattle.agc_run.specs.Reading.{IsServed}
use Rattle.agc_run.specs.Runs.{Pending, Pulls, asks_after, elapsed_in, to_ask}
use Rattle.agc_stats.proofs.EraTimes.{on_both}
use Rattle.agc_stats.proofs.JobRuns.{all_made, none_made, not_some, one_made}
use Rattle.agc_stats.proofs.Occupancies.{left_seats}
use Rattle.agc_stats.proofs.Runs.{asked_once}
use Rattle.agc_stats.proofs.Snapshots.{same_followed}
use Rattle.agc_stats.proofs.jobs.jobs_to_end.Goals as goal

pub loop-call-init : goal.loop-call-init
loop-call-init c = record {
  machine = refl {a = fold after c.args.run.now.machine (to_ask c.args.run.now.machine c.args.run.now.pending)};
  followed = λ history are eras era. none_made (is_some c.args.job_statistics.now.timing) history c.args.run.now.machine c.args.run.now.pending c.args.job_statistics.now are eras era;
  timing = refl;
}

pub loop-call-preserved : goal.loop-call-preserved
loop-call-preserved c =
    let m : Machined = c.loop-call.run.machine in
    let old : Pending = c.loop-call.run.pending in
    let mid : Pending = c.next.new.self.pending in
    let q = c.in-Some.call.request in
    let now : Machined = c.ask-answer.new.self.machine in
    let new : Pending = c.ask-answer.new.self.pending in
    let timed : Bool = is_some c.args.job_statistics.now.timing in
    let said : Result Reply Refusal = c.ask-answer.result in
    let same : c.next.new.self.machine ≡ m = c.in-Some.ensures.machine in
    let asked : now ≡ after m q = c.ask-answer.ensures.machine ∙ ap (λ (x : Machined). after x q) same in
    let pending : new ≡ asks_after m mid c.in-Some.call = c.ask-answer.ensures.pending ∙ ap (λ (x : Machined). asks_after x mid c.in-Some.call) same in
    let answer : said ≡ answer_of m q = c.ask-answer.ensures.answer ∙ ap (λ (x : Machined). answer_of x q) same in
    let served : IsServed m q now said c.ask-answer.new.self.snapshot = record {
      now_is = asked;
      answer_is = answer;
      kept = subst (λ (x : Machined). IfOk said (λ reply. begins reply ≡ true → IsMoment x q c.ask-answer.new.self.snapshot)) same c.ask-answer.ensures.begun;
    } in
    let left : c.jobs_in-left.result ≡ states_in (scene_at m q).seats =
    c.jobs_in-left.ensures ∙ ap states_in (left_seats m q now said c.ask-answer.new.self.snapshot c.words_left.result.now served c.words_left.ensures.begun c.words_left.ensures.goes_on) in
    let era : c.jobs_of_era-era.result ≡ (if begins_with (answer_of m q) then Some (states_in (scene_now (after m q)).seats) else None) =
    c.jobs_of_era-era.ensures
    ∙ ap (λ (x : Machined). if begins_with said then Some (states_in (scene_now x).seats) else None) (c.machine.ensures ∙ asked)
    ∙ ap (λ (a : Result Reply Refusal). if begins_with a then Some (states_in (scene_now (after m q)).seats) else None) answer in
    let elapsed : c.elapsed-elapsed.result ≡ elapsed_in (plain_of m).work.jobs old mid = c.elapsed-elapsed.ensures ∙ c.in-Some.ensures.elapsed in
    let elapses : Elapses old.clock c.elapsed-elapsed.result mid.clock = subst (λ (e : Elapsed). Elapses old.clock e mid.clock) (sym c.elapsed-elapsed.ensures) c.in-Some.ensures.all_elapsed in
    let ticks : c.ticks-ticks.result ≡ (not timed && (is_tick q && is_ok (answer_of m q))) =
    c.ticks-ticks.ensures
    ∙ ap (λ (b : Bool). not b && (is_tick q && is_ok said)) (c.has_clock.ensures ∙ ap is_some c.loop-call.invariant.timing)
    ∙ ap (λ (a : Result Reply Refusal). not timed && (is_tick q && is_ok a)) answer in
    record {
      machine = asked_once m old mid new c.in-Some.call now c.in-Some.ensures.pulls asked pending ∙ c.loop-call.invariant.machine;
      followed = λ history are eras era_is.
          one_made timed history c.args.run.now.machine c.args.run.now.pending m old mid new c.in-Some.call now c.elapsed-elapsed.result c.ticks-ticks.result c.jobs_in-left.result c.jobs_of_era-era.result c.loop-call.job_statistics c.pass.new.self c.serve.new.self
          (c.loop-call.invariant.followed history are eras era_is) c.in-Some.ensures.pulls elapsed elapses asked pending ticks left era
          (λ h before. subst (λ (p : PassedTime). AreFollowed (noted_by p c.jobs_in-left.result c.jobs_of_era-era.result h) c.serve.new.self) c.by.ensures
          (c.in_ok-serve.ensures.followed h (same_followed h c.loop-call.job_statistics c.pass.new.self c.pass.ensures.live_jobs (ap (λ v. v.items) c.pass.ensures.rows) c.pass.ensures.timing c.pass.ensures.instant before)))
          c.pass.ensures.eras c.pass.ensures.era c.in_ok-serve.ensures.eras;
      timing = c.in_ok-serve.ensures.timing ∙ c.pass.ensures.timing ∙ c.loop-call.invariant.timing;
    }

pub returns-clause-followed : goal.returns-clause-followed
returns-clause-followed c = on_both c.end.result (λ ended over history are eras era_is.
    let m : Machined = c.loop-call.run.machine in
    let old : Pending = c.loop-call.run.pending in
    let mid : Pending = c.next.new.self.pending in
    let timed : Bool = is_some c.args.job_statistics.now.timing in
    let pulls : Pulls m old None mid = subst (λ (o : Option PendingRequest). Pulls m old o mid) (not_some c.next.result c.in_default.not-Some) c.next.ensures.pulls in
    let rest : c.elapsed-elapsed-2.result ≡ elapsed_in (plain_of m).work.jobs old mid = c.elapsed-elapsed-2.ensures ∙ c.next.ensures.elapsed in
    let elapses : Elapses old.clock c.elapsed-elapsed-2.result mid.clock = subst (λ (e : Elapsed). Elapses old.clock e mid.clock) (sym c.elapsed-elapsed-2.ensures) c.next.ensures.all_elapsed in
    all_made timed history c.args.run.now.machine c.args.run.now.pending m old mid c.elapsed-elapsed-2.result c.loop-call.job_statistics c.pass-2.new.self c.end.new.self
    (c.loop-call.invariant.followed history are eras era_is) pulls rest elapses
    (λ h before. subst (λ (p : PassedTime). AreFollowed (next_snapshot p Alive (replicate 8 None) h ∷ h) c.end.new.self) c.by-2.ensures
    (ended h (same_followed h c.loop-call.job_statistics c.pass-2.new.self c.pass-2.ensures.live_jobs (ap (λ v. v.items) c.pass-2.ensures.rows) c.pass-2.ensures.timing c.pass-2.ensures.instant before)))
    c.pass-2.ensures.eras c.pass-2.ensures.era over)
    c.end.ensures.followed c.end.ensures.eras
