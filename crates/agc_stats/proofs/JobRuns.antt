-- The statistics of the jobs of a run, with one request more.
use Rattle.std.proofs.Common.{◌≡◌, Bool, true, false, cond, List, [], ◌∷◌, ◌++◌, map, Option, Some, None, refl, sym, ap, subst, ◌∙◌, append_assoc, append-nil}
use Rattle.std.specs.Borrow.{Bor}
use Rattle.std.specs.Prelude.{◌&&◌, not, is_some, option_map, if◌then◌else◌}
use Rattle.std.specs.List.{All, fold}
use Rattle.std.specs.List.Sorted.{IsNonDecreasing}
use Rattle.std.proofs.lemmas.List.Sums.{fold_push}
use Rattle.agc_clock.specs.declared.elapsed.Elapsed.{Elapsed}
use Rattle.agc_clock.specs.Elapsing.{Elapses}
use Rattle.agc_machine.specs.Machines.{Machined, after, answer_of, begins_with, plain_of}
use Rattle.agc_session.specs.declared.source.PendingRequest.{PendingRequest}
use Rattle.agc_run.specs.Events.{scene_at, scene_now}
use Rattle.agc_run.specs.Runs.{Pending, Pulls, asks_after, elapsed_in}
use Rattle.agc_run.specs.Subjects.{IsOf, machine_of, timing_of}
use Rattle.agc_run.specs.declared.subject.Subject.{Subject}
use Rattle.agc_scenario.specs.Scenarios.{Timed}
use Rattle.agc_stats.specs.Eras.{all_used, used_in}
use Rattle.agc_stats.specs.Followed.{AreFollowed, IsNextEra, begun, noted_by, passed_by}
use Rattle.agc_stats.specs.JobRuns.{AreJobsOf, AreOfRun, AreSoFar, AreSteps, Step, begins_era, history_on, is_passing, noted, passed_by_era}
use Rattle.agc_stats.specs.ObservedJobs.{states_in}
use Rattle.agc_stats.specs.declared.job_statistics.JobStatistics.{JobStatistics}
use Rattle.agc_stats.specs.declared.live_jobs.ObservedJob.{ObservedJob}
use Rattle.agc_stats.specs.declared.live_jobs.Snapshot.{Snapshot}
use Rattle.agc_stats.proofs.EraTimes.{cut_more, next_eras, none_joined, one_over}

pub not_some : (o : Option PendingRequest) → ((call : PendingRequest) → o ≡ Some call → ⊥) → o ≡ None
not_some None never = refl
not_some (Some call) never = absurd (never call refl)

-- no request was made yet
pub none_made : (timed : Bool) (history : List Snapshot) (m : Machined) (pending : Pending) (s : JobStatistics) → AreFollowed history s → s.eras.items ≡ [] → used_in s.era ≡ all_used [] → AreSoFar timed history m pending s m pending
none_made timed history m pending s are eras era = record {
  steps = [];
  followed = are;
  over = [];
  present = [];
  eras_are = ap (map used_in) eras;
  era_is = era;
  cut = none_joined;
  leads = λ more rest steps. steps;
}

begins_if : (b : Bool) (jobs : List (Option ObservedJob)) → is_some (if b then Some jobs else None) ≡ b
begins_if true jobs = refl
begins_if false jobs = refl

pub one_made : (timed : Bool) (history : List Snapshot) (m : Machined) (pending : Pending) (now : Machined) (old mid new : Pending) (call : PendingRequest) (next : Machined) (elapsed : Elapsed) (ticks : Bool) (left : List (Option ObservedJob)) (era : Option (List (Option ObservedJob))) (before passed later : JobStatistics)
    → AreSoFar timed history m pending before now old
    → Pulls now old (Some call) mid → elapsed ≡ elapsed_in (plain_of now).work.jobs old mid → Elapses old.clock elapsed mid.clock
    → next ≡ after now call.request → new ≡ asks_after now mid call
    → ticks ≡ (not timed && is_passing (record { machine = now; request = call.request; elapsed = elapsed }))
    → left ≡ states_in (scene_at now call.request).seats
    → era ≡ (if begins_with (answer_of now call.request) then Some (states_in (scene_now (after now call.request)).seats) else None)
    → ((h : List Snapshot) → AreFollowed h before → AreFollowed (noted_by (passed_by elapsed ticks) left era h) later)
    → passed.eras ≡ before.eras → ((all : List Elapsed) → used_in before.era ≡ all_used all → used_in passed.era ≡ all_used (all ++ elapsed ∷ [])) → IsNextEra (is_some era) passed later
    → AreSoFar timed history m pending later next new
one_made timed history m pending now old mid new call next elapsed ticks left era before passed later so_far pulls elapsed_is elapses next_is new_is ticks_is left_is era_is served same_eras passes next_era =
    let step : Step = record { machine = now; request = call.request; elapsed = elapsed } in
    let h : List Snapshot = fold (noted timed) history so_far.steps in
    let same : noted_by (passed_by elapsed ticks) left era h ≡ fold (noted timed) history (so_far.steps ++ step ∷ []) =
    ap (λ (b : Bool). noted_by (passed_by elapsed b) left era h) ticks_is
    ∙ ap (λ (l : List (Option ObservedJob)). noted_by (passed_by elapsed (not timed && is_passing step)) l era h) left_is
    ∙ ap (λ (o : Option (List (Option ObservedJob))). noted_by (passed_by elapsed (not timed && is_passing step)) (states_in (scene_at now call.request).seats) o h) era_is
    ∙ sym (fold_push (noted timed) history so_far.steps step) in
    let begins : is_some era ≡ begins_era step = ap is_some era_is ∙ begins_if (begins_era step) (states_in (scene_now (after now call.request)).seats) in
    let uses = next_eras (begins_era step) passed later so_far.over (so_far.present ++ elapsed ∷ []) (subst (λ (b : Bool). IsNextEra b passed later) begins next_era) (ap (λ v. map used_in v.items) same_eras ∙ so_far.eras_are) (passes so_far.present so_far.era_is) in
    record {
      steps = so_far.steps ++ step ∷ [];
      followed = subst (λ (l : List Snapshot). AreFollowed l later) same (served h so_far.followed);
      over = cond (begins_era step) (so_far.over ++ (so_far.present ++ elapsed ∷ []) ∷ []) so_far.over;
      present = cond (begins_era step) [] (so_far.present ++ elapsed ∷ []);
      eras_are = uses.0;
      era_is = uses.1;
      cut = cut_more so_far.over so_far.present so_far.steps step (begins_era step) refl so_far.cut;
      leads = λ more rest steps.
          subst (λ (l : List Step). AreSteps m pending l rest) (sym (append_assoc so_far.steps (step ∷ []) more))
          (so_far.leads (step ∷ more) rest (
            call,
            mid,
            pulls,
            refl,
            refl,
            elapsed_is,
            elapses,
            subst (λ (p : Pending). AreSteps (after now call.request) p more rest) new_is
                (subst (λ (k : Machined). AreSteps k new more rest) next_is steps),
          ));
    }

-- all were made
pub all_made : (timed : Bool) (history : List Snapshot) (m : Machined) (pending : Pending) (now : Machined) (old mid : Pending) (rest : Elapsed) (before passed later : JobStatistics)
    → AreSoFar timed history m pending before now old
    → Pulls now old None mid → rest ≡ elapsed_in (plain_of now).work.jobs old mid → Elapses old.clock rest mid.clock
    → ((h : List Snapshot) → AreFollowed h before → AreFollowed (history_on timed h [] rest) later)
    → passed.eras ≡ before.eras → ((all : List Elapsed) → used_in before.era ≡ all_used all → used_in passed.era ≡ all_used (all ++ rest ∷ [])) → later.eras.items ≡ passed.eras.items ++ passed.era ∷ []
    → AreOfRun timed history m pending later
all_made timed history m pending now old mid rest before passed later so_far pulls rest_is elapses ends same_eras passes over =
    let uses : map used_in later.eras.items ≡ map all_used (passed_by_era (so_far.steps ++ []) rest) =
    ap (map used_in) over
    ∙ one_over passed.eras.items passed.era so_far.over (so_far.present ++ rest ∷ []) (ap (λ v. map used_in v.items) same_eras ∙ so_far.eras_are) (passes so_far.present so_far.era_is)
    ∙ ap (map all_used) (so_far.cut [] rest) in
    let steps : AreSteps m pending (so_far.steps ++ []) rest = so_far.leads [] rest (mid, pulls, rest_is, elapses) in
    (so_far.steps, rest, subst (λ (l : List Step). AreSteps m pending l rest) (append-nil so_far.steps) steps, ends (fold (noted timed) history so_far.steps) so_far.followed, uses ∙ ap (λ (l : List Step). map all_used (passed_by_era l rest)) (append-nil so_far.steps))

-- a bench or a scenario
mapped_some : (timing : Option (Bor Timed)) → is_some timing ≡ is_some (option_map (λ (t : Bor Timed). t.now) timing)
mapped_some None = refl
mapped_some (Some t) = refl

pub of_subject : (subject : Subject) (m : Machined) (pending : Pending) (jobs : List (Option ObservedJob)) (timing : Option (Bor Timed)) (made ended sorted : JobStatistics)
    → m ≡ machine_of subject → IsOf subject pending → option_map (λ (t : Bor Timed). t.now) timing ≡ timing_of subject
    → made.timing ≡ timing → ended.timing ≡ made.timing → sorted.timing ≡ ended.timing
    → jobs ≡ states_in (scene_now (machine_of subject)).seats
    → AreOfRun (is_some made.timing) (begun jobs []) m pending ended
    → ((history : List Snapshot) → AreFollowed history ended → AreFollowed history sorted) → sorted.eras ≡ ended.eras
    → All (λ row. IsNonDecreasing row.responses.items) sorted.rows.items
    → AreJobsOf subject sorted
of_subject subject m pending jobs timing made ended sorted same its timing_is made_is ended_is sorted_is jobs_are are follows same_eras in_order =
    let timed : is_some made.timing ≡ is_some (timing_of subject) = ap is_some made_is ∙ mapped_some timing ∙ ap is_some timing_is in
    let now : AreOfRun (is_some made.timing) (begun jobs []) m pending sorted =
    (are.0, are.1, are.2, follows (history_on (is_some made.timing) (begun jobs []) are.0 are.1) are.3, ap (λ v. map used_in v.items) same_eras ∙ are.4) in
    record {
      timing_is = ap (option_map (λ (t : Bor Timed). t.now)) (sorted_is ∙ ended_is ∙ made_is) ∙ timing_is;
      sorted = in_order;
      pending = pending;
      its = its;
      are = subst (λ (x : Machined). AreOfRun (is_some (timing_of subject)) (begun (states_in (scene_now (machine_of subject)).seats) []) x pending sorted) same
          (subst (λ (l : List (Option ObservedJob)). AreOfRun (is_some (timing_of subject)) (begun l []) m pending sorted) jobs_are
          (subst (λ (b : Bool). AreOfRun b (begun jobs []) m pending sorted) timed now));
    }
