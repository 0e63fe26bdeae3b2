use Rattle.std.proofs.Common.{◌≡◌, ◌∙◌, ◌∷◌, List, Option, ap, sym, subst, refl}
use Rattle.agc_machine.specs.Machines.{Machined, after}
use Rattle.agc_plan.specs.declared.request.Request.{Request}
use Rattle.agc_session.specs.declared.source.PendingRequest.{PendingRequest}
use Rattle.agc_run.specs.Events.{Watching, event_of, watched}
use Rattle.agc_run.specs.declared.event.Event.{Event}
use Rattle.agc_run.specs.Runs.{Pending, Pulls, WatchingRun, all_to_ask, asks_after}
use Rattle.agc_run.proofs.observed_run.ObservedRun.next.Goals as goal

requested : (w : Watching) (q : Request) → (event_of w q).request ≡ q
unfolding event_of
requested w q = refl

pub returns-in-Some : goal.returns-in-Some
returns-in-Some c =
    let v = c.self.view_is in
    let m : Machined = c.self.inside.run.machine in
    let old : Watching = record { machine = m; asked = c.self.inside.asked; time = c.self.inside.time; total = c.self.inside.total; jobs = c.self.inside.jobs; tasks = c.self.inside.tasks } in
    let q : PendingRequest = c.in-Some.asked in
    let left : Pending = c.next.new.self.pending in
    let new : WatchingRun = c.serve-event.new.self in
    let same = c.next.ensures.machine in
    let pulls : all_to_ask m c.self.inside.run.pending ≡ q ∷ all_to_ask (after m q.request) (asks_after m left q) = subst (λ (a : Option PendingRequest). Pulls m c.self.inside.run.pending a left) c.in-Some.is c.next.ensures.pulls in
    let event : c.serve-event.result ≡ event_of old q.request = c.serve-event.ensures.event ∙ ap (λ (x : Machined). event_of (record old { machine = x }) q.request) same in
    let its : q.request ≡ c.serve-event.result.request = sym (ap (λ (e : Event). e.request) event ∙ requested old q.request) in
    let watching : new.watching ≡ watched old q.request = c.serve-event.ensures.watching ∙ ap (λ (x : Machined). watched (record old { machine = x }) q.request) same in
    let pending : new.pending ≡ asks_after m left q = c.serve-event.ensures.pending ∙ ap (λ (x : Machined). asks_after x left q) same in
    let then : all_to_ask new.watching.machine new.pending ≡ all_to_ask (after m q.request) (asks_after m left q) = ap (λ (w : Watching). all_to_ask w.machine new.pending) watching ∙ ap (all_to_ask (after m q.request)) pending in (
      ap (λ (r : WatchingRun). all_to_ask r.watching.machine r.pending) (sym v) ∙ pulls ∙ ap (λ (xs : List PendingRequest). q ∷ xs) (sym then)
          ∙ ap (λ (r : Request). record { source = q.source; request = r } ∷ all_to_ask new.watching.machine new.pending) its,
      event ∙ ap (event_of old) its ∙ ap (λ (r : WatchingRun). event_of r.watching c.serve-event.result.request) v,
      watching ∙ ap (watched old) its ∙ ap (λ (r : WatchingRun). watched r.watching c.serve-event.result.request) v,
    )
