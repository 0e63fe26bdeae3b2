-- A run that was followed to its end, from its machine's first request on.
use Rattle.std.proofs.Common.{◌≡◌, List, refl, ap, ◌∙◌}
use Rattle.std.specs.List.{fold}
use Rattle.agc_machine.specs.Machines.{Machined, after}
use Rattle.agc_plan.specs.declared.request.Request.{Request}
use Rattle.agc_run.specs.Events.{Watching, watched, watching_from}
use Rattle.agc_run.specs.Runs.{Pending, all_to_ask, requests_in, to_ask}
use Rattle.agc_session.specs.Pieces.{asks_in, script_piece}
use Rattle.agc_run.specs.Subjects.{IsOf, requests_of}
use Rattle.agc_run.specs.declared.subject.Subject.{Subject}
use Rattle.agc_run.specs.declared.subject.Subject.TheVariants.{Bench, Scenario}
use Rattle.agc_session.specs.declared.source.Source.TheVariants.{Script}
use Rattle.agc_run.proofs.Resting.{bench_asked, source_asked}

pub followed : (w : Watching) (a : Pending) (m n : Machined) (all : Machined → List Request) → w ≡ watching_from m → m ≡ n → ((k : Machined) → to_ask k a ≡ all k) → fold watched w (to_ask w.machine a) ≡ fold watched (watching_from n) (all n)
followed w a m n all is same pending =
    ap (λ (x : Watching). fold watched x (to_ask x.machine a)) (is ∙ ap watching_from same) ∙ ap (fold watched (watching_from n)) (pending n)

pub asked_all : (x : Machined) (a : Pending) (n : Machined) (all : Machined → List Request) → x ≡ n → ((k : Machined) → to_ask k a ≡ all k) → fold after x (to_ask x a) ≡ fold after n (all n)
asked_all x a n all same pending = ap (λ (y : Machined). fold after y (to_ask y a)) same ∙ ap (fold after n) (pending n)

pub asked_on : (w : Watching) (a : Pending) (n : Machined) (all : Machined → List Request) → w ≡ watching_from n → ((k : Machined) → to_ask k a ≡ all k) → fold watched w (to_ask w.machine a) ≡ fold watched (watching_from n) (all n)
asked_on w a n all is pending = followed w a n n all is refl pending

-- the requests of all that is asked in a subject, and in a script
pub its_requests : (subject : Subject) (pending : Pending) → IsOf subject pending → (m : Machined) → to_ask m pending ≡ requests_of subject m
its_requests (Bench bench) pending all m = ap requests_in (all m) ∙ bench_asked bench.now
its_requests (Scenario scenario) pending all m = ap requests_in (all m)

pub script_requests : (script : List Request) (pending : Pending) → ((m : Machined) → all_to_ask m pending ≡ asks_in (script_piece script)) → (m : Machined) → to_ask m pending ≡ script
script_requests script pending all m = ap requests_in (all m) ∙ source_asked Script script
