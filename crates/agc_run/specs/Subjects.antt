-- The subject of a run: a bench, or a scenario.
use Rattle.std.specs.Prelude.{◌≡◌, List, Option, Some, None}
use Rattle.agc_plan.specs.declared.request.Request.{Request}
use Rattle.agc_machine.specs.Machines.{Machined}
use Rattle.agc_scenario.specs.Scenarios.{Timed}
use Rattle.agc_document.specs.Benches.{Benched}
use Rattle.agc_session.specs.Runs.{bench_machine, bench_requests}
use Rattle.std.specs.List.{flat_map}
use Rattle.agc_session.specs.Pieces.{asks_in, bench_pieces}
use Rattle.agc_session.specs.declared.source.PendingRequest.{PendingRequest}
use Rattle.agc_run.specs.Runs.{Pending, all_to_ask, clock_asks, clock_requests}
use Rattle.agc_run.specs.declared.subject.Subject.{Subject}
use Rattle.agc_run.specs.declared.subject.Subject.TheVariants.{Bench, Scenario}

-- the bench whose machine it runs on
abbrev pub bench_of : Subject → Benched
bench_of (Bench bench) = bench.now
bench_of (Scenario scenario) = scenario.now.bench

-- how time passes, in a scenario
abbrev pub timing_of : Subject → Option Timed
timing_of (Bench bench) = None
timing_of (Scenario scenario) = Some scenario.now.timing

-- this machine
abbrev pub machine_of : Subject → Machined
machine_of subject = bench_machine (bench_of subject)

-- all requests for a machine: those of a bench, in the order of one caller, or those of the clock
-- of a scenario
abbrev pub requests_of : Subject → Machined → List Request
requests_of (Bench bench) machine = bench_requests bench.now
requests_of (Scenario scenario) machine = clock_requests scenario.now.timing machine

-- its requests, each with its source
abbrev pub asks_of : Subject → Machined → List PendingRequest
asks_of (Bench bench) machine = flat_map asks_in (bench_pieces bench.now)
asks_of (Scenario scenario) machine = clock_asks scenario.now.timing machine

-- all requests for its own machine
abbrev pub own_requests : Subject → List Request
own_requests subject = requests_of subject (machine_of subject)

-- the pending requests are all those of a subject, whatever the machine
abbrev pub IsOf : Subject → Pending → Type 0
IsOf subject pending = (m : Machined) → all_to_ask m pending ≡ asks_of subject m
