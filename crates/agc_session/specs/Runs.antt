-- The machines of a script and of a bench, and what they are asked for.
use Rattle.std.specs.Prelude.{ℕ, ◌==◌, ◌&&◌, nat_le, Bool, List, [], ◌++◌, Option}
use Rattle.std.specs.Option.{option_map_or}
use Rattle.std.specs.List.{flat_map, list_all, range_with_len}
use Rattle.agc_word.specs.Words.{complement}
use Rattle.agc_plan.specs.declared.request.Request.{Request}
use Rattle.agc_plan.specs.Base.{Base, fresh_base}
use Rattle.agc_plan.specs.Plans.{Written, Planned, planned_with}
use Rattle.agc_phase.specs.Image.{minus_in, phase_in}
use Rattle.agc_machine.specs.Machines.{Machined, begun_with}
use Rattle.agc_phase.specs.Image.{power_base}
use Rattle.agc_plan.specs.Pulses.{pulse_requests, repeated}
use Rattle.agc_document.specs.Benches.{Benched}

-- the machine of a script: it has seven core sets, nothing is planned, the log holds 1000 requests,
-- and 1,000,000 are served
unfoldable pub script_machine : Machined
script_machine = begun_with (planned_with (record { rows = []; entries = []; key = []; radar = [] })
    7) 1000 1000000 fresh_base

-- whether the words -PHASE and PHASE of each group are complements, and the phase at most 127
abbrev pub pairs_agree : List ℕ → Bool
pairs_agree words = list_all (λ group. (minus_in words group == complement (phase_in words group))
    && nat_le (phase_in words group) 127) (range_with_len 0 6)

-- with what a bench's machine begins: as power comes back with these words, or else afresh
abbrev pub bench_base : Option (List ℕ) → Base
bench_base power = option_map_or (λ words. power_base (pairs_agree words) words) power fresh_base

-- the plan of a bench
abbrev pub plan_of : Benched → Written
plan_of b = record { rows = b.rows; entries = b.entries; key = b.key; radar = b.radar }

-- the plan of a bench, with its number of core sets
abbrev pub bench_plan : Benched → Planned
bench_plan bench = planned_with (plan_of bench) bench.sets

-- the machine of a bench, on this many core sets
abbrev pub machine_on : ℕ → Benched → Machined
machine_on sets bench = begun_with (planned_with (plan_of bench) sets) bench.limit bench.allowance
    (bench_base bench.power)

-- the machine of a bench, with the bench's number of core sets
unfoldable pub bench_machine : Benched → Machined
bench_machine bench = machine_on bench.sets bench

-- the requests of a bench: its script, then each worker's, then each device's, in order: all for
-- which each of its pulses asks, one pulse after the other
unfoldable pub bench_requests : Benched → List Request
bench_requests bench = bench.script ++ (flat_map (λ requests. requests) bench.workers
    ++ flat_map (λ device. repeated (pulse_requests (bench_plan bench) device.0) device.1)
    bench.devices)
