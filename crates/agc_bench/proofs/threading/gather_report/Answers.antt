use Rattle.std.proofs.Common.{arith, ◌≡◌, Some, ap, length, subst, sym, take, vec_len, ◌∙◌}
use Rattle.std.specs.List.{All}
use Rattle.std.proofs.lemmas.List.{length-map}
use Rattle.agc_latch.specs.Ends.{Posting}
use Rattle.agc_latch.specs.Lines.{zeros}
use Rattle.agc_desk.specs.Keeping.{IsLent}
use Rattle.agc_bench.specs.Sharing.{spent_device}
use Rattle.agc_bench.specs.Threads.{askers_of}
use Rattle.agc_bench.proofs.Histories.{none_before, number_is, run_finished}
use Rattle.agc_bench.proofs.Settling.{all_of, settled_of}
use Rattle.agc_bench.proofs.threading.gather_report.Goals as goal

pub finish-requires-clause-given : goal.finish-requires-clause-given
finish-requires-clause-given g c =
    let ran = c.in_ok-ended.ensures.run in
    let held = c.in_ok-ended.ended.held in
    let given : held.desk.given ≡ length (askers_of c.args.bench.now) = number_is _ _ (sym (c.requires.shares held.desk.given) ∙ held.given) in
    omega (arith, given, ran.asked.for_each, ran.ready.for_each)

pub finish-requires-clause-lent : goal.finish-requires-clause-lent
finish-requires-clause-lent g c =
    let ran = c.in_ok-ended.ensures.run in
    let devices = c.args.bench.now.devices in
    let many : length devices ≡ vec_len c.in_ok-ended.ended.devices = omega (arith, ap length ran.devices_are, length-map devices (spent_device c.args.outfit.latch)) in
    subst (λ said. IsLent said c.in_ok-ended.ended.held.desk.lines) c.requires.lent c.in_ok-ended.ended.held.lent
    ∙ (λ i. record { latch = Some c.args.outfit.latch; given = many i; settled = zeros })

pub finish-requires-clause-devices : goal.finish-requires-clause-devices
finish-requires-clause-devices g c =
    subst (λ ds. All (λ (d : Posting). d.latch ≡ c.args.outfit.latch) ds) (sym c.in_ok-ended.ensures.run.devices_are) (all_of c.args.outfit.latch c.args.bench.now.devices)

pub returns-clause-run : goal.returns-clause-run
returns-clause-run g c =
    run_finished (λ n call answer. g.G.Gate.may_answer c.args.gate.now n call answer) (λ n call said. g.G.Gate.is_told c.args.gate.now n call said) c.args.bench.now g.N.Names.first c.args.outfit.latch c.in_ok-ended.ended.held.desk.history c.in_ok-ended.ended.first c.in_ok-ended.ended.shares.items c.in_ok-ended.ended.devices.items
    c.in_ok-machine.machine c.in_ok-machine.settled c.requires.bench
    (subst (λ l. take (length l) c.in_ok-ended.ended.held.desk.history ≡ l) c.requires.begun c.in_ok-ended.ended.held.begun)
    c.in_ok-ended.ensures.run c.in_ok-machine.ensures.run

pub returns-clause-totals : goal.returns-clause-totals
returns-clause-totals g c =
    none_before c.args.bench.now g.N.Names.first c.in_ok-machine.totals c.in_ok-machine.machine.totals c.requires.bench c.in_ok-machine.ensures.grown

pub returns-clause-pulses : goal.returns-clause-pulses
returns-clause-pulses g c =
    settled_of c.args.bench.now c.args.outfit.latch c.in_ok-ended.ended.devices.items c.in_ok-machine.settled c.in_ok-ended.ensures.run.devices_are c.in_ok-machine.ensures.settled
