use Rattle.std.proofs.Common.{arith, ◌≡◌, ◌++◌, [], Some, ap, length, nat_eq, sym, subst, ◌∙◌}
use Rattle.agc_latch.specs.Accounts.{IsOf}
use Rattle.agc_latch.specs.Lines.{zeros}
use Rattle.agc_desk.specs.Desks.{Desked}
use Rattle.agc_desk.specs.Draining.{answers_to}
use Rattle.agc_desk.specs.History.{Holder, new_holder, with_heard}
use Rattle.agc_desk.specs.Keeping.{IsLent, lent_of}
use Rattle.agc_bench.specs.Sharing.{first_calls}
use Rattle.agc_bench.specs.Threads.{askers_of}
use Rattle.agc_bench.proofs.Histories.{begins_with, same_number}
use Rattle.agc_bench.proofs.Settling.{of_latch}
use Rattle.agc_bench.proofs.opening.with_threads.Goals as goal

pub invariant_of-result : goal.invariant_of-result
invariant_of-result g c =
    let given : Desked = c.threads_and_devices.new.desk in
    let asked : Desked = c.ask_script.new.desk in
    let bench = c.args.bench.now in
    let begun = c.requires.desk in
    let parted = c.in-Ok.ensures.desk in
    let machine : given.machine ≡ g.N.Names.first =
    ap (λ (d : Desked). d.machine) parted ∙ ap (λ (d : Desked). d.machine) begun in
    let none : given.history ≡ [] =
    ap (λ (d : Desked). d.history) parted ∙ ap (λ (d : Desked). d.history) begun in
    let calls : asked.history ≡ g.N.Sharing.begun =
    c.ask_script.ensures.history
    ∙ (ap (λ l. l ++ first_calls (answers_to given.machine c.script.result.now)) none
    ∙ (ap (λ m. first_calls (answers_to m c.script.result.now)) machine
    ∙ (ap (λ rs. first_calls (answers_to g.N.Names.first rs)) c.script.ensures ∙ sym c.requires.begun))) in
    let many : asked.given ≡ length (askers_of bench) =
    c.ask_script.ensures.given ∙ ap (λ (d : Desked). d.given) parted in
    let stays : lent_of asked.lines ≡ record { latch = Some c.args.latch.now; given = length bench.devices; settled = zeros } =
    ap lent_of c.ask_script.ensures.lines ∙ c.in-Ok.ensures.lent in
    record {
      given = c.requires.shares asked.given ∙ (ap (λ n. nat_eq n (length (askers_of bench))) many ∙ same_number (length (askers_of bench)));
      begun = begins_with g.N.Sharing.begun asked.history calls;
      latch = subst (λ l. IsOf l asked.lines.taker) c.requires.latch (of_latch asked.lines c.args.latch.now (length bench.devices) stays);
      lent = subst (λ said. IsLent said asked.lines) (sym c.requires.lent) stays;
    }

pub returns-in-Ok-clause-ready : goal.returns-in-Ok-clause-ready
returns-in-Ok-clause-ready g c =
    let given : Desked = c.threads_and_devices.new.desk in
    let machine : given.machine ≡ g.N.Names.first =
    ap (λ (d : Desked). d.machine) c.in-Ok.ensures.desk
    ∙ ap (λ (d : Desked). d.machine) c.requires.desk in
    record {
      caller_is =
          c.ask_script.ensures.heard
          ∙ (ap (λ (h : Holder). with_heard (first_calls (answers_to given.machine c.script.result.now)) h) c.requires.first
          ∙ (ap (λ m. with_heard (first_calls (answers_to m c.script.result.now)) (new_holder 0)) machine
          ∙ ap (λ rs. with_heard (first_calls (answers_to g.N.Names.first rs)) (new_holder 0)) c.script.ensures));
      fresh = c.in-Ok.ensures.fresh;
      for_each = omega (arith, c.in-Ok.ensures.for_each);
      devices_are = c.in-Ok.ensures.devices;
    }
