use Rattle.std.proofs.Common.{◌≡◌, ◌++◌, ◌∷◌, ℕ, List, ap, subst, sym, ◌∙◌}
use Rattle.agc_latch.specs.Lines.{on}
use Rattle.agc_desk.specs.declared.ties.Call.{Call}
use Rattle.agc_desk.specs.Desks.{ArePulses, Desked}
use Rattle.agc_desk.specs.History.{Holder, IsHistory}
use Rattle.agc_bench.proofs.closing.finish.Goals as goal

pub returns-in-Ok-clause-run : goal.returns-in-Ok-clause-run
returns-in-Ok-clause-run g c =
    let first = g.N.Names.first in
    let desk = c.settle_all-desk.result.0 in
    let settled = c.settle_all-desk.result.1 in
    let machine = c.in-Ok.machine in
    let goes_on = c.attend_last.ensures.history in
    let calls : desk.history ≡ c.args.parts.held.desk.history ++ goes_on.0 = ap (λ (d : Desked). d.history) c.settle_all-desk.ensures.desk ∙ goes_on.1 in
    record {
      more = goes_on.0;
      now = c.attend_last.new.share;
      attended = c.attend_last.ensures.asks;
      whole = subst (λ (l : List Call). IsHistory first (c.attend_last.new.share ∷ c.args.parts.shares.items) l machine) calls
          c.in-Ok.ensures.history;
      begun = desk.lines.begun;
      pulses = subst (λ (l : List Call). ArePulses first.plan l settled.applied desk.lines.begun) calls
          (subst (λ (l : List ℕ). ArePulses first.plan desk.history l desk.lines.begun) (sym c.settle_all-desk.ensures.applied) c.in-Ok.ensures.pulses);
      none_begun = λ line none. c.in-Ok.ensures.kept.none_begun line (ap (on line) (sym c.settle_all-desk.ensures.owed) ∙ none);
    }
