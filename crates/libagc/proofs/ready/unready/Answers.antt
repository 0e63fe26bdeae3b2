use Rattle.std.proofs.Common.{◌≡◌, true, false, refl, sym, ◌∙◌, inl, inr, rules}
use Rattle.agc_machine.proofs.Frames.{none_counted}
use Rattle.libagc.proofs.ready.unready.Goals as goal

pub returns-then-due-clause-lacks : goal.returns-then-due-clause-lacks
returns-then-due-clause-lacks c = λ plan. inl (sym c.due.ensures.value ∙ c.if-due.true, refl)

pub returns-then-not-is_tidy-clause-lacks : goal.returns-then-not-is_tidy-clause-lacks
returns-then-not-is_tidy-clause-lacks c = λ plan.
    let off : c.is_tidy.result ≡ false = search rules in
    inr (inl (sym c.due.ensures.value ∙ c.if-due.false, (λ ready. absurd (let never : false ≡ true = sym off ∙ c.is_tidy.ensures.no (ready.sound.tidy_cores, ready.sound.tidy_waits) in cc)), refl))

pub returns-else-not-is_tidy-clause-ready : goal.returns-else-not-is_tidy-clause-ready
returns-else-not-is_tidy-clause-ready c =
    let tidy = c.is_tidy.ensures.yes (search rules) in
    record {
      sound = record {
        size = c.requires.cores.sets.sized;
        tidy_cores = tidy.0;
        tidy_waits = tidy.1;
        cores = c.requires.cores;
        waits = c.requires.waits;
        phases = c.requires.phases;
      };
      none_due = none_counted c.args.image.now c.requires.waits (sym c.due.ensures.value ∙ c.if-due.false);
    }
