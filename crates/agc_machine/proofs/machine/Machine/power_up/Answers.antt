use Rattle.std.proofs.Common.{ℕ, ap, ◌∙◌}
use Rattle.agc_word.specs.Profiles.{count_of}
use Rattle.agc_plan.specs.Plans.{planned_with}
use Rattle.agc_phase.specs.Image.{base_of}
use Rattle.agc_machine.specs.Machines.{begun_with}
use Rattle.agc_machine.proofs.Beginning.{sets_made}
use Rattle.agc_machine.proofs.machine.Machine.power_up.Goals as goal

pub returns-clause-recovered : goal.returns-clause-recovered
returns-clause-recovered c = c.recover_into-recovered.ensures.recovered

pub returns-clause-machine : goal.returns-clause-machine
returns-clause-machine c =
    c.in_ok-begun.ensures
    ∙ ap (λ (n : ℕ). begun_with (planned_with c.args.plan n) c.args.limit c.args.allowance (base_of c.recover_into-recovered.new.e))
    (sets_made c.args.sets c.new-erasable.result c.recover_into-recovered.new.e c.new-erasable.ensures c.recover_into-recovered.ensures.base.others.same_length)
    ∙ ap (begun_with (planned_with c.args.plan (count_of c.args.sets)) c.args.limit c.args.allowance) c.recover_into-recovered.ensures.base.base_is
