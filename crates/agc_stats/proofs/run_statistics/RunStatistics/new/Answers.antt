use Rattle.std.proofs.Common.{[], refl, subst}
use Rattle.agc_stats.specs.Eras.{IsEra}
use Rattle.agc_stats.specs.declared.occupancy.Occupancy.{Occupancy}
use Rattle.agc_stats.proofs.Occupancies.{now_is}
use Rattle.agc_stats.proofs.Runs.{none_yet}
use Rattle.agc_stats.proofs.run_statistics.RunStatistics.new.Goals as goal

pub returns-clause-statistics : goal.returns-clause-statistics
returns-clause-statistics c =
    none_yet c.args.machine.now _ refl refl refl refl refl refl c.none.ensures
    (subst (λ (o : Occupancy). IsEra 0 o [] c.new.result) (now_is c.args.machine.now c.erasable.result.now c.occupancy_of-occupancy.result c.erasable.ensures c.occupancy_of-occupancy.ensures) c.new.ensures)

pub returns-clause-occupancy : goal.returns-clause-occupancy
returns-clause-occupancy c = now_is c.args.machine.now c.erasable.result.now c.occupancy_of-occupancy.result c.erasable.ensures c.occupancy_of-occupancy.ensures
