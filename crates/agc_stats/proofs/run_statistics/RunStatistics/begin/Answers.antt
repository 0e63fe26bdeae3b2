use Rattle.std.proofs.Common.{◌≡◌, [], refl, ap, subst, ◌∙◌}
use Rattle.agc_stats.specs.Eras.{IsEra}
use Rattle.agc_stats.specs.Runs.{occupancy_now, with_era}
use Rattle.agc_stats.specs.declared.occupancy.Occupancy.{Occupancy}
use Rattle.agc_stats.proofs.Occupancies.{now_is}
use Rattle.agc_stats.proofs.run_statistics.RunStatistics.begin.Goals as goal

pub returns : goal.returns
returns c =
    let full : c.occupancy_of-self.result ≡ occupancy_now c.args.machine.now = now_is c.args.machine.now c.erasable.result.now c.occupancy_of-self.result c.erasable.ensures c.occupancy_of-self.ensures in
    record {
      time_is = refl;
      requests_is = refl;
      refused_is = refl;
      longest_is = refl;
      occupancy_is = full;
      number_is = c.saturating_add-self.ensures;
      by_is = c.of-boundary.ensures;
      peaks_is = c.include.ensures ∙ ap (with_era c.args.self.now.era) c.note_alarm.ensures;
      era_is = subst (λ (o : Occupancy). IsEra c.args.self.now.time o [] c.new-self.result) full c.new-self.ensures;
      ended_number = c.present_era-ended.ensures.number;
      ended_by = c.present_era-ended.ensures.by;
      ended_time = c.present_era-ended.ensures.ended;
      ended_end = c.present_era-ended.ensures.end ∙ c.of-boundary.ensures;
      ended_era = c.present_era-ended.ensures.era;
    }
