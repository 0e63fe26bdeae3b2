use Rattle.std.proofs.Common.{ℕ, ◌+◌, ◌-◌, ◌^◌, min, refl, ap, ◌∙◌}
use Rattle.agc_stats.proofs.Eras.{one_more}
use Rattle.agc_stats.proofs.era.EraStatistics.serve.Goals as goal

pub returns : goal.returns
returns c began first records era =
    let old = c.args.self.now in
    one_more began first records c.args.served.now old _ era (record {
      began_is = refl;
      requests_is = c.saturating_add-self.ensures;
      begun_is = c.saturating_add-self-2.ensures ∙ ap (λ (n : ℕ). min (old.jobs_begun + n) (2 ^ 64 - 1)) c.saturating_sub-begun.ensures;
      ended_is = c.saturating_add-self-3.ensures ∙ ap (λ (n : ℕ). min (old.jobs_ended + n) (2 ^ 64 - 1)) c.saturating_sub-ended.ensures;
      sets_is = c.include.ensures;
      areas_is = c.include-2.ensures;
      tasks_is = c.include-3.ensures;
      idle_is = c.saturating_add-self-4.ensures ∙ ap (λ (n : ℕ). min (old.idle + n) (2 ^ 64 - 1)) c.idle_ticks-idle.ensures;
    })
