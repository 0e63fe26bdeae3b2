use Rattle.std.proofs.Common.{◌≡◌, ℕ, ◌+◌, ◌^◌, ◌-◌, ◌∷◌, ◌++◌, [], List, min, ap, ◌∙◌}
use Rattle.std.specs.List.{sum_by}
use Rattle.agc_clock.specs.declared.elapsed.Elapsed.{Elapsed}
use Rattle.agc_stats.specs.Eras.{all_used, counted, used_in}
use Rattle.agc_stats.specs.declared.era_time.EraTime.{EraTime}
use Rattle.agc_stats.proofs.Eras.{more, sum_more}
use Rattle.agc_stats.proofs.EraTimes.{same_use}
use Rattle.agc_stats.proofs.era_time.EraTime.pass.Goals as goal

pub returns-clause-used : goal.returns-clause-used
returns-clause-used c all is =
    let e : Elapsed = c.args.elapsed in
    let old : EraTime = c.args.self.now in
    same_use _ _ _ (all ++ e ∷ [])
    (c.saturating_add-self.ensures ∙ ap (λ (n : ℕ). min (old.computed + n) (2 ^ 64 - 1)) c.from.ensures ∙ more old.computed _ (ap (λ (u : Elapsed). u.computed) is) e.computed ∙ sum_more (λ (x : Elapsed). x.computed) all e)
    (c.saturating_add-self-2.ensures ∙ ap (λ (n : ℕ). min (old.stolen + n) (2 ^ 64 - 1)) c.from-2.ensures ∙ more old.stolen _ (ap (λ (u : Elapsed). u.stolen) is) e.stolen ∙ sum_more (λ (x : Elapsed). x.stolen) all e)
    (c.saturating_add-self-3.ensures ∙ ap (λ (n : ℕ). min (old.idle + n) (2 ^ 64 - 1)) c.from-3.ensures ∙ more old.idle _ (ap (λ (u : Elapsed). u.idle) is) e.idle ∙ sum_more (λ (x : Elapsed). x.idle) all e)
