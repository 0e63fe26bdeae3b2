use Rattle.std.proofs.Common.{Bool, cond, is_some, Option, List, [], ◌∷◌, ◌++◌, ℕ, refl, ap, ◌∙◌}
use Rattle.agc_stats.specs.Addresses.{earliest, is_end, missed_by, responses_of}
use Rattle.agc_stats.specs.declared.live_jobs.LifeEnd.TheVariants.{Alive, Ended, Lost}
use Rattle.agc_stats.specs.declared.live_jobs.JobLife.{JobLife}
use Rattle.agc_stats.proofs.Eras.{added}
use Rattle.agc_stats.proofs.Counting.{first_missed_more, on_ok, responses_more}
use Rattle.agc_stats.proofs.address_statistics.AddressStatistics.leave.Goals as goal

pub returns-clause-counts : goal.returns-clause-counts
returns-clause-counts c =
    let old = c.args.self.now in
    let g : JobLife = c.args.life.now in
    on_ok c.note_response.result (λ responses all row. record {
      lost_is = added (λ (x : JobLife). cond (is_end Lost x) 1 0) all g old.lost _ _ c.saturating_add-self.ensures c.if_by.ensures row.lost_is;
      alive_is = added (λ (x : JobLife). cond (is_end Alive x) 1 0) all g old.alive _ _ c.saturating_add-self-2.ensures c.if_by-2.ensures row.alive_is;
      preempted_is = added (λ (x : JobLife). x.job.preempted) all g old.preempted _ _ c.saturating_add-self-3.ensures refl row.preempted_is;
      computed_is = added (λ (x : JobLife). x.job.computed) all g old.computed _ _ c.saturating_add-self-4.ensures refl row.computed_is;
      responses_are = responses_more all g old.responses.items _ responses row.responses_are;
      computed_to_end_is = added (λ (x : JobLife). cond (is_end Ended x) x.job.computed 0) all g old.computed_to_end _ _ c.saturating_add-self-5.ensures c.if_by-computed.ensures row.computed_to_end_is;
      slept_to_end_is = added (λ (x : JobLife). cond (is_end Ended x) x.job.slept 0) all g old.slept_to_end _ _ c.saturating_add-self-6.ensures c.if_by-slept.ensures row.slept_to_end_is;
      missed_is = added (λ (x : JobLife). cond (is_some (missed_by old.deadline x)) 1 0) all g old.missed _ _ c.saturating_add-self-7.ensures (c.one_if.ensures ∙ ap (λ (b : Bool). cond b 1 0) c.is_some.ensures ∙ ap (λ (o : Option ℕ). cond (is_some o) 1 0) c.missed_deadline-missed.ensures) row.missed_is;
      first_missed_is = c.earliest-self.ensures ∙ ap (earliest old.first_missed) c.missed_deadline-missed.ensures ∙ ap (λ (o : Option ℕ). earliest o (missed_by old.deadline g)) row.first_missed_is ∙ first_missed_more old.deadline all g;
    }) c.note_response.ensures
