use Rattle.std.proofs.Common.{◌≡◌, ◌∷◌, ◌++◌, ◌<◌, ◌+◌, ℕ, List, get_or, Option, None, refl, sym, ap, subst, ◌∙◌, append_assoc, arith}
use Rattle.std.specs.Prelude.{IfSome}
use Rattle.std.specs.List.{filter_map, range_with_len}
use Rattle.std.specs.Option.{option_to_list}
use Rattle.agc_stats.specs.Addresses.{AreRows, releases_at}
use Rattle.agc_stats.specs.Followed.{deadlines_of}
use Rattle.agc_stats.specs.Lives.{alive_job, gone, lives, release_in, releases}
use Rattle.agc_stats.specs.declared.live_jobs.JobLife.{JobLife}
use Rattle.agc_stats.specs.declared.live_jobs.Snapshot.{Snapshot}
use Rattle.agc_stats.proofs.Released.{gone_released, mapped_more, slots_on, some_released}
use Rattle.agc_stats.proofs.job_statistics.JobStatistics.note_number.Goals as goal

pub returns-clause-jobs : goal.returns-clause-jobs
returns-clause-jobs c history up =
    let n = c.args.place in
    let s : Snapshot = c.args.snapshot.now in
    let old = c.args.self.now in
    let one = c.count_release.new.self in
    let two = c.count_life.new.self in
    let before = releases history ++ filter_map (λ (k : ℕ). release_in k s history) (range_with_len 0 n) in
    let over = lives history ++ filter_map (λ (k : ℕ). gone k s history) (range_with_len 0 n) in
    let alive : get_or old.live_jobs n None ≡ alive_job n history = up.alive_are n (omega arith) c.requires in
    let came : c.release.result ≡ release_in n s history = c.release.ensures n s history alive refl in
    let left : c.leave.result ≡ gone n s history = c.leave.ensures n history alive refl in
    let follows : c.follow.result ≡ alive_job n (s ∷ history) = c.follow.ensures n history alive refl in
    let first : AreRows (deadlines_of one.timing) (before ++ option_to_list c.release.result) over one.rows.items =
    subst (λ t. AreRows (deadlines_of t) (before ++ option_to_list c.release.result) over one.rows.items) (sym c.count_release.ensures.stays.1)
    (c.in_ok-count_release.ensures.rows before over up.rows_are) in
    let known : IfSome c.leave.result (λ l. 0 < releases_at l.job.at (before ++ option_to_list c.release.result)) =
    subst (λ (o : Option JobLife). IfSome o (λ l. 0 < releases_at l.job.at (before ++ option_to_list c.release.result))) (sym left)
    (some_released (gone n s history) (releases history) (filter_map (λ (k : ℕ). release_in k s history) (range_with_len 0 n)) (option_to_list c.release.result) (gone_released n s history c.requires)) in
    let second : AreRows (deadlines_of two.timing) (before ++ option_to_list c.release.result) (over ++ option_to_list c.leave.result) two.rows.items =
    subst (λ t. AreRows (deadlines_of t) (before ++ option_to_list c.release.result) (over ++ option_to_list c.leave.result) two.rows.items) (sym c.count_life.ensures.stays.1)
    (c.in_ok-count_life.ensures.rows (before ++ option_to_list c.release.result) over known first) in
    let more : before ++ option_to_list c.release.result ≡ releases history ++ filter_map (λ (k : ℕ). release_in k s history) (range_with_len 0 (n + 1)) =
    append_assoc (releases history) (filter_map (λ (k : ℕ). release_in k s history) (range_with_len 0 n)) (option_to_list c.release.result)
    ∙ ap (λ (o : Option ℕ). releases history ++ (filter_map (λ (k : ℕ). release_in k s history) (range_with_len 0 n) ++ option_to_list o)) came
    ∙ ap (λ (l : List ℕ). releases history ++ l) (sym (mapped_more (λ (k : ℕ). release_in k s history) n)) in
    let further : over ++ option_to_list c.leave.result ≡ lives history ++ filter_map (λ (k : ℕ). gone k s history) (range_with_len 0 (n + 1)) =
    append_assoc (lives history) (filter_map (λ (k : ℕ). gone k s history) (range_with_len 0 n)) (option_to_list c.leave.result)
    ∙ ap (λ (o : Option JobLife). lives history ++ (filter_map (λ (k : ℕ). gone k s history) (range_with_len 0 n) ++ option_to_list o)) left
    ∙ ap (λ (l : List JobLife). lives history ++ l) (sym (mapped_more (λ (k : ℕ). gone k s history) n)) in
    let slots = slots_on old.live_jobs two.live_jobs n c.follow.result (λ (k : ℕ). alive_job k history) (λ (k : ℕ). alive_job k (s ∷ history)) (c.count_life.ensures.stays.0 ∙ c.count_release.ensures.stays.0) up.eight c.requires follows up.noted up.alive_are in
    record {
      eight = slots.0;
      noted = slots.1.0;
      alive_are = slots.1.1;
      rows_are = subst (λ (l : List ℕ). AreRows (deadlines_of two.timing) l (lives history ++ filter_map (λ (k : ℕ). gone k s history) (range_with_len 0 (n + 1))) two.rows.items) more
          (subst (λ (l : List JobLife). AreRows (deadlines_of two.timing) (before ++ option_to_list c.release.result) l two.rows.items) further second);
    }

pub returns-clause-eras : goal.returns-clause-eras
returns-clause-eras c = record {
  eras_are = c.count_life.ensures.eras.eras_are ∙ c.count_release.ensures.eras.eras_are;
  era_is = c.count_life.ensures.eras.era_is ∙ c.count_release.ensures.eras.era_is;
}
