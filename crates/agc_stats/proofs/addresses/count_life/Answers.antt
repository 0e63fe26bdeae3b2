use Rattle.std.proofs.Common.{◌≡◌, ◌==◌, ◌++◌, ◌∷◌, [], Some, refl, sym, ap, ◌∙◌}
use Rattle.std.specs.List.{position}
use Rattle.agc_stats.specs.declared.address_statistics.AddressStatistics.{AddressStatistics}
use Rattle.agc_stats.proofs.Counting.{on_ok}
use Rattle.agc_stats.proofs.Rows.{changed, has_row, life_row, these_lives}
use Rattle.agc_stats.proofs.addresses.count_life.Goals as goal

pub returns-in-Some : goal.returns-in-Some
returns-in-Some c =
    let life = c.args.life.now in
    let place : position (λ (r : AddressStatistics). r.at == life.job.at) c.args.rows.now.items ≡ Some c.in-Some.place = sym (c.place_of.ensures ∙ ap (position (λ (r : AddressStatistics). r.at == life.job.at)) c.as_slice.ensures.value) ∙ c.in-Some.is in
    on_ok c.leave.result (λ counts deadlines releases lives some are.
    changed deadlines releases releases lives (lives ++ life ∷ []) c.args.rows.now.items life.job.at c.in-Some.place c.index_mut.result.now c.leave.new.self are place c.index_mut.ensures.value
    c.leave.ensures.stays.0 refl (λ a differs. refl) (λ a differs. these_lives a life lives differs)
    (λ at_is is. life_row deadlines releases lives life c.index_mut.result.now c.leave.new.self counts c.leave.ensures.stays.0 c.leave.ensures.stays.1.0 c.leave.ensures.stays.1.1 at_is is))
    c.leave.ensures.counts

pub returns-in-None : goal.returns-in-None
returns-in-None c deadlines releases lives some are =
    has_row deadlines releases lives c.args.rows.now.items c.args.life.now.job.at are
    (sym (c.place_of.ensures ∙ ap (position (λ (r : AddressStatistics). r.at == c.args.life.now.job.at)) c.as_slice.ensures.value) ∙ c.in-None.is) some
