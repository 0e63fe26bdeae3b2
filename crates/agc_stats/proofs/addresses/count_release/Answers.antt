use Rattle.std.proofs.Common.{◌≡◌, ◌==◌, ◌++◌, ◌∷◌, [], Bool, cond, List, Some, None, refl, sym, ap, subst, ◌∙◌}
use Rattle.std.specs.List.{position}
use Rattle.std.specs.Result.{is_ok}
use Rattle.agc_stats.specs.Addresses.{AreRows}
use Rattle.agc_stats.specs.declared.address_statistics.AddressStatistics.{AddressStatistics}
use Rattle.agc_stats.proofs.Rows.{changed, first_row, joined, released_row, same_addresses, those_releases}
use Rattle.agc_stats.proofs.addresses.count_release.Goals as goal

pub returns-in-Some : goal.returns-in-Some
returns-in-Some c deadlines releases lives deadline are =
    let at = c.args.at in
    let rows : List AddressStatistics = c.args.rows.now.items in
    let place : position (λ (r : AddressStatistics). r.at == at) rows ≡ Some c.in-Some.place = sym (c.place_of.ensures ∙ ap (position (λ (r : AddressStatistics). r.at == at)) c.as_slice.ensures.value) ∙ c.in-Some.is in
    changed deadlines releases (releases ++ at ∷ []) lives lives rows at c.in-Some.place c.index_mut.result.now c.release.new.self are place c.index_mut.ensures.value
    (ap (λ (r : AddressStatistics). r.at) c.release.ensures) (same_addresses deadlines releases lives rows at c.in-Some.place c.index_mut.result.now are place)
    (λ a differs. those_releases a at releases differs) (λ a differs. refl)
    (λ at_is is. released_row deadlines releases lives at c.index_mut.result.now c.release.new.self c.release.ensures at_is is)

pub returns-in_ok-push-in-None : goal.returns-in_ok-push-in-None
returns-in_ok-push-in-None c deadlines releases lives deadline are =
    let at = c.args.at in
    let rows : List AddressStatistics = c.args.rows.now.items in
    let none : position (λ (r : AddressStatistics). r.at == at) rows ≡ None = sym (c.place_of.ensures ∙ ap (position (λ (r : AddressStatistics). r.at == at)) c.as_slice.ensures.value) ∙ c.in-None.is in
    let new : AddressStatistics = c.release-in-None.new.self in
    let pushed : c.push.new.self.items ≡ rows ++ new ∷ [] = c.push.ensures.items ∙ ap (λ (b : Bool). cond b (rows ++ new ∷ []) rows) (ap is_ok c.in_ok-push-in-None.was) in
    subst (AreRows deadlines (releases ++ at ∷ []) lives) (sym pushed)
    (joined deadlines releases lives rows at new are none (ap (λ (r : AddressStatistics). r.at) c.release-in-None.ensures ∙ c.at-row.ensures.address.0)
    (λ no_release no_life. first_row deadlines releases lives at c.at-row.result new c.at-row.ensures.none c.at-row.ensures.address.0 c.at-row.ensures.address.1.0 (c.at-row.ensures.address.1.1 ∙ deadline) c.release-in-None.ensures no_release no_life))
