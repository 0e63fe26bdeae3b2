use Rattle.std.proofs.Common.{◌≡◌, ℕ, refl, sym, subst, arith}
use Rattle.std.specs.Vec.{vec_capacity}
use Rattle.agc_word.specs.Layout.{sets_in}
use Rattle.agc_plan.specs.Plans.{planned_with}
use Rattle.agc_machine.proofs.Beginning.{same_sets}
use Rattle.agc_machine.proofs.Serving.{IsKept, kept_begun}
use Rattle.agc_machine.proofs.machine.Machine.begun.Goals as goal

pub invariant_of-result : goal.invariant_of-result
invariant_of-result c =
    let same : sets_in c.begin_era.new.e ≡ sets_in c.args.erasable = same_sets c.args.erasable c.begin_era.new.e c.begin_era.ensures.same_length in
    subst (λ (n : ℕ). IsKept (record { plan = planned_with c.args.plan n; limit = c.args.limit; allowance = c.args.allowance; base = c.read-base.result; log = c.in_ok-log.log.items; totals = c.zero.result }) c.begin_era.new.e (vec_capacity c.in_ok-log.log)) (sym same)
    (kept_begun (planned_with c.args.plan (sets_in c.args.erasable)) c.args.limit c.args.allowance c.read-base.result c.in_ok-log.log.items c.zero.result c.args.erasable c.begin_era.new.e _ (omega arith) (omega arith) c.in_ok-log.ensures.room (omega arith) c.in_ok-log.ensures.empty c.zero.ensures c.requires c.read-base.ensures refl c.begin_era.ensures)
