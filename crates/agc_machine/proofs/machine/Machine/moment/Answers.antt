use Rattle.std.proofs.Common.{subst, ◌≡◌, ℕ, List, sym, ◌∙◌, false}
use Rattle.agc_machine.specs.Machines.{Machined, plain_of, places_of}
use Rattle.agc_machine.specs.Moments.{IsMoment, Acting}
use Rattle.agc_machine.proofs.Serving.{ready_of, stands_of}
use Rattle.agc_machine.proofs.Stepping.{tables_of, tidy_of}
use Rattle.agc_machine.proofs.machine.Machine.moment.Goals as goal
use Rattle.agc_plan.specs.declared.request.Request.{Request}
use Rattle.agc_plan.specs.Seats.{places_acted}
use Rattle.agc_plan.specs.Steps.{acted, begins}
use Rattle.agc_wait.specs.Table.{waits_of}
use Rattle.agc_wait.specs.Waits.{due_now}
use Rattle.agc_wait.proofs.Dues.{is_due-none}
use Rattle.agc_machine.specs.Image.{IsImage}
use Rattle.agc_machine.specs.Stands.{Acts, FiresIn, RaisesIn, Steps}
use Rattle.agc_machine.proofs.Beginning.{same_sets}

-- of words that stand for what a machine reaches
moment_is : (m : Machined) (words : List ℕ) (asked : Request) (moment : Acting) → IsImage m words → Acts m.plan asked words moment.reply moment.words → FiresIn m.plan asked words moment.fired → RaisesIn m.plan asked words moment.number → (begins moment.reply ≡ false → due_now (waits_of moment.words) ≡ 0) → IsMoment m asked moment
moment_is m words asked moment image acts fires raises none_due =
    let steps : Steps moment.words moment.reply (acted m.plan asked (plain_of m)) (places_acted m.plan asked (plain_of m) (places_of m)) = acts.steps (plain_of m) (places_of m) (stands_of m words image) in
    record {
      sets = same_sets words moment.words acts.same_length ∙ image.sets;
      tables = tables_of moment.words acts.sound;
      tidy = tidy_of moment.words acts.sound;
      none_due = λ goes. is_due-none (waits_of moment.words) (none_due goes);
      placed = sym steps.state.work.places_is;
      stands = record { jobs = sym steps.state.work.jobs_is; tasks = steps.state.work.agenda; base = sym steps.state.base_is };
      reply = steps.reply_is;
      fired = fires (plain_of m) (places_of m) (stands_of m words image);
      number = raises (plain_of m) (places_of m) (stands_of m words image);
    }

pub moment_of-requires : goal.moment_of-requires
moment_of-requires c = record { ready = ready_of _ c.self.inside.erasable c.self.invariant.0 }

pub returns : goal.returns
returns c =
    subst (λ (m : Machined). IsMoment m c.args.request.now c.moment_of.result) c.self.view_is
    (moment_is _ c.self.inside.erasable c.args.request.now c.moment_of.result c.self.invariant.0 c.moment_of.ensures.acts c.moment_of.ensures.fired c.moment_of.ensures.raised c.moment_of.ensures.none_due)
