use Rattle.std.proofs.Common.{◌≡◌, ℕ, true, false, Option, Some, is_some, refl, sym, ap, subst, ◌∙◌}
use Rattle.agc_exec.specs.Image.{jobs_in}
use Rattle.agc_exec.specs.Seats.{named_of}
use Rattle.agc_plan.specs.declared.request.Request.TheVariants.{Change}
use Rattle.agc_clock.specs.declared.asked.Asked.{Asked}
use Rattle.agc_clock.specs.Clocks.{Clocked}
use Rattle.agc_clock.specs.Instants.{by_clock}
use Rattle.agc_clock.specs.Reading.{AsksOrPasses, Passes}
use Rattle.agc_clock.proofs.Passing.{IsLooked, look_asks, look_passes, looks_no_more}
use Rattle.agc_clock.proofs.clock.Clock.look.Goals as goal
use Rattle.agc_clock.proofs.clock.Clock.look.Goals.{then-looks+then-is_some, else-looks, else-looks-via-then-looks+else-is_some, else-looks-via-else-looks}

pub returns-clause-stage : goal.returns-clause-stage
returns-clause-stage c = λ table passed.
    let old : Clocked = c.args.self.now in
    let jobs = jobs_in c.args.words.now in
    let new : Clocked = record { time = c.self.inside.time; event = c.self.inside.event; asked = c.self.inside.asked; looks = false; left = c.self.inside.left; counts = record { given = c.self.inside.given; lot = c.self.inside.lot } } in
    let looked : IsLooked old new = record {
      time_is = ap (λ (s : Clocked). s.time) c.self.view_is;
      event_is = ap (λ (s : Clocked). s.event) c.self.view_is;
      looks_is = refl;
      left_is = ap (λ (s : Clocked). s.left) c.self.view_is;
      counts_is = ap (λ (s : Clocked). s.counts) c.self.view_is;
    } in
    let view_looks : c.self.inside.looks ≡ old.looks = ap (λ (s : Clocked). s.looks) c.self.view_is in
    elim c.if-looks.branch [
      | then-looks+then-is_some w ↦
          let some : is_some (named_of jobs) ≡ true = sym (ap (λ (o : Option ℕ). is_some o) w.named_job.ensures) ∙ sym w.is_some.ensures ∙ w.if-is_some.true in
          let result : Some (by_clock Change) ≡ c.if-looks.result = sym (w.result-is ∙ ap (λ (a : Asked). Some a) w.by_clock.ensures) in
          subst (λ (o : Option Asked). AsksOrPasses table jobs old o new) result (look_asks table jobs old new passed (sym view_looks ∙ w.if-looks.true) looked some)
      | else-looks w ↦
          let passes : Passes table jobs old new = elim w.else-looks.branch [
            | else-looks-via-then-looks+else-is_some v ↦
                let none : is_some (named_of jobs) ≡ false = sym (ap (λ (o : Option ℕ). is_some o) v.named_job.ensures) ∙ sym v.is_some.ensures ∙ v.if-is_some.false in
                look_passes table jobs old new passed (sym view_looks ∙ v.if-looks.true) looked none
            | else-looks-via-else-looks v ↦ looks_no_more table jobs old new passed (sym view_looks ∙ v.if-looks.false) looked
          ] in
          subst (λ (o : Option Asked). AsksOrPasses table jobs old o new) (sym w.result-is) passes
    ]
