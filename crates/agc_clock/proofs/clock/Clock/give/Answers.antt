use Rattle.std.proofs.Common.{◌≡◌, ◌+◌, ◌-◌, ◌<◌, ℕ, false, Option, Some, set, get_or, max, refl, sym, ap, subst, ◌∙◌, arith}
use Rattle.agc_clock.specs.declared.asked.Asked.{Asked}
use Rattle.agc_clock.specs.declared.timetable.Step.{Step}
use Rattle.agc_clock.specs.Clocks.{AsksNext, Clocked}
use Rattle.agc_clock.specs.Counts.{begun, counted_on, given_to, with_given}
use Rattle.agc_clock.specs.Instants.{by_clock}
use Rattle.agc_clock.specs.Timetables.{asked_of, needs, step_at}
use Rattle.agc_clock.proofs.Working.{IsMore, IsRest, IsWorked, give_ends, give_passes, its_count, its_request, more_is, rest_is}
use Rattle.agc_clock.proofs.clock.Clock.give.Goals as goal

pub returns-then-rest-self-clause-stage : goal.returns-then-rest-self-clause-stage
returns-then-rest-self-clause-stage c = λ table jobs before passed works has_begun.
    let w = c.args.worker.now in
    let mid : Clocked = record { time = c.self.inside.time; event = c.self.inside.event; asked = c.self.inside.asked; looks = c.self.inside.looks; left = c.self.inside.left; counts = record { given = c.self.inside.given; lot = c.self.inside.lot } } in
    let e : mid ≡ record before { counts = begun w before.counts } = c.self.view_is ∙ has_begun in
    let start = mid.counts in
    let begins : begun w before.counts ≡ start = sym (ap (λ (s : Clocked). s.counts) e) in
    let left : mid.left ≡ before.left = ap (λ (s : Clocked). s.left) e in
    let place : c.from-place.result ≡ w.number = c.from-place.ensures in
    let looked : before.looks ≡ false = sym (ap (λ (s : Clocked). s.looks) e) ∙ ap (λ (s : Clocked). s.looks) c.self.view_is ∙ c.requires.looked in
    let rest : IsRest (needs w.cost) (given_to w.number start) c.max-rest.result =
    rest_is (needs w.cost) (given_to w.number start) c.max-rest.result
    (c.max-rest.ensures ∙ ap (λ (n : ℕ). max n 1) (c.saturating_sub.ensures ∙ ap (λ (m : ℕ). m - given_to c.from-place.result start) c.needs-needed.ensures.value ∙ ap (λ (n : ℕ). needs w.cost - given_to n start) place)) in
    let got : ℕ = given_to w.number start + c.max-rest.result in
    let new : Clocked = record { time = c.self.inside.time; event = c.self.inside.event; asked = c.self.inside.asked; looks = c.self.inside.looks; left = c.self.inside.left - c.max-rest.result; counts = record { given = set c.self.inside.given (c.from-place.result - 1) c.spend-spent.result.counted; lot = c.self.inside.lot } } in
    let more : IsMore (needs w.cost) (given_to w.number start) c.max-rest.result c.saturating_sub-more.result =
    more_is (needs w.cost) (given_to w.number start) c.max-rest.result c.saturating_sub-more.result rest (omega (arith, c.needs-needed.ensures.some, c.needs-needed.ensures.value))
    (c.saturating_sub-more.ensures ∙ ap (λ (m : ℕ). given_to c.from-place.result start - (m - 1)) c.needs-needed.ensures.value ∙ ap (λ (n : ℕ). given_to n start - (needs w.cost - 1)) place) in
    let step_is : step_at w.cost c.saturating_sub-more.result ≡ step_at w.cost (got - needs w.cost) = ap (step_at w.cost) more.number in
    let counted : c.spend-spent.result.counted ≡ its_count w got =
    c.spend-spent.ensures.counted ∙ ap (λ (o : Option Step). counted_on o (needs w.cost + c.saturating_sub-more.result)) step_is ∙ ap (counted_on (step_at w.cost (got - needs w.cost))) more.got in
    let request : by_clock c.spend-spent.result.request ≡ its_request w got =
    ap by_clock (c.spend-spent.ensures.request ∙ ap (λ (o : Option Step). asked_of o w.cost.then) step_is) in
    let is : IsWorked before new (before.left - c.max-rest.result) (with_given w.number (its_count w got) start) = record {
      time_is = ap (λ (s : Clocked). s.time) e;
      event_is = ap (λ (s : Clocked). s.event) e;
      looks_is = ap (λ (s : Clocked). s.looks) c.self.view_is ∙ c.requires.looked;
      left_is = ap (λ (n : ℕ). n - c.max-rest.result) left;
      counts_is = ap (λ (n : ℕ). with_given n c.spend-spent.result.counted start) place ∙ ap (λ (v : ℕ). with_given w.number v start) counted;
    } in
    let asks : AsksNext table jobs before (Some (its_request w got)) new =
    give_ends table jobs w before new start c.max-rest.result got passed looked works begins (omega (arith, c.self.told, c.requires.number)) rest.some (omega (arith, left, c.if-rest-self.true)) refl rest.used rest.exact is in
    subst (λ (a : Asked). AsksNext table jobs before (Some a) new) (sym (c.by_clock.ensures ∙ request)) asks

pub returns-else-rest-self-clause-stage : goal.returns-else-rest-self-clause-stage
returns-else-rest-self-clause-stage c = λ table jobs before passed works has_begun.
    let w = c.args.worker.now in
    let mid : Clocked = record { time = c.self.inside.time; event = c.self.inside.event; asked = c.self.inside.asked; looks = c.self.inside.looks; left = c.self.inside.left; counts = record { given = c.self.inside.given; lot = c.self.inside.lot } } in
    let e : mid ≡ record before { counts = begun w before.counts } = c.self.view_is ∙ has_begun in
    let start = mid.counts in
    let begins : begun w before.counts ≡ start = sym (ap (λ (s : Clocked). s.counts) e) in
    let left : mid.left ≡ before.left = ap (λ (s : Clocked). s.left) e in
    let place : c.from-place.result ≡ w.number = c.from-place.ensures in
    let looked : before.looks ≡ false = sym (ap (λ (s : Clocked). s.looks) e) ∙ ap (λ (s : Clocked). s.looks) c.self.view_is ∙ c.requires.looked in
    let rest : IsRest (needs w.cost) (given_to w.number start) c.max-rest.result =
    rest_is (needs w.cost) (given_to w.number start) c.max-rest.result
    (c.max-rest.ensures ∙ ap (λ (n : ℕ). max n 1) (c.saturating_sub.ensures ∙ ap (λ (m : ℕ). m - given_to c.from-place.result start) c.needs-needed.ensures.value ∙ ap (λ (n : ℕ). needs w.cost - given_to n start) place)) in
    let new : Clocked = record { time = c.self.inside.time; event = c.self.inside.event; asked = c.self.inside.asked; looks = c.self.inside.looks; left = 0; counts = record { given = set c.self.inside.given (c.from-place.result - 1) (get_or c.self.inside.given (c.from-place.result - 1) 0 + c.self.inside.left); lot = c.self.inside.lot } } in
    let is : IsWorked before new 0 (with_given w.number (given_to w.number start + before.left) start) = record {
      time_is = ap (λ (s : Clocked). s.time) e;
      event_is = ap (λ (s : Clocked). s.event) e;
      looks_is = ap (λ (s : Clocked). s.looks) c.self.view_is ∙ c.requires.looked;
      left_is = refl;
      counts_is = ap (λ (n : ℕ). with_given n (given_to n start + mid.left) start) place ∙ ap (λ (v : ℕ). with_given w.number (given_to w.number start + v) start) left;
    } in
    let some : 0 < mid.left = (let same : mid.left ≡ c.args.self.now.left = ap (λ (s : Clocked). s.left) c.self.view_is in omega (arith, same, c.requires.some)) in
    let less : given_to w.number start + before.left < needs w.cost =
    (let exact : given_to w.number start + c.max-rest.result ≡ needs w.cost = rest.exact (omega (arith, some, c.if-rest-self.false)) in
    omega (arith, exact, left, c.if-rest-self.false)) in
    give_passes table jobs w before new start passed looked works (omega (arith, left, some)) begins (omega (arith, c.self.told, c.requires.number)) less is
