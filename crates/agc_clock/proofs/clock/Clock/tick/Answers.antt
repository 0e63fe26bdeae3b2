use Rattle.std.proofs.Common.{◌≡◌, ◌+◌, ℕ, true, false, None, Some, refl, sym, ap, subst, ◌∙◌, arith}
use Rattle.agc_clock.specs.declared.asked.Asked.{Asked}
use Rattle.agc_clock.specs.Clocks.{AsksNext, Clocked}
use Rattle.agc_clock.specs.Timetables.{share_at}
use Rattle.agc_clock.proofs.Passing.{then_asks, ticks, time_is_over}
use Rattle.agc_clock.proofs.Working.{nobody_works}
use Rattle.agc_clock.proofs.clock.Clock.tick.Goals as goal

pub returns-then-self-lasts-clause-next : goal.returns-then-self-lasts-clause-next
returns-then-self-lasts-clause-next g c = λ jobs none.
    let table = g.T.Timetables.set_down c.args.table.now in
    let old : Clocked = c.args.self.now in
    let mid : Clocked = record { time = c.self.inside.time; event = c.self.inside.event; asked = c.self.inside.asked; looks = c.self.inside.looks; left = 0; counts = record { given = c.self.inside.given; lot = c.self.inside.lot } } in
    let event : mid.event ≡ old.event = ap (λ (s : Clocked). s.event) c.self.view_is in
    let looked : mid.looks ≡ false = ap (λ (s : Clocked). s.looks) c.self.view_is ∙ c.requires.looked in
    then_asks table jobs old mid mid None
    (nobody_works table jobs old mid c.requires.passed c.requires.looked none (record {
      time_is = ap (λ (s : Clocked). s.time) c.self.view_is;
      event_is = event;
      looks_is = looked;
      left_is = refl;
      counts_is = ap (λ (s : Clocked). s.counts) c.self.view_is;
    }))
    (time_is_over table jobs mid (omega (arith, event, c.requires.passed)) looked refl (omega (arith, c.if-self-lasts.true, c.lasts.ensures)))

pub returns-clause-next : goal.returns-clause-next
returns-clause-next g c = λ jobs none.
    let table = g.T.Timetables.set_down c.args.table.now in
    let old : Clocked = c.args.self.now in
    let mid : Clocked = record { time = c.self.inside.time; event = c.self.inside.event; asked = c.self.inside.asked; looks = c.self.inside.looks; left = 0; counts = record { given = c.self.inside.given; lot = c.self.inside.lot } } in
    let new : Clocked = record { time = c.self.inside.time + 1; event = 0; asked = 0; looks = true; left = c.share_at-self-inside.result; counts = record { given = c.self.inside.given; lot = c.self.inside.lot } } in
    let event : mid.event ≡ old.event = ap (λ (s : Clocked). s.event) c.self.view_is in
    let looked : mid.looks ≡ false = ap (λ (s : Clocked). s.looks) c.self.view_is ∙ c.requires.looked in
    let is : new ≡ record { time = mid.time + 1; event = 0; asked = 0; looks = true; left = share_at table (mid.time + 1); counts = mid.counts } =
    ap (λ (l : ℕ). record { time = c.self.inside.time + 1; event = 0; asked = 0; looks = true; left = l; counts = record { given = c.self.inside.given; lot = c.self.inside.lot } }) c.share_at-self-inside.ensures in
    then_asks table jobs old mid new _
    (nobody_works table jobs old mid c.requires.passed c.requires.looked none (record {
      time_is = ap (λ (s : Clocked). s.time) c.self.view_is;
      event_is = event;
      looks_is = looked;
      left_is = refl;
      counts_is = ap (λ (s : Clocked). s.counts) c.self.view_is;
    }))
    (subst (λ (a : Asked). AsksNext table jobs mid (Some a) new) (sym c.by_clock.ensures)
    (ticks table jobs mid (omega (arith, event, c.requires.passed)) looked refl (omega (arith, c.if-self-lasts.false, c.lasts.ensures)) new is))
