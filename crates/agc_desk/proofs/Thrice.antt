-- All three lines are drained, one after another.
use Rattle.std.proofs.Common.{◌≡◌, ◌≢◌, ◌↔◌, ℕ, ◌+◌, ◌<◌, true≢false, List, [], ◌∷◌, ◌++◌, slice_get, take, Option, None, Some, IsNone, IsOk, is_some, zero, suc, refl, sym, ap, ◌∙◌, subst, append_assoc, append-nil, arith}
use Rattle.std.specs.Option.{option_and_then}
use Rattle.std.proofs.lemmas.List.Elements.{All-append}
use Rattle.agc_plan.specs.declared.line.Line.{Line}
use Rattle.agc_plan.specs.declared.line.Line.TheVariants.{Timer, Key, Radar}
use Rattle.agc_latch.specs.Lines.{on}
use Rattle.agc_plan.specs.Pulses.{pulse_requests, word_of}
use Rattle.agc_latch.specs.Accounts.{Applies, Collects, IsTakenOnce, LineAccounts, given_of, latch_of, taken_on}
use Rattle.agc_latch.specs.Ends.{Taking}
use Rattle.agc_plan.specs.Plans.{Planned}
use Rattle.agc_machine.specs.declared.answer.Refusal.{Refusal}
use Rattle.agc_machine.specs.Machines.{Machined, after_all}
use Rattle.agc_machine.specs.Said.{Said}
use Rattle.agc_desk.specs.Desks.{Desked, with_lines}
use Rattle.agc_desk.specs.Draining.{Drains, IdleWait, Moves, NoneRefused, ServesAll, calls_of, left_by, pulse_refusal, with_asked}
use Rattle.agc_desk.specs.History.{Holder, with_drain, with_heard}
use Rattle.agc_desk.specs.Pulses.{Pulse, left_of, left_on}
use Rattle.agc_desk.specs.Stages.{DrainsLine, line_left, tried_after}
use Rattle.agc_desk.proofs.Emptying.{after_by, idle_left, none_owed, same_plan, serves_append, told_by, told_by_append}

timer_key : Timer ≢ Key
timer_key e = omega (arith, ap word_of e)

timer_radar : Timer ≢ Radar
timer_radar e = omega (arith, ap word_of e)

key_radar : Key ≢ Radar
key_radar e = omega (arith, ap word_of e)

-- what was found was taken, and n1, n2 and n3 pulses of the lines were applied
moves : (found : List ℕ) (n1 n2 n3 : ℕ) (l l0 l1 l2 l3 : LineAccounts) → Collects found l l0
    → Applies Timer n1 l0 l1 → Applies Key n2 l1 l2 → Applies Radar n3 l2 l3
    → (0 < on Timer l1.owed → n2 ≡ 0) → (0 < on Timer l1.owed → n3 ≡ 0) → (0 < on Key l2.owed → n3 ≡ 0)
    → Moves found (n1 ∷ n2 ∷ n3 ∷ []) l l3
moves found n1 n2 n3 l l0 l1 l2 l3 c a b d tk tr kr =
    let timer_key_left : on Timer l2.owed ≡ on Timer l1.owed = b.other_owed Timer timer_key in
    let timer_left : on Timer l3.owed ≡ on Timer l1.owed = d.other_owed Timer timer_radar ∙ timer_key_left in
    let key_left : on Key l3.owed ≡ on Key l2.owed = d.other_owed Key key_radar in
    record {
      once = subst (λ (t : Option Taking). IsTakenOnce l.taker t) (sym (d.taker ∙ (b.taker ∙ a.taker))) c.once;
      owed = owed;
      applied = applied;
      in_order = in_order timer_left key_left;
      taken = λ line. ap (taken_on line) (d.taker ∙ (b.taker ∙ a.taker)) ∙ c.taken line;
      latch = ap latch_of (d.taker ∙ (b.taker ∙ a.taker)) ∙ c.latch;
      given = ap given_of (d.taker ∙ (b.taker ∙ a.taker)) ∙ c.given;
      devices = d.devices ∙ (b.devices ∙ (a.devices ∙ c.devices));
      settled = d.settled ∙ (b.settled ∙ (a.settled ∙ c.settled));
    }
  where
    owed : (line : Line) → on line l3.owed + on line (n1 ∷ n2 ∷ n3 ∷ []) ≡ on line l.owed + on line found
    owed Timer = omega (arith, c.owed Timer, a.owed, b.other_owed Timer timer_key, d.other_owed Timer timer_radar)
    owed Key = omega (arith, c.owed Key, a.other_owed Key (λ e. timer_key (sym e)), b.owed, d.other_owed Key key_radar)
    owed Radar = omega (arith, c.owed Radar, a.other_owed Radar (λ e. timer_radar (sym e)), b.other_owed Radar (λ e. key_radar (sym e)), d.owed)

    applied : (line : Line) → on line l3.applied ≡ on line l.applied + on line (n1 ∷ n2 ∷ n3 ∷ [])
    applied Timer = omega (arith, ap (on Timer) c.applied, a.applied, b.other_applied Timer timer_key, d.other_applied Timer timer_radar)
    applied Key = omega (arith, ap (on Key) c.applied, a.other_applied Key (λ e. timer_key (sym e)), b.applied, d.other_applied Key key_radar)
    applied Radar = omega (arith, ap (on Radar) c.applied, a.other_applied Radar (λ e. timer_radar (sym e)), b.other_applied Radar (λ e. key_radar (sym e)), d.applied)

    in_order : on Timer l3.owed ≡ on Timer l1.owed → on Key l3.owed ≡ on Key l2.owed
        → (line later : Line) → word_of line < word_of later → 0 < on line l3.owed → on later (n1 ∷ n2 ∷ n3 ∷ []) ≡ 0
    in_order t k Timer Timer below left = omega (arith, below)
    in_order t k Timer Key below left = tk (omega (arith, left, t))
    in_order t k Timer Radar below left = tr (omega (arith, left, t))
    in_order t k Key Timer below left = omega (arith, below)
    in_order t k Key Key below left = omega (arith, below)
    in_order t k Key Radar below left = kr (omega (arith, left, k))
    in_order t k Radar Timer below left = omega (arith, below)
    in_order t k Radar Key below left = omega (arith, below)
    in_order t k Radar Radar below left = omega (arith, below)

-- the requests of the desk before what was posted was taken
serves_from : (asked : List Pulse) (d d0 : Desked) (s : Holder) (now : Desked) (new : Holder) → d0 ≡ with_lines d0.lines d
    → ServesAll asked d0 s now new → ServesAll asked d s now new
serves_from asked d d0 s now new is all = record {
  desk = all.desk ∙ ap (λ (x : Desked). with_lines now.lines (with_asked s.number asked x)) is;
  heard = all.heard ∙ ap (λ (x : Desked). with_heard (calls_of s.number x.machine asked) s) is;
}

-- what another line leaves is the same
same_left : (plan : Planned) (line other : Line) (n : ℕ) (old now : LineAccounts) → other ≢ line → Applies line n old now
    → line_left plan other now ≡ line_left plan other old
same_left plan line other n old now apart applies =
    ap (λ k. left_on plan other k (on other now.begun)) (applies.other_owed other apart)
    ∙ ap (λ k. left_on plan other (on other old.owed) k) (applies.other_begun other apart)

-- what was to be asked for, with what was found
all_owed : (plan : Planned) (found : List ℕ) (l l0 : LineAccounts) → Collects found l l0
    → left_of plan (λ line. on line l.owed + on line found) (λ line. on line l.begun) ≡ left_by plan l0
all_owed plan found l l0 c = λ i. left_of plan (λ line. sym (c.owed line) i) (λ line. on line (sym c.begun i))

-- a refused request is left
some_first : (m : Machined) (left : List Pulse) (r : Refusal) → Some r ≡ option_and_then (pulse_refusal m) (slice_get left 0)
    → (p : Pulse) × (rest : List Pulse) × (left ≡ p ∷ rest)
some_first m [] r is = cc
some_first m (p ∷ rest) r is = (p, rest, refl)

-- of each line some were served and some are left: all in order; and what was tried last is the first of those that are left
abbrev Whole : (a b c k l m : List Pulse) → Type 0
Whole a b c k l m = (a ++ k) ++ ((b ++ l) ++ (c ++ m)) ≡ (a ++ (b ++ c)) ++ (k ++ (l ++ m))

abbrev Tried : (a b c t u w k l m : List Pulse) → Type 0
Tried a b c t u w k l m = (a ++ t) ++ ((b ++ u) ++ (c ++ w)) ≡ (a ++ (b ++ c)) ++ take 1 (k ++ (l ++ m))

last_three : (a b c t : List Pulse) → (a ++ []) ++ ((b ++ []) ++ (c ++ t)) ≡ (a ++ (b ++ c)) ++ t
last_three a b c t =
    ap (λ l. l ++ ((b ++ []) ++ (c ++ t))) (append-nil a)
    ∙ (ap (λ l. a ++ (l ++ (c ++ t))) (append-nil b)
    ∙ sym (append_assoc a (b ++ c) t ∙ ap (λ l. a ++ l) (append_assoc b c t)))

last_two : (a b t u : List Pulse) → (a ++ []) ++ ((b ++ t) ++ u) ≡ (a ++ (b ++ [])) ++ (t ++ u)
last_two a b t u =
    ap (λ l. l ++ ((b ++ t) ++ u)) (append-nil a)
    ∙ (ap (λ l. a ++ l) (append_assoc b t u)
    ∙ sym (append_assoc a (b ++ []) (t ++ u) ∙ ap (λ l. a ++ (l ++ (t ++ u))) (append-nil b)))

last_one : (a t u : List Pulse) → (a ++ t) ++ u ≡ (a ++ []) ++ (t ++ u)
last_one a t u = append_assoc a t u ∙ ap (λ l. l ++ (t ++ u)) (sym (append-nil a))

-- the drain ended on the radar's line, on the keyboard's, on the timer's
radar_last : (a b c k l m : List Pulse) → k ≡ [] → l ≡ [] → Whole a b c k l m × Tried a b c (take 1 k) (take 1 l) (take 1 m) k l m
radar_last a b c k l m no_k no_l =
    subst (λ (x : List Pulse × List Pulse). Whole a b c x.0 x.1 m × Tried a b c (take 1 x.0) (take 1 x.1) (take 1 m) x.0 x.1 m)
    (λ i. (sym no_k i, sym no_l i)) (last_three a b c m, last_three a b c (take 1 m))

key_last : (a b c k l m : List Pulse) (p : Pulse) (rest : List Pulse) → k ≡ [] → l ≡ p ∷ rest → c ≡ []
    → Whole a b c k l m × Tried a b c (take 1 k) (take 1 l) [] k l m
key_last a b c k l m p rest no_k some no_c =
    subst (λ (x : List Pulse × (List Pulse × List Pulse)). Whole a b x.0 x.1.0 x.1.1 m × Tried a b x.0 (take 1 x.1.0) (take 1 x.1.1) [] x.1.0 x.1.1 m)
    (λ i. (sym no_c i, (sym no_k i, sym some i))) (last_two a b (p ∷ rest) m, last_two a b (p ∷ []) [])

timer_last : (a b c k l m : List Pulse) (p : Pulse) (rest : List Pulse) → k ≡ p ∷ rest → b ≡ [] → c ≡ []
    → Whole a b c k l m × Tried a b c (take 1 k) [] [] k l m
timer_last a b c k l m p rest some no_b no_c =
    subst (λ (x : List Pulse × (List Pulse × List Pulse)). Whole a x.0 x.1.0 x.1.1 l m × Tried a x.0 x.1.0 (take 1 x.1.1) [] [] x.1.1 l m)
    (λ i. (sym no_b i, (sym no_c i, sym some i))) (last_one a (p ∷ rest) (l ++ m), last_one a (p ∷ []) [])

-- a line whose request was refused asks for something
asks_some : (plan : Planned) (line : Line) (l : LineAccounts) (p : Pulse) (rest : List Pulse)
    → line_left plan line l ≡ p ∷ rest → ¬ (pulse_requests plan line ≡ [])
asks_some plan line l p rest some none =
    let no : p ∷ rest ≡ [] = sym some ∙ idle_left plan line (on line l.owed) (on line l.begun) none in
    cc

some_left : (n : ℕ) (r : Refusal) → (IsNone (Some r) ↔ n ≡ 0) → 0 < n
some_left n r left = by_test n refl
  where
    by_test : (m : ℕ) → m ≡ n → 0 < n
    by_test zero is = absurd (true≢false (left.1 (sym is)))
    by_test (suc m) is = omega (arith, is)

-- what the pulses of three lines ask for is served
served_thrice : (a b c : List Pulse) (m m1 m2 : Machined) → m1 ≡ after_by m a → m2 ≡ after_by m1 b
    → NoneRefused (told_by m a) → NoneRefused (told_by m1 b) → NoneRefused (told_by m2 c)
    → NoneRefused (told_by m (a ++ (b ++ c)))
served_thrice a b c m m1 m2 first second one two three =
    let later : NoneRefused (told_by m1 (b ++ c)) =
    subst NoneRefused (sym (told_by_append m1 b c))
    (All-append (λ (x : Said). IsOk x.outcome) _ _ two (subst (λ (x : Machined). NoneRefused (told_by x c)) second three)) in
    subst NoneRefused (sym (told_by_append m a (b ++ c)))
    (All-append (λ (x : Said). IsOk x.outcome) _ _ one (subst (λ (x : Machined). NoneRefused (told_by x (b ++ c))) first later))

same_machine : (m n : Machined) (asked : List Pulse) → n ≡ after_by m asked → asked ≡ [] → n ≡ m
unfolding after_all
same_machine m n asked is empty = is ∙ ap (after_by m) empty

-- three lines that were drained one after another, by the requests of one plan
record Drained3 (r1 r2 r3 : Option Refusal) (found : List ℕ) (n1 n2 n3 : ℕ) (d d0 d1 d2 d3 : Desked) (s s1 s2 s3 : Holder) : Type 0 where
  start : d0 ≡ with_lines d0.lines d
  collects : Collects found d.lines d0.lines
  timer : DrainsLine None d.machine.plan Timer d0 (with_drain s) n1 r1 d1 s1
  key : DrainsLine r1 d.machine.plan Key d1 s1 n2 r2 d2 s2
  radar : DrainsLine r2 d.machine.plan Radar d2 s2 n3 r3 d3 s3

module _ (r1 r2 r3 : Option Refusal) (found : List ℕ) (n1 n2 n3 : ℕ) (d d0 d1 d2 d3 : Desked) (s s1 s2 s3 : Holder) where
  -- what each line leaves at the end
  abbrev left_at : Line → List Pulse
  left_at line = line_left d.machine.plan line d3.lines

  timer_stays : Drained3 r1 r2 r3 found n1 n2 n3 d d0 d1 d2 d3 s s1 s2 s3 → line_left d.machine.plan Timer d1.lines ≡ left_at Timer
  timer_stays it =
      sym (same_left d.machine.plan Radar Timer n3 d2.lines d3.lines timer_radar it.radar.lines
      ∙ same_left d.machine.plan Key Timer n2 d1.lines d2.lines timer_key it.key.lines)

  key_stays : Drained3 r1 r2 r3 found n1 n2 n3 d d0 d1 d2 d3 s s1 s2 s3 → line_left d.machine.plan Key d2.lines ≡ left_at Key
  key_stays it = sym (same_left d.machine.plan Radar Key n3 d2.lines d3.lines key_radar it.radar.lines)

  -- what was to be asked for is what was served of each line and what it leaves
  by_lines : (it : Drained3 r1 r2 r3 found n1 n2 n3 d d0 d1 d2 d3 s s1 s2 s3)
      → left_by d.machine.plan d0.lines ≡ (it.timer.served ++ left_at Timer) ++ ((it.key.served ++ left_at Key) ++ (it.radar.served ++ left_at Radar))
  by_lines it =
      let plan = d.machine.plan in
      let timer : line_left plan Timer d0.lines ≡ it.timer.served ++ left_at Timer = it.timer.left ∙ ap (λ l. it.timer.served ++ l) (timer_stays it) in
      let key : line_left plan Key d0.lines ≡ it.key.served ++ left_at Key =
      sym (same_left plan Timer Key n1 d0.lines d1.lines (λ e. timer_key (sym e)) it.timer.lines) ∙ (it.key.left ∙ ap (λ l. it.key.served ++ l) (key_stays it)) in
      let radar : line_left plan Radar d0.lines ≡ it.radar.served ++ left_at Radar =
      sym (same_left plan Key Radar n2 d1.lines d2.lines (λ e. key_radar (sym e)) it.key.lines
      ∙ same_left plan Timer Radar n1 d0.lines d1.lines (λ e. timer_radar (sym e)) it.timer.lines) ∙ it.radar.left in
      λ i. timer i ++ (key i ++ radar i)

  -- what was asked, line after line
  all_asked : (it : Drained3 r1 r2 r3 found n1 n2 n3 d d0 d1 d2 d3 s s1 s2 s3)
      → ServesAll ((it.timer.served ++ take 1 (left_at Timer)) ++ ((it.key.served ++ tried_after r1 (left_at Key)) ++ (it.radar.served ++ tried_after r2 (left_at Radar)))) d0 (with_drain s) d3 s3
  all_asked it =
      let timer : ServesAll (it.timer.served ++ take 1 (left_at Timer)) d0 (with_drain s) d1 s1 =
      subst (λ (l : List Pulse). ServesAll (it.timer.served ++ take 1 l) d0 (with_drain s) d1 s1) (timer_stays it) it.timer.asked in
      let key : ServesAll (it.key.served ++ tried_after r1 (left_at Key)) d1 s1 d2 s2 =
      subst (λ (l : List Pulse). ServesAll (it.key.served ++ tried_after r1 l) d1 s1 d2 s2) (key_stays it) it.key.asked in
      serves_append _ _ d0 (with_drain s) d1 s1 d3 s3 timer (serves_append _ _ d1 s1 d2 s2 d3 s3 key it.radar.asked)

  -- what is left to say once the line is known on which the drain ended
  finish : (it : Drained3 r1 r2 r3 found n1 n2 n3 d d0 d1 d2 d3 s s1 s2 s3)
      → Moves found (n1 ∷ n2 ∷ n3 ∷ []) d.lines d3.lines
      → Whole it.timer.served it.key.served it.radar.served (left_at Timer) (left_at Key) (left_at Radar)
      → Tried it.timer.served it.key.served it.radar.served (take 1 (left_at Timer)) (tried_after r1 (left_at Key)) (tried_after r2 (left_at Radar)) (left_at Timer) (left_at Key) (left_at Radar)
      → r3 ≡ option_and_then (pulse_refusal d3.machine) (slice_get (left_by d.machine.plan d3.lines) 0)
      → (IsNone r3 ↔ ((line : Line) → on line d3.lines.owed ≡ 0))
      → IdleWait d.machine.plan d3.lines
      → Drains d s (record { taken = found; applied = n1 ∷ n2 ∷ n3 ∷ []; refused = r3 }) d3 s3
  finish it lines whole tried refusal none_left idle =
      let served = it.timer.served ++ (it.key.served ++ it.radar.served) in
      record {
        lines = lines;
        served = served;
        left = all_owed d.machine.plan found d.lines d0.lines it.collects ∙ (by_lines it ∙ whole);
        asked = serves_from _ d d0 (with_drain s) d3 s3 it.start (subst (λ (l : List Pulse). ServesAll l d0 (with_drain s) d3 s3) tried (all_asked it));
        none_refused = subst (λ (x : Desked). NoneRefused (told_by x.machine served)) it.start
            (served_thrice _ _ _ d0.machine d1.machine d2.machine it.timer.machine it.key.machine it.timer.none_refused it.key.none_refused it.radar.none_refused);
        refused = refusal;
        none_left = none_left;
        idle = idle;
      }

-- by where a request was refused
of_plan : (r1 r2 r3 : Option Refusal) (found : List ℕ) (n1 n2 n3 : ℕ) (d d0 d1 d2 d3 : Desked) (s s1 s2 s3 : Holder)
    → Drained3 r1 r2 r3 found n1 n2 n3 d d0 d1 d2 d3 s s1 s2 s3
    → Drains d s (record { taken = found; applied = n1 ∷ n2 ∷ n3 ∷ []; refused = r3 }) d3 s3
of_plan None None r3 found n1 n2 n3 d d0 d1 d2 d3 s s1 s2 s3 it =
    let plan = d.machine.plan in
    let timer : on Timer d1.lines.owed ≡ 0 = (it.timer.none_left refl).0 refl in
    let key : on Key d2.lines.owed ≡ 0 = (it.key.none_left refl).0 refl in
    let timer_owed : on Timer d3.lines.owed ≡ 0 = it.radar.lines.other_owed Timer timer_radar ∙ (it.key.lines.other_owed Timer timer_key ∙ timer) in
    let key_owed : on Key d3.lines.owed ≡ 0 = it.radar.lines.other_owed Key key_radar ∙ key in
    let no_timer : line_left plan Timer d3.lines ≡ [] = none_owed plan Timer (on Timer d3.lines.owed) (on Timer d3.lines.begun) timer_owed in
    let no_key : line_left plan Key d3.lines ≡ [] = none_owed plan Key (on Key d3.lines.owed) (on Key d3.lines.begun) key_owed in
    let both = radar_last it.timer.served it.key.served it.radar.served (line_left plan Timer d3.lines) (line_left plan Key d3.lines) (line_left plan Radar d3.lines) no_timer no_key in
    finish None None r3 found n1 n2 n3 d d0 d1 d2 d3 s s1 s2 s3 it
    (moves found n1 n2 n3 d.lines d0.lines d1.lines d2.lines d3.lines it.collects it.timer.lines it.key.lines it.radar.lines
    (λ left. absurd (omega (arith, left, timer))) (λ left. absurd (omega (arith, left, timer))) (λ left. absurd (omega (arith, left, key))))
    both.0 both.1
    (it.radar.refusal ∙ λ i. option_and_then (pulse_refusal d3.machine) (slice_get (sym no_timer i ++ (sym no_key i ++ line_left plan Radar d3.lines)) 0))
    (λ is. left_none timer_owed key_owed ((it.radar.none_left refl).0 is), λ each. (it.radar.none_left refl).1 (each Radar))
    (idle timer_owed key_owed)
  where
    idle : on Timer d3.lines.owed ≡ 0 → on Key d3.lines.owed ≡ 0 → IdleWait d.machine.plan d3.lines
    idle t k Timer none some = absurd (omega (arith, some, t))
    idle t k Key none some = absurd (omega (arith, some, k))
    idle t k Radar none some =
        let no_radar : line_left d.machine.plan Radar d3.lines ≡ [] = idle_left d.machine.plan Radar (on Radar d3.lines.owed) (on Radar d3.lines.begun) none in
        let passed : r3 ≡ None = it.radar.refusal ∙ λ i. option_and_then (pulse_refusal d3.machine) (slice_get (no_radar i) 0) in
        let served : on Radar d3.lines.owed ≡ 0 = (it.radar.none_left refl).0 (ap is_some passed) in
        absurd (omega (arith, some, served))

    left_none : on Timer d3.lines.owed ≡ 0 → on Key d3.lines.owed ≡ 0 → on Radar d3.lines.owed ≡ 0 → (line : Line) → on line d3.lines.owed ≡ 0
    left_none t k r Timer = t
    left_none t k r Key = k
    left_none t k r Radar = r
of_plan None (Some r) r3 found n1 n2 n3 d d0 d1 d2 d3 s s1 s2 s3 it =
    let plan = d.machine.plan in
    let timer : on Timer d1.lines.owed ≡ 0 = (it.timer.none_left refl).0 refl in
    let key : 0 < on Key d2.lines.owed = some_left (on Key d2.lines.owed) r (it.key.none_left refl) in
    let radar = it.radar.stopped r refl in
    let timer_owed : on Timer d3.lines.owed ≡ 0 = it.radar.lines.other_owed Timer timer_radar ∙ (it.key.lines.other_owed Timer timer_key ∙ timer) in
    let key_owed : 0 < on Key d3.lines.owed = omega (arith, key, it.radar.lines.other_owed Key key_radar) in
    let no_timer : line_left plan Timer d3.lines ≡ [] = none_owed plan Timer (on Timer d3.lines.owed) (on Timer d3.lines.begun) timer_owed in
    let machine : d3.machine ≡ d2.machine = same_machine d2.machine d3.machine it.radar.served it.radar.machine radar.1 in
    let refused : Some r ≡ option_and_then (pulse_refusal d3.machine) (slice_get (line_left plan Key d3.lines) 0) =
    it.key.refusal ∙ (λ i. option_and_then (pulse_refusal (sym machine i)) (slice_get (key_stays None (Some r) r3 found n1 n2 n3 d d0 d1 d2 d3 s s1 s2 s3 it i) 0)) in
    let first = some_first d3.machine (line_left plan Key d3.lines) r refused in
    let both = key_last it.timer.served it.key.served it.radar.served (line_left plan Timer d3.lines) (line_left plan Key d3.lines) (line_left plan Radar d3.lines) first.0 first.1 no_timer first.2 radar.1 in
    finish None (Some r) r3 found n1 n2 n3 d d0 d1 d2 d3 s s1 s2 s3 it
    (moves found n1 n2 n3 d.lines d0.lines d1.lines d2.lines d3.lines it.collects it.timer.lines it.key.lines it.radar.lines
    (λ left. absurd (omega (arith, left, timer))) (λ left. radar.0) (λ left. radar.0))
    both.0 both.1
    (it.radar.refusal ∙ (refused ∙ (λ i. option_and_then (pulse_refusal d3.machine) (slice_get (first.2 i) 0))
    ∙ λ i. option_and_then (pulse_refusal d3.machine) (slice_get (sym no_timer i ++ (sym first.2 i ++ line_left plan Radar d3.lines)) 0)))
    (λ is. absurd (true≢false (sym (ap is_some it.radar.refusal) ∙ is)), λ each. absurd (omega (arith, each Key, key_owed)))
    (idle timer_owed key_owed (asks_some plan Key d3.lines first.0 first.1 first.2))
  where
    idle : on Timer d3.lines.owed ≡ 0 → 0 < on Key d3.lines.owed → ¬ (pulse_requests d.machine.plan Key ≡ []) → IdleWait d.machine.plan d3.lines
    idle t k asks Timer none some = absurd (omega (arith, some, t))
    idle t k asks Key none some = absurd (asks none)
    idle t k asks Radar none some = (Key, omega arith, k)
of_plan (Some r) None r3 found n1 n2 n3 d d0 d1 d2 d3 s s1 s2 s3 it = absurd (true≢false (sym (ap is_some it.key.refusal)))
of_plan (Some r) (Some q) r3 found n1 n2 n3 d d0 d1 d2 d3 s s1 s2 s3 it =
    let plan = d.machine.plan in
    let timer : 0 < on Timer d1.lines.owed = some_left (on Timer d1.lines.owed) r (it.timer.none_left refl) in
    let key = it.key.stopped r refl in
    let radar = it.radar.stopped q refl in
    let timer_owed : 0 < on Timer d3.lines.owed = omega (arith, timer, it.radar.lines.other_owed Timer timer_radar, it.key.lines.other_owed Timer timer_key) in
    let machine : d3.machine ≡ d1.machine =
    same_machine d2.machine d3.machine it.radar.served it.radar.machine radar.1 ∙ same_machine d1.machine d2.machine it.key.served it.key.machine key.1 in
    let refused : Some r ≡ option_and_then (pulse_refusal d3.machine) (slice_get (line_left plan Timer d3.lines) 0) =
    it.timer.refusal ∙ (λ i. option_and_then (pulse_refusal (sym machine i)) (slice_get (timer_stays (Some r) (Some q) r3 found n1 n2 n3 d d0 d1 d2 d3 s s1 s2 s3 it i) 0)) in
    let first = some_first d3.machine (line_left plan Timer d3.lines) r refused in
    let both = timer_last it.timer.served it.key.served it.radar.served (line_left plan Timer d3.lines) (line_left plan Key d3.lines) (line_left plan Radar d3.lines) first.0 first.1 first.2 key.1 radar.1 in
    finish (Some r) (Some q) r3 found n1 n2 n3 d d0 d1 d2 d3 s s1 s2 s3 it
    (moves found n1 n2 n3 d.lines d0.lines d1.lines d2.lines d3.lines it.collects it.timer.lines it.key.lines it.radar.lines
    (λ left. key.0) (λ left. radar.0) (λ left. radar.0))
    both.0 both.1
    (it.radar.refusal ∙ (it.key.refusal ∙ (refused ∙ (λ i. option_and_then (pulse_refusal d3.machine) (slice_get (first.2 i) 0))
    ∙ λ i. option_and_then (pulse_refusal d3.machine) (slice_get (sym first.2 i ++ (line_left plan Key d3.lines ++ line_left plan Radar d3.lines)) 0))))
    (λ is. absurd (true≢false (sym (ap is_some it.radar.refusal) ∙ is)), λ each. absurd (omega (arith, each Timer, timer_owed)))
    (idle timer_owed)
  where
    idle : 0 < on Timer d3.lines.owed → IdleWait d.machine.plan d3.lines
    idle t Timer none some = cc
    idle t Key none some = (Timer, omega arith, t)
    idle t Radar none some = (Timer, omega arith, t)

-- the three lines of a desk from which what was posted was taken
pub drains : (r1 r2 r3 : Option Refusal) (found : List ℕ) (n1 n2 n3 : ℕ) (d d0 d1 d2 d3 : Desked) (s s1 s2 s3 : Holder)
    → d0 ≡ with_lines d0.lines d → Collects found d.lines d0.lines
    → DrainsLine None d0.machine.plan Timer d0 (with_drain s) n1 r1 d1 s1 → DrainsLine r1 d1.machine.plan Key d1 s1 n2 r2 d2 s2
    → DrainsLine r2 d2.machine.plan Radar d2 s2 n3 r3 d3 s3
    → Drains d s (record { taken = found; applied = n1 ∷ n2 ∷ n3 ∷ []; refused = r3 }) d3 s3
drains r1 r2 r3 found n1 n2 n3 d d0 d1 d2 d3 s s1 s2 s3 start collects a b c =
    let first : d0.machine.plan ≡ d.machine.plan = ap (λ (x : Desked). x.machine.plan) start in
    let second : d1.machine.plan ≡ d.machine.plan = ap (λ (m : Machined). m.plan) a.machine ∙ (same_plan d0.machine _ ∙ first) in
    let third : d2.machine.plan ≡ d.machine.plan = ap (λ (m : Machined). m.plan) b.machine ∙ (same_plan d1.machine _ ∙ second) in
    of_plan r1 r2 r3 found n1 n2 n3 d d0 d1 d2 d3 s s1 s2 s3 (record {
      start = start;
      collects = collects;
      timer = subst (λ (p : Planned). DrainsLine None p Timer d0 (with_drain s) n1 r1 d1 s1) first a;
      key = subst (λ (p : Planned). DrainsLine r1 p Key d1 s1 n2 r2 d2 s2) second b;
      radar = subst (λ (p : Planned). DrainsLine r2 p Radar d2 s2 n3 r3 d3 s3) third c;
    })
