-- Requests that a desk is asked one after another, and lines that are drained one after another.
use Rattle.std.proofs.Common.{◌≡◌, ℕ, zero, suc, ◌+◌, ◌<◌, ◌≤◌, true, false, true≢false, List, [], ◌∷◌, ◌++◌, drop, length, map, slice_get, take, Option, None, Some, Result, Ok, Err, IsOk, is_some, refl, sym, ap, ◌∙◌, subst, ⊎_elim, append_assoc, append-nil, arith}
use Rattle.std.proofs.Math.Numerals.{add-one}
use Rattle.std.proofs.Math.Seq.{drop-append_seam, drop-nil}
use Rattle.std.specs.List.{fold}
use Rattle.std.specs.Option.{option_and_then, option_map, option_map_or}
use Rattle.std.proofs.lemmas.List.{length-map}
use Rattle.std.proofs.lemmas.Option.{slice_get-map}
use Rattle.std.proofs.lemmas.List.Elements.{All-append, All-nil, All-push}
use Rattle.std.proofs.lemmas.List.Sums.{fold-append}
use Rattle.agc_plan.specs.declared.line.Line.{Line}
use Rattle.agc_latch.specs.Lines.{on}
use Rattle.agc_latch.specs.Accounts.{Applies, Begins, LineAccounts}
use Rattle.agc_plan.specs.declared.request.Request.{Request}
use Rattle.agc_plan.specs.declared.reply.Reply.{Reply}
use Rattle.agc_plan.specs.Plans.{Planned}
use Rattle.agc_machine.specs.declared.answer.Refusal.{Refusal}
use Rattle.agc_machine.specs.declared.totals.Totals.{Totals}
use Rattle.agc_machine.specs.Machines.{Machined, after, after_all, answer_of, refusal_of, result_of, said_of, served, stepped}
use Rattle.agc_machine.specs.Said.{Said}
use Rattle.agc_machine.specs.Told.{add, nothing, told}
use Rattle.agc_desk.specs.declared.ties.Call.{Call}
use Rattle.agc_desk.specs.Books.{told_in}
use Rattle.agc_desk.specs.Desks.{Desked, with_lines}
use Rattle.agc_desk.specs.Draining.{NoneRefused, ServesAll, answers_to, calls_of, pulse_refusal, requests_by, with_asked}
use Rattle.agc_desk.specs.History.{Holder, with_heard}
use Rattle.agc_desk.specs.Pulses.{Pulse, left_on, pulse_of}
use Rattle.agc_plan.specs.Pulses.{pulse_requests, repeated}
use Rattle.agc_desk.specs.Stages.{DrainsLine, Marks, NextIs, Proceeds, line_left, pulse_on}
use Rattle.agc_desk.proofs.Calls.{with_nothing}
use Rattle.agc_desk.proofs.Marking.{repeated_nothing}

-- no request changes a machine's plan
same_plan_unless : (o : Option Refusal) (m : Machined) (q : Request) → (option_map_or (λ refusal. m) o (served (stepped m q) q m)).plan ≡ m.plan
same_plan_unless None m q = refl
same_plan_unless (Some r) m q = refl

pub plan_after : (m : Machined) (q : Request) → (after m q).plan ≡ m.plan
plan_after m q = same_plan_unless (refusal_of m q) m q

pub same_plan : (m : Machined) (asked : List Request) → (after_all m asked).plan ≡ m.plan
unfolding after_all
same_plan m [] = refl
same_plan m (q ∷ qs) = same_plan (after m q) qs ∙ plan_after m q

-- what a machine answers that is asked for pulses, and the machine after that
abbrev pub told_by : Machined → List Pulse → List Said
told_by m asked = answers_to m (requests_by asked)

abbrev pub after_by : Machined → List Pulse → Machined
after_by m asked = after_all m (requests_by asked)

pub told_by_append : (m : Machined) (a b : List Pulse) → told_by m (a ++ b) ≡ told_by m a ++ told_by (after_by m a) b
unfolding answers_to after_all
told_by_append m [] b = refl
told_by_append m (p ∷ ps) b =
    ap (λ l. said_of m p.request ∷ l) (told_by_append (after m p.request) ps b)

after_by_append : (m : Machined) (a b : List Pulse) → after_by m (a ++ b) ≡ after_by (after_by m a) b
unfolding after_all
after_by_append m [] b = refl
after_by_append m (p ∷ ps) b = after_by_append (after m p.request) ps b

calls_append : (number : ℕ) (m : Machined) (a b : List Pulse)
    → calls_of number m (a ++ b) ≡ calls_of number m a ++ calls_of number (after_by m a) b
unfolding calls_of after_all
calls_append number m [] b = refl
calls_append number m (p ∷ ps) b =
    ap (λ l. record { by = number; answer = said_of m p.request; pulse = Some p.line } ∷ l)
    (calls_append number (after m p.request) ps b)

add_assoc : (s t u : Totals) → add (add s t) u ≡ add s (add t u)
add_assoc s t u =
    let served : (add (add s t) u).served ≡ (add s (add t u)).served = omega arith in
    let a1201 : (add (add s t) u).a1201 ≡ (add s (add t u)).a1201 = omega arith in
    let a1202 : (add (add s t) u).a1202 ≡ (add s (add t u)).a1202 = omega arith in
    let a1203 : (add (add s t) u).a1203 ≡ (add s (add t u)).a1203 = omega arith in
    let restarts : (add (add s t) u).restarts ≡ (add s (add t u)).restarts = omega arith in
    λ i. record { served = served i; a1201 = a1201 i; a1202 = a1202 i; a1203 = a1203 i; restarts = restarts i }

nothing_and : (t : Totals) → add nothing t ≡ t
nothing_and t =
    let served : (add nothing t).served ≡ t.served = omega arith in
    let a1201 : (add nothing t).a1201 ≡ t.a1201 = omega arith in
    let a1202 : (add nothing t).a1202 ≡ t.a1202 = omega arith in
    let a1203 : (add nothing t).a1203 ≡ t.a1203 = omega arith in
    let restarts : (add nothing t).restarts ≡ t.restarts = omega arith in
    λ i. record { served = served i; a1201 = a1201 i; a1202 = a1202 i; a1203 = a1203 i; restarts = restarts i }

told_from : (t : Totals) (heard : List Call) → fold (λ total call. add total (told call.answer.outcome)) t heard ≡ add t (told_in heard)
unfolding told_in
told_from t [] = with_nothing t
told_from t (x ∷ xs) =
    told_from (add t (told x.answer.outcome)) xs
    ∙ (add_assoc t (told x.answer.outcome) (told_in xs)
    ∙ ap (λ u. add t u) (sym (told_from (add nothing (told x.answer.outcome)) xs ∙ ap (λ u. add u (told_in xs)) (nothing_and (told x.answer.outcome)))))

-- what the calls of one list after another tell
told_append : (a b : List Call) → told_in (a ++ b) ≡ add (told_in a) (told_in b)
unfolding told_in
told_append a b = fold-append (λ total call. add total (told call.answer.outcome)) nothing a b ∙ told_from (told_in a) b

asked_none : (number : ℕ) (d : Desked) → d ≡ with_asked number [] d
unfolding after_all told_in calls_of
asked_none number d =
    λ i. record d { history = sym (append-nil d.history) i; booked = with_nothing d.booked i }

asked_append : (number : ℕ) (a b : List Pulse) (d : Desked)
    → with_asked number b (with_asked number a d) ≡ with_asked number (a ++ b) d
asked_append number a b d =
    let history : (d.history ++ calls_of number d.machine a) ++ calls_of number (after_by d.machine a) b ≡ d.history ++ calls_of number d.machine (a ++ b) =
    append_assoc d.history _ _ ∙ ap (λ (l : List Call). d.history ++ l) (sym (calls_append number d.machine a b)) in
    let booked : add (add d.booked (told_in (calls_of number d.machine a))) (told_in (calls_of number (after_by d.machine a) b)) ≡ add d.booked (told_in (calls_of number d.machine (a ++ b))) =
    add_assoc d.booked _ _ ∙ ap (λ t. add d.booked t) (sym (told_append _ _) ∙ ap told_in (sym (calls_append number d.machine a b))) in
    λ i. record d { machine = sym (after_by_append d.machine a b) i; history = history i; booked = booked i }

-- nothing was asked
pub serves_none : (d : Desked) (s : Holder) → ServesAll [] d s d s
unfolding calls_of
serves_none d s = record {
  desk = ap (with_lines d.lines) (asked_none s.number d);
  heard = ap (λ l. record s { heard = l }) (sym (append-nil s.heard));
}

-- first these were asked, and then those
pub serves_append : (a b : List Pulse) (old : Desked) (s : Holder) (mid : Desked) (t : Holder) (now : Desked) (new : Holder)
    → ServesAll a old s mid t → ServesAll b mid t now new → ServesAll (a ++ b) old s now new
serves_append a b old s mid t now new first next =
    let number : t.number ≡ s.number = ap (λ (h : Holder). h.number) first.heard in
    let machine : mid.machine ≡ after_by old.machine a = ap (λ (d : Desked). d.machine) first.desk in
    record {
      desk = next.desk
          ∙ (ap (λ (n : ℕ). with_lines now.lines (with_asked n b mid)) number
          ∙ (ap (λ (d : Desked). with_lines now.lines (with_asked s.number b d)) first.desk
          ∙ ap (with_lines now.lines) (asked_append s.number a b old)));
      heard = next.heard
          ∙ (ap (λ (n : ℕ). with_heard (calls_of n mid.machine b) t) number
          ∙ (ap (λ (h : Holder). with_heard (calls_of s.number mid.machine b) h) first.heard
          ∙ (ap (λ (m : Machined). with_heard (calls_of s.number m b) (with_heard (calls_of s.number old.machine a) s)) machine
          ∙ ap (λ l. record s { heard = l }) (append_assoc s.heard _ _ ∙ ap (λ l. s.heard ++ l) (sym (calls_append s.number old.machine a b))))));
    }

-- what changes the accounts of lines alone, after these were asked
pub serves_lines : (a : List Pulse) (old : Desked) (s : Holder) (mid : Desked) (t : Holder) (now : Desked)
    → ServesAll a old s mid t → now ≡ with_lines now.lines mid → ServesAll a old s now t
serves_lines a old s mid t now before next =
    record { desk = next ∙ ap (with_lines now.lines) before.desk; heard = before.heard }

-- the desk was asked for one pulse
pub serves_one : (p : Pulse) (old : Desked) (s : Holder) (said : Said) (now : Desked) (new : Holder)
    → said ≡ said_of old.machine p.request
    → now ≡ with_lines now.lines (record old { machine = after old.machine p.request; history = old.history ++ record { by = s.number; answer = said; pulse = Some p.line } ∷ []; booked = add old.booked (told said.outcome) })
    → new ≡ with_heard (record { by = s.number; answer = said; pulse = Some p.line } ∷ []) s → ServesAll (p ∷ []) old s now new
unfolding after_all told_in calls_of
serves_one p old s said now new it desk heard =
    record {
      desk = desk ∙ (λ i. with_lines now.lines (record old { machine = after old.machine p.request; history = old.history ++ record { by = s.number; answer = it i; pulse = Some p.line } ∷ []; booked = add old.booked (sym (nothing_and (told (it i).outcome)) i) }));
      heard = heard ∙ ap (λ (x : Said). with_heard (record { by = s.number; answer = x; pulse = Some p.line } ∷ []) s) it;
    }

-- a refused request changes nothing, and is refused again
refused_is : (o : Option Refusal) (reply : Reply) (r : Refusal) → result_of o reply ≡ Err r → o ≡ Some r
refused_is None reply r e = cc
refused_is (Some x) reply r e = cc

unchanged : (o : Option Refusal) (m : Machined) (q : Request) (r : Refusal) → o ≡ Some r → option_map_or (λ refusal. m) o (served (stepped m q) q m) ≡ m
unchanged None m q r e = cc
unchanged (Some x) m q r e = refl

same_after : (m : Machined) (q : Request) (r : Refusal) → answer_of m q ≡ Err r → after m q ≡ m
same_after m q r e = unchanged (refusal_of m q) m q r (refused_is (refusal_of m q) (stepped m q).reply r e)

still_refused : (m : Machined) (q : Request) (r : Refusal) → answer_of m q ≡ Err r → refusal_of (after m q) q ≡ Some r
still_refused m q r e =
    ap (λ n. refusal_of n q) (same_after m q r e) ∙ refused_is (refusal_of m q) (stepped m q).reply r e

-- a place in a list behind which another stands: what is there, and the rest
drop_at : {A : Type 0} → (xs ys : List A) (i : ℕ) (x : A) → slice_get xs i ≡ Some x → drop i (xs ++ ys) ≡ x ∷ drop (suc i) (xs ++ ys)
drop_at [] ys i x is = cc
drop_at (y ∷ xs) ys zero x is = cc
drop_at (y ∷ xs) ys (suc i) x is = drop_at xs ys i x is

-- the pulses of a line have the requests of its pulses
pulse_at : (plan : Planned) (line : Line) (part : ℕ) (q : Request) → slice_get (pulse_requests plan line) part ≡ Some q
    → slice_get (pulse_of plan line) part ≡ Some (pulse_on line q)
pulse_at plan line part q is = slice_get-map (pulse_on line) (pulse_requests plan line) part ∙ ap (option_map (pulse_on line)) is

-- the next request of a line stands before what is left after it
part_left : (plan : Planned) (line : Line) (owed part : ℕ) (q : Request) → 1 ≤ owed → slice_get (pulse_requests plan line) part ≡ Some q
    → left_on plan line owed part ≡ pulse_on line q ∷ left_on plan line owed (part + 1)
part_left plan line zero part q some is = absurd (omega (arith, some))
part_left plan line (suc owed) part q some is =
    drop_at (pulse_of plan line) (repeated (pulse_of plan line) owed) part (pulse_on line q) (pulse_at plan line part q is)
    ∙ ap (λ n. pulse_on line q ∷ left_on plan line (suc owed) n) (sym (add-one part))

-- after all requests of a pulse those of the next are left
whole_left : (plan : Planned) (line : Line) (old now part : ℕ) → now + 1 ≡ old → length (pulse_requests plan line) ≡ part
    → left_on plan line old part ≡ left_on plan line now 0
whole_left plan line zero now part one is = absurd (omega (arith, one))
whole_left plan line (suc owed) now part one is =
    let long : length (pulse_of plan line) ≡ part = length-map (pulse_requests plan line) (pulse_on line) ∙ is in
    let same : owed ≡ now = omega (arith, one) in
    ap (λ n. drop n (pulse_of plan line ++ repeated (pulse_of plan line) owed)) (sym long)
    ∙ (drop-append_seam (pulse_of plan line) (repeated (pulse_of plan line) owed) ∙ ap (repeated (pulse_of plan line)) same)

-- so, as the accounts proceed, one request less is left
one_less : (plan : Planned) (line : Line) (q : Request) (old now : LineAccounts) → NextIs plan line old q → 1 ≤ on line old.owed → Proceeds plan line old now
    → line_left plan line old ≡ pulse_on line q ∷ line_left plan line now
one_less plan line q old now is some goes =
    part_left plan line (on line old.owed) (on line old.begun) q some is
    ∙ ap (λ l. pulse_on line q ∷ l)
    (⊎_elim
    (λ w. whole_left plan line (on line old.owed) (on line now.owed) (on line old.begun + 1) w.1.owed w.0
    ∙ ap (λ n. left_on plan line (on line now.owed) n) (sym w.2))
    (λ w. ap (λ n. left_on plan line n (on line old.begun + 1)) (sym (ap (λ (a : LineAccounts). on line a.owed) w.1.rest))
    ∙ ap (λ n. left_on plan line (on line now.owed) n) (sym w.1.begun))
    goes)

-- no pulse is owed, or pulses ask for nothing: then nothing is left
pub none_owed : (plan : Planned) (line : Line) (owed part : ℕ) → owed ≡ 0 → left_on plan line owed part ≡ []
none_owed plan line owed part none = ap (λ n. drop part (repeated (pulse_of plan line) n)) none ∙ drop-nil part

pub idle_left : (plan : Planned) (line : Line) (owed part : ℕ) → pulse_requests plan line ≡ [] → left_on plan line owed part ≡ []
idle_left plan line owed part is = ap (drop part) (repeated_nothing (pulse_of plan line) owed (ap (map (pulse_on line)) is)) ∙ drop-nil part

-- no pulse of a line is applied
pub applies_none : (line : Line) (l : LineAccounts) → Applies line 0 l l
applies_none line l = record {
  owed = omega arith;
  applied = omega arith;
  other_owed = λ other apart. refl;
  other_applied = λ other apart. refl;
  other_begun = λ other apart. refl;
  taker = refl;
  devices = refl;
  settled = refl;
}

-- and some more
applies_more : (line : Line) (n k : ℕ) (a b c : LineAccounts) → Applies line n a b → Applies line k b c → Applies line (n + k) a c
applies_more line n k a b c before now = record {
  owed = omega (arith, before.owed, now.owed);
  applied = omega (arith, before.applied, now.applied);
  other_owed = λ other apart. now.other_owed other apart ∙ before.other_owed other apart;
  other_applied = λ other apart. now.other_applied other apart ∙ before.other_applied other apart;
  other_begun = λ other apart. now.other_begun other apart ∙ before.other_begun other apart;
  taker = now.taker ∙ before.taker;
  devices = now.devices ∙ before.devices;
  settled = now.settled ∙ before.settled;
}

-- a pulse is begun further: none is applied
begins_none : (line : Line) (a b : LineAccounts) → Begins line a b → Applies line 0 a b
begins_none line a b begins = record {
  owed = omega (arith, ap (λ (l : LineAccounts). on line l.owed) begins.rest);
  applied = omega (arith, ap (λ (l : LineAccounts). on line l.applied) begins.rest);
  other_owed = λ other apart. ap (λ (l : LineAccounts). on other l.owed) begins.rest;
  other_applied = λ other apart. ap (λ (l : LineAccounts). on other l.applied) begins.rest;
  other_begun = begins.other_begun;
  taker = ap (λ (l : LineAccounts). l.taker) begins.rest;
  devices = ap (λ (l : LineAccounts). l.devices) begins.rest;
  settled = ap (λ (l : LineAccounts). l.settled) begins.rest;
}

-- what is asked on a line, and what the accounts are after that, where nothing was refused
pub record Asked (plan : Planned) (line : Line) (old : Desked) (s : Holder) (mid : Desked) (t : Holder) : Type 0 where
  pub n : ℕ
  pub lines : Applies line n old.lines mid.lines
  pub served : List Pulse
  pub left : line_left plan line old.lines ≡ served ++ line_left plan line mid.lines
  pub asked : ServesAll served old s mid t
  pub none_refused : NoneRefused (told_by old.machine served)

pub asked_nothing : (plan : Planned) (line : Line) (d : Desked) (s : Holder) → Asked plan line d s d s
unfolding answers_to
asked_nothing plan line d s = record {
  n = 0;
  lines = applies_none line d.lines;
  served = [];
  left = refl;
  asked = serves_none d s;
  none_refused = All-nil (λ (x : Said). IsOk x.outcome);
}

is_ok_of : (o : Result Reply Refusal) (reply : Reply) → o ≡ Ok reply → IsOk o
is_ok_of o reply e = subst (λ (x : Result Reply Refusal). IsOk x) (sym e) refl

served_one : (m : Machined) (p : Pulse) (reply : Reply) → answer_of m p.request ≡ Ok reply → NoneRefused (told_by m (p ∷ []))
unfolding answers_to
served_one m p reply e = All-push (λ (x : Said). IsOk x.outcome) [] (said_of m p.request) (All-nil (λ (x : Said). IsOk x.outcome)) (is_ok_of (answer_of m p.request) reply e)

-- the plan stays, so that the lines' pulses ask for the same
pub plan_stays : (plan : Planned) (line : Line) (old : Desked) (s : Holder) (mid : Desked) (t : Holder)
    → plan ≡ old.machine.plan → Asked plan line old s mid t → mid.machine.plan ≡ plan
plan_stays plan line old s mid t is before =
    ap (λ (d : Desked). d.machine.plan) before.asked.desk ∙ (same_plan old.machine _ ∙ sym is)

-- one more request was served
pub asked_more : (plan : Planned) (line : Line) (q : Request) (old : Desked) (s : Holder) (mid : Desked) (t : Holder) (said : Said) (now : Desked) (new : Holder) (reply : Reply)
    → Asked plan line old s mid t → NextIs plan line mid.lines q → 1 ≤ on line mid.lines.owed → said ≡ said_of mid.machine q
    → now ≡ with_lines now.lines (record mid { machine = after mid.machine q; history = mid.history ++ record { by = t.number; answer = said; pulse = Some line } ∷ []; booked = add mid.booked (told said.outcome) })
    → new ≡ with_heard (record { by = t.number; answer = said; pulse = Some line } ∷ []) t → said.outcome ≡ Ok reply
    → Marks plan (Some line) said.outcome mid.lines now.lines
    → Asked plan line old s now new
asked_more plan line q old s mid t said now new reply before is some answer desk heard ok marks =
    let p : Pulse = pulse_on line q in
    let machine : mid.machine ≡ after_by old.machine before.served = ap (λ (d : Desked). d.machine) before.asked.desk in
    let next = serves_one p mid t said now new answer desk heard in
    let goes : Proceeds plan line mid.lines now.lines = subst (λ (o : Result Reply Refusal). Marks plan (Some line) o mid.lines now.lines) ok marks in
    let one : (k : ℕ) × Applies line k mid.lines now.lines = ⊎_elim (λ w. (1, w.1)) (λ w. (0, begins_none line mid.lines now.lines w.1)) goes in
    let served = All-append (λ (x : Said). IsOk x.outcome) _ _ before.none_refused
    (subst (λ (m : Machined). NoneRefused (told_by m (p ∷ []))) machine (served_one mid.machine p reply (ap (λ (x : Said). x.outcome) (sym answer) ∙ ok))) in
    record {
      n = before.n + one.0;
      lines = applies_more line before.n one.0 old.lines mid.lines now.lines before.lines one.1;
      served = before.served ++ p ∷ [];
      left = before.left ∙ (ap (λ l. before.served ++ l) (one_less plan line q mid.lines now.lines is some goes)
          ∙ sym (append_assoc before.served (p ∷ []) (line_left plan line now.lines)));
      asked = serves_append before.served (p ∷ []) old s mid t now new before.asked next;
      none_refused = subst (λ (l : List Said). NoneRefused l) (sym (told_by_append old.machine before.served (p ∷ []))) served;
    }

-- and less is left
pub left_less : (plan : Planned) (line : Line) (q : Request) (old now : LineAccounts) (outcome : Result Reply Refusal) (reply : Reply) → NextIs plan line old q → 1 ≤ on line old.owed
    → outcome ≡ Ok reply → Marks plan (Some line) outcome old now → length (line_left plan line now) < length (line_left plan line old)
left_less plan line q old now outcome reply is some ok marks =
    let less = ap length (one_less plan line q old now is some (subst (λ (o : Result Reply Refusal). Marks plan (Some line) o old now) ok marks)) in
    omega (arith, less)

-- all that the line's owed pulses ask for was served
pub line_done : (plan : Planned) (line : Line) (n : ℕ) (old : Desked) (s : Holder) (mid : Desked) (t : Holder)
    → Asked plan line old s mid t → on line mid.lines.owed ≡ 0 → n ≡ on line old.lines.owed
    → DrainsLine None plan line old s n None mid t
line_done plan line n old s mid t before none all =
    let next : line_left plan line mid.lines ≡ [] = none_owed plan line (on line mid.lines.owed) (on line mid.lines.begun) none in
    let count : before.n ≡ n = omega (arith, before.lines.owed, none, all) in
    record {
      lines = subst (λ k. Applies line k old.lines mid.lines) count before.lines;
      served = before.served;
      left = before.left;
      asked = subst (λ (l : List Pulse). ServesAll l old s mid t)
          (sym (append-nil before.served) ∙ ap (λ (l : List Pulse). before.served ++ take 1 l) (sym next))
          before.asked;
      machine = ap (λ (d : Desked). d.machine) before.asked.desk;
      none_refused = before.none_refused;
      refusal = ap (λ (l : List Pulse). option_and_then (pulse_refusal mid.machine) (slice_get l 0)) (sym next);
      stopped = λ r e. cc;
      none_left = λ e. (λ x. none, λ x. refl);
    }

-- the next request was refused
pub line_refused : (plan : Planned) (line : Line) (q : Request) (n : ℕ) (old : Desked) (s : Holder) (mid : Desked) (t : Holder) (said : Said) (now : Desked) (new : Holder) (refusal : Refusal)
    → Asked plan line old s mid t → NextIs plan line mid.lines q → 1 ≤ on line mid.lines.owed
    → n + on line now.lines.owed ≡ on line old.lines.owed
    → said ≡ said_of mid.machine q
    → now ≡ with_lines now.lines (record mid { machine = after mid.machine q; history = mid.history ++ record { by = t.number; answer = said; pulse = Some line } ∷ []; booked = add mid.booked (told said.outcome) })
    → new ≡ with_heard (record { by = t.number; answer = said; pulse = Some line } ∷ []) t → said.outcome ≡ Err refusal
    → Marks plan (Some line) said.outcome mid.lines now.lines
    → DrainsLine None plan line old s n (Some refusal) now new
line_refused plan line q n old s mid t said now new refusal before is some count answer desk heard err marks =
    let p : Pulse = pulse_on line q in
    let same_lines : now.lines ≡ mid.lines = subst (λ (o : Result Reply Refusal). Marks plan (Some line) o mid.lines now.lines) err marks in
    let applied : before.n ≡ n = omega (arith, before.lines.owed, count, ap (λ (l : LineAccounts). on line l.owed) same_lines) in
    let still : 0 < on line now.lines.owed = omega (arith, some, ap (λ (l : LineAccounts). on line l.owed) same_lines) in
    let next : line_left plan line now.lines ≡ p ∷ left_on plan line (on line mid.lines.owed) (on line mid.lines.begun + 1) =
    ap (line_left plan line) same_lines ∙ part_left plan line (on line mid.lines.owed) (on line mid.lines.begun) q some is in
    let refused : answer_of mid.machine q ≡ Err refusal = ap (λ (x : Said). x.outcome) (sym answer) ∙ err in
    let machine : now.machine ≡ after mid.machine q = ap (λ (d : Desked). d.machine) desk in
    let all = serves_append before.served (p ∷ []) old s mid t now new before.asked (serves_one p mid t said now new answer desk heard) in
    record {
      lines = subst (λ (k : ℕ). Applies line k old.lines now.lines) applied (subst (λ (l : LineAccounts). Applies line before.n old.lines l) (sym same_lines) before.lines);
      served = before.served;
      left = before.left ∙ ap (λ (l : LineAccounts). before.served ++ line_left plan line l) (sym same_lines);
      asked = subst (λ (l : List Pulse). ServesAll l old s now new) (ap (λ (l : List Pulse). before.served ++ take 1 l) (sym next)) all;
      machine = machine ∙ (same_after mid.machine q refusal refused ∙ ap (λ (d : Desked). d.machine) before.asked.desk);
      none_refused = before.none_refused;
      refusal = sym (ap (λ (l : List Pulse). option_and_then (pulse_refusal now.machine) (slice_get l 0)) next
          ∙ (ap (λ (m : Machined). refusal_of m q) machine ∙ still_refused mid.machine q refusal refused));
      stopped = λ r e. cc;
      none_left = λ e. (λ x. absurd (true≢false x), λ (x : on line now.lines.owed ≡ 0). absurd (omega (arith, x, still)));
    }

-- a request of an earlier line was refused
pub line_stopped : (before : Option Refusal) (plan : Planned) (line : Line) (d : Desked) (s : Holder) → is_some before ≡ true
    → DrainsLine before plan line d s 0 before d s
unfolding answers_to after_all
line_stopped None plan line d s is = absurd (true≢false (sym is))
line_stopped (Some r) plan line d s is = record {
  lines = applies_none line d.lines;
  served = [];
  left = refl;
  asked = serves_none d s;
  machine = refl;
  none_refused = All-nil (λ (x : Said). IsOk x.outcome);
  refusal = refl;
  stopped = λ q e. (refl, refl);
  none_left = λ e. cc;
}

-- a line whose pulses ask for nothing
pub line_idle : (before : Option Refusal) (plan : Planned) (line : Line) (old : Desked) (s : Holder) (n : ℕ) (now : Desked)
    → is_some before ≡ false → pulse_requests plan line ≡ []
    → Applies line n old.lines now.lines → now ≡ with_lines now.lines old → n ≡ on line old.lines.owed
    → DrainsLine before plan line old s n None now s
unfolding answers_to after_all
line_idle (Some r) plan line old s n now unstopped is lines desk all = absurd (true≢false unstopped)
line_idle None plan line old s n now unstopped is lines desk all =
    let none : on line now.lines.owed ≡ 0 = omega (arith, lines.owed, all) in
    let next : line_left plan line now.lines ≡ [] = none_owed plan line (on line now.lines.owed) (on line now.lines.begun) none in
    record {
      lines = lines;
      served = [];
      left = idle_left plan line (on line old.lines.owed) (on line old.lines.begun) is ∙ sym next;
      asked = subst (λ (l : List Pulse). ServesAll l old s now s) (ap (λ (l : List Pulse). take 1 l) (sym next))
          (serves_lines [] old s old s now (serves_none old s) desk);
      machine = ap (λ (d : Desked). d.machine) desk;
      none_refused = All-nil (λ (x : Said). IsOk x.outcome);
      refusal = ap (λ (l : List Pulse). option_and_then (pulse_refusal now.machine) (slice_get l 0)) (sym next);
      stopped = λ r e. cc;
      none_left = λ e. (λ x. none, λ x. refl);
    }
