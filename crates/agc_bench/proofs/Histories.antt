-- The history of a run: the script's calls, and those of the threads.
use Rattle.std.proofs.Common.{rules, ◌≡◌, ℕ, zero, suc, ◌+◌, ◌<◌, ◌≤◌, ◌==◌, true, false, ◌&&◌, Bool, cond, is_ok, nat_eq, List, [], ◌∷◌, ◌++◌, length, map, get_or, take, drop, arith, refl, sym, ap, subst, ◌∙◌, append_assoc}
use Rattle.std.specs.List.{Contains, filter}
use Rattle.std.proofs.lemmas.Bool.Decides.{nat_tests}
use Rattle.std.proofs.lemmas.List.{append-nil, append_cancel_left, get_or-map, length-map, take-append-drop}
use Rattle.std.proofs.lemmas.List.Elements.{All-drop}
use Rattle.agc_plan.specs.declared.request.Request.{Request}
use Rattle.atomic_table.specs.Seated.{TableId}
use Rattle.agc_latch.specs.declared.accounts.Settled.{Settled}
use Rattle.agc_latch.specs.Ends.{Posting}
use Rattle.agc_latch.specs.Lines.{on}
use Rattle.agc_plan.specs.declared.line.Line.{Line}
use Rattle.agc_plan.specs.Plans.{Planned}
use Rattle.agc_machine.specs.declared.totals.Totals.{Totals}
use Rattle.agc_machine.specs.Told.{add, nothing}
use Rattle.agc_machine.specs.Machines.{Machined, after, after_all, said_of}
use Rattle.agc_machine.specs.Said.{Said}
use Rattle.agc_desk.specs.declared.ties.Call.{Call}
use Rattle.agc_desk.specs.Desks.{ArePulses}
use Rattle.agc_desk.specs.History.{Holder, IsHistory, Leads, calls_by, new_holder, numbers_of, own_call, served_on, serves_line, with_heard}
use Rattle.agc_desk.proofs.Calls.{calls_by_append}
use Rattle.agc_plan.proofs.Lists.{next_is, none_left}
use Rattle.agc_document.specs.Benches.{Benched}
use Rattle.agc_session.specs.Runs.{bench_machine, bench_plan}
use Rattle.agc_desk.specs.Draining.{answers_to}
use Rattle.agc_bench.specs.Sharing.{AreFresh, AsksOwn, AsksPulses, EachAsks, Finishes, HaveMade, HaveRun, IsToldRun, first_calls}
use Rattle.agc_bench.specs.Threads.{AskedOwn, Attends, ToldOwn, askers_of}
use Rattle.agc_bench.specs.Steps.{asker_at, thread_at}
use Rattle.agc_bench.proofs.Askers.{all_numbered}

-- the next request's answer, and those of the requests after it
answers_at : (m : Machined) (rs : List Request) (i : ℕ) (r : Request) (said : Said) → i < length rs → r ≡ get_or rs i r
    → said ≡ said_of m r → answers_to m (drop i rs) ≡ said ∷ answers_to (after m r) (drop (i + 1) rs)
unfolding answers_to
answers_at m rs i r said below is answered =
    ap (answers_to m) (next_is rs i r below is) ∙ (λ k. sym answered k ∷ answers_to (after m r) (drop (i + 1) rs))

pub calls_next : (goal so_far : List Call) (m : Machined) (rs : List Request) (i : ℕ) (r : Request) (n : ℕ) (said : Said) → i < length rs → r ≡ get_or rs i r → n ≡ 0
    → said ≡ said_of m r → goal ≡ so_far ++ first_calls (answers_to m (drop i rs))
    → goal ≡ (so_far ++ own_call n said ∷ []) ++ first_calls (answers_to (after m r) (drop (i + 1) rs))
calls_next goal so_far m rs i r n said below is first answered whole =
    whole ∙ (ap (λ l. so_far ++ first_calls l) (answers_at m rs i r said below is answered)
    ∙ (ap (λ k. so_far ++ own_call k said ∷ first_calls (answers_to (after m r) (drop (i + 1) rs))) (sym first)
    ∙ sym (append_assoc so_far (own_call n said ∷ []) (first_calls (answers_to (after m r) (drop (i + 1) rs))))))

-- and after the last
pub calls_last : (goal so_far : List Call) (m : Machined) (rs : List Request) (i : ℕ) → length rs ≤ i → goal ≡ so_far ++ first_calls (answers_to m (drop i rs)) → so_far ≡ goal
unfolding answers_to
calls_last goal so_far m rs i past whole = sym (whole ∙ (ap (λ l. so_far ++ first_calls (answers_to m l)) (none_left rs i past) ∙ append-nil so_far))

-- what leads on from the machine after the script
leads_past : (m : Machined) (script : List Request) (rest : List Call) (last : Machined) → Leads m (first_calls (answers_to m script) ++ rest) last → Leads (after_all m script) rest last
unfolding after_all answers_to
leads_past m [] rest last leads = leads
leads_past m (r ∷ more) rest last leads = leads_past (after m r) more rest last leads.1

-- of the first calls all are of number 0
pub calls_by_first : (told : List Said) → calls_by 0 (first_calls told) ≡ first_calls told
calls_by_first [] = refl
calls_by_first (said ∷ more) = ap (λ l. own_call 0 said ∷ l) (calls_by_first more)

pub calls_by_others : (number : ℕ) (told : List Said) → calls_by (suc number) (first_calls told) ≡ []
calls_by_others number [] = refl
calls_by_others number (said ∷ more) =
    let apart : (0 == suc number) ≡ false = grind (arith, nat_tests) in
    rw apart (calls_by_others number more)

-- a share with which the first calls were made, and the others
pub made : (calls : List Call) (first : Holder) (others : List Holder) → first ≡ with_heard (calls_by 0 calls) (new_holder 0) → ((n : ℕ) → calls_by (suc n) calls ≡ []) → AreFresh 1 others
    → HaveMade calls (first ∷ others)
made calls first others is none fresh zero d below = is
made calls first others is none fresh (suc i) d below =
    let number : 1 + i ≡ suc i = omega arith in
    fresh i d (omega arith) ∙ (λ k. record { number = number k; heard = sym (none i) k; drains = 0 })

-- each share stands at its number
number_at : (calls : List Call) (may_answer : ℕ → ℕ → Bool → Type 0) (is_told : ℕ → ℕ → Said → Type 0) (bench : Benched) (starts back : List Holder) → HaveMade calls starts → EachAsks may_answer is_told (asker_at bench) starts back → length back ≡ length starts
    → (i : ℕ) (d : Holder) → i < length back → (get_or back i d).number ≡ i
number_at calls may_answer is_told bench starts back begun asked many i d below =
    (asked i d d below).with_it.number ∙ ap (λ h. h.number) (begun i d (omega (arith, many, below)))

-- a call of no pulse is not served on a line
none_served : (line : Line) (number : ℕ) (said : Said) (calls : List Call)
    → served_on line (own_call number said ∷ calls) ≡ served_on line calls
none_served line number said calls =
    let call : Call = own_call number said in
    ap (λ (b : Bool). map (λ (c : Call). c.answer.request) (cond b (call ∷ filter (serves_line line) calls) (filter (serves_line line) calls))) (and_off (is_ok said.outcome))
  where
    and_off : (b : Bool) → (b && false) ≡ false
    and_off true = refl
    and_off false = refl

-- the script's calls are no pulses
pulses_past : (plan : Planned) (told : List Said) (rest : List Call) (applied begun : List ℕ) → ArePulses plan (first_calls told ++ rest) applied begun → ArePulses plan rest applied begun
pulses_past plan [] rest applied begun pulses = pulses
pulses_past plan (said ∷ more) rest applied begun pulses =
    pulses_past plan more rest applied begun (record {
      each = λ k d below. pulses.each (suc k) d (omega (arith, below));
      served = λ line. sym (none_served line 0 said (first_calls more ++ rest)) ∙ pulses.served line;
      not_all = pulses.not_all;
    })

-- where a history begins with the script's calls, and each share's holder asked then what is its own, it is a run
pub run_of : (may_answer : ℕ → ℕ → Bool → Type 0) (is_told : ℕ → ℕ → Said → Type 0) (bench : Benched) (first : Machined) (history : List Call) (last : Machined) (starts back : List Holder) (settled : Settled) (begun : List ℕ)
    → first ≡ bench_machine bench → IsHistory first back history last → ArePulses (bench_plan bench) history settled.applied begun
    → ((line : Line) → on line settled.owed ≡ 0 → on line begun ≡ 0)
    → take (length (first_calls (answers_to first bench.script))) history ≡ first_calls (answers_to first bench.script)
    → HaveMade (first_calls (answers_to first bench.script)) starts → EachAsks may_answer is_told (asker_at bench) starts back
    → length back ≡ length starts → length starts ≡ length (askers_of bench) → IsToldRun may_answer is_told bench last settled
run_of may_answer is_told bench first history last starts back settled begun_by is whole pulses none begins begun asked many for_each =
    let begin : List Call = first_calls (answers_to first bench.script) in
    let rest : List Call = drop (length begin) history in
    let parts : history ≡ begin ++ rest = sym (take-append-drop (length begin) history) ∙ ap (λ l. l ++ rest) begins in
    let asks : (i : ℕ) → i < length (askers_of bench) → AsksOwn may_answer is_told (asker_at bench i) (get_or starts i (new_holder i)) (get_or back i (new_holder i)) =
    (λ i below. asked i (new_holder i) (new_holder i) (omega (arith, many, for_each, below))) in
    let own : (i : ℕ) (below : i < length (askers_of bench)) → calls_by i rest ≡ (asks i below).calls = (λ i below.
    let d : Holder = new_holder i in
    let a : AsksOwn may_answer is_told (asker_at bench i) (get_or starts i d) (get_or back i d) = asks i below in
    let start = begun i d (omega (arith, for_each, below)) in
    let number : (get_or back i d).number ≡ i = number_at begin may_answer is_told bench starts back begun asked many i d (omega (arith, many, for_each, below)) in
    let heard : calls_by i begin ++ calls_by i rest ≡ calls_by i begin ++ a.calls =
    sym (calls_by_append i begin rest)
    ∙ (ap (calls_by i) (sym parts)
    ∙ (ap (λ n. calls_by n history) (sym number)
    ∙ (whole.each i d (omega (arith, many, for_each, below))
    ∙ (a.with_it.heard ∙ ap (λ h. h.heard ++ a.calls) start)))) in
    append_cancel_left (calls_by i begin) _ _ heard) in
    record {
      run = record {
        calls = rest;
        leads = subst (λ m. Leads (after_all m bench.script) rest last) is (leads_past first bench.script rest last (subst (λ l. Leads first l last) parts whole.leads));
        each = all_numbered (λ i asker. AskedOwn may_answer asker (calls_by i rest)) (askers_of bench) (Attends bench.attends)
            (λ i below. subst (λ l. AskedOwn may_answer (asker_at bench i) l) (sym (own i below)) (asks i below).own);
        no_other = λ k d below.
            let among = All-drop (λ (call : Call). Contains (numbers_of back) call.by) (length begin) history whole.no_other k d below in
            let far : among.0 < length back = omega (arith, among.1, length-map back (λ (h : Holder). h.number)) in
            let d0 : Holder = new_holder 0 in
            let place = get_or-map (λ (h : Holder). h.number) back among.0 d0 (get_or rest k d).by far in
            let number = number_at begin may_answer is_told bench starts back begun asked many among.0 d0 far in
            omega (arith, far, among.2, place, number, many, for_each);
        begun = begun_by;
        pulses = pulses_past (bench_plan bench) (answers_to first bench.script) rest settled.applied begun_by (subst (λ l. ArePulses (bench_plan bench) l settled.applied begun_by) parts pulses);
        none_begun = none;
      };
      told = all_numbered (λ i asker. ToldOwn is_told asker (calls_by i rest)) (askers_of bench) (Attends bench.attends)
          (λ i below. subst (λ l. ToldOwn is_told (asker_at bench i) l) (sym (own i below)) (asks i below).told);
    }

-- a number is equal to itself, and to those that the test says
pub same_number : (n : ℕ) → nat_eq n n ≡ true
same_number n = grind (arith, nat_tests)

pub number_is : (a b : ℕ) → nat_eq a b ≡ true → a ≡ b
number_is a b same = grind (arith, nat_tests)

take_own : (l : List Call) → take (length l) l ≡ l
take_own [] = refl
take_own (x ∷ xs) = ap (λ l. x ∷ l) (take_own xs)

-- a history that is these calls begins with them
pub begins_with : (l history : List Call) → history ≡ l → take (length l) history ≡ l
begins_with l history is = ap (take (length l)) is ∙ take_own l

-- the caller attended, and each thread asked what is its own
pub each_all : (may_answer : ℕ → ℕ → Bool → Type 0) (is_told : ℕ → ℕ → Said → Type 0) (bench : Benched) (first mid : Holder) (others back : List Holder) → AsksPulses 1 first mid
    → EachAsks may_answer is_told (thread_at bench) others back → EachAsks may_answer is_told (asker_at bench) (first ∷ others) (mid ∷ back)
each_all may_answer is_told bench first mid others back attended asked zero s t below =
    record { calls = attended.calls; own = attended.own; told = tt; with_it = attended.with_it }
each_all may_answer is_told bench first mid others back attended asked (suc i) s t below = asked i s t (omega arith)

-- a history that begins with these calls begins with them as it goes on
pub begins_on : (l history more : List Call) → take (length l) history ≡ l → take (length l) (history ++ more) ≡ l
begins_on [] history more begins = refl
begins_on (x ∷ l) [] more begins = cc
begins_on (x ∷ l) (y ∷ history) more begins =
    let rest : take (length l) history ≡ l = cc in
    let next : take (length l) (history ++ more) ≡ l = begins_on l history more rest in
    cc

-- the plan of a bench's machine
pub plan_is : (bench : Benched) (m : Machined) → m ≡ bench_machine bench → m.plan ≡ bench_plan bench
unfolding bench_machine
plan_is bench m is = ap (λ (m : Machined). m.plan) is

-- nothing was told before the run
with_nothing : (t : Totals) → add t nothing ≡ t
with_nothing t = search rules

pub none_before : (bench : Benched) (first : Machined) (told total : Totals) → first ≡ bench_machine bench → add told first.totals ≡ total → told ≡ total
unfolding bench_machine
none_before bench first told total is grown = sym (with_nothing told) ∙ (sym (ap (λ (m : Machined). add told m.totals) is) ∙ grown)

-- when the threads have ended, and then the caller attended, it is a run
pub run_finished : (may_answer : ℕ → ℕ → Bool → Type 0) (is_told : ℕ → ℕ → Said → Type 0) (bench : Benched) (first : Machined) (latch : TableId) (calls : List Call) (caller : Holder) (shares : List Holder) (devices : List Posting) (last : Machined) (settled : Settled)
    → first ≡ bench_machine bench
    → take (length (first_calls (answers_to first bench.script))) calls ≡ first_calls (answers_to first bench.script)
    → HaveRun may_answer is_told first bench latch caller shares devices → Finishes first calls caller shares last settled → IsToldRun may_answer is_told bench last settled
run_finished may_answer is_told bench first latch calls caller shares devices last settled is begins ran ends =
    let answers : List Said = answers_to first bench.script in
    let starts : List Holder = caller ∷ ran.starts in
    let caller_is : caller ≡ with_heard (calls_by 0 (first_calls answers)) (new_holder 0) =
    ran.ready.caller_is ∙ ap (λ l. with_heard l (new_holder 0)) (sym (calls_by_first answers)) in
    let begun : HaveMade (first_calls answers) starts = made (first_calls answers) caller ran.starts caller_is (λ n. calls_by_others n answers) ran.ready.fresh in
    let asked : EachAsks may_answer is_told (asker_at bench) starts (ends.now ∷ shares) = each_all may_answer is_told bench caller ends.now ran.starts shares ends.attended ran.asked.each in
    run_of may_answer is_told bench first (calls ++ ends.more) last starts (ends.now ∷ shares) settled ends.begun is ends.whole
    (subst (λ p. ArePulses p (calls ++ ends.more) settled.applied ends.begun) (plan_is bench first is) ends.pulses)
    ends.none_begun
    (begins_on (first_calls answers) calls ends.more begins) begun asked (omega (arith, ran.asked.for_each)) (omega (arith, ran.ready.for_each))
