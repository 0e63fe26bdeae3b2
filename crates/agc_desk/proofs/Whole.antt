-- Pulses of one action are asked for as a whole.
use Rattle.std.proofs.Common.{◌≡◌, ℕ, zero, suc, ◌+◌, ◌<◌, ◌≤◌, List, [], ◌∷◌, ◌++◌, length, replicate, take, refl, sym, ap, ◌∙◌, inl, inr, append_assoc, append-nil, arith}
use Rattle.std.specs.List.{flat_map}
use Rattle.std.proofs.lemmas.Grind.{flat_map-append}
use Rattle.std.proofs.lemmas.List.{append_cancel_right, replicate-append-replicate}
use Rattle.agc_plan.specs.declared.line.Line.{Line}
use Rattle.agc_plan.specs.declared.line.Line.TheVariants.{Timer, Key, Radar}
use Rattle.agc_plan.specs.declared.request.Action.{Action}
use Rattle.agc_plan.specs.declared.request.Action.TheVariants as action
use Rattle.agc_plan.specs.declared.request.Request.{Request}
use Rattle.agc_plan.specs.Plans.{Planned}
use Rattle.agc_plan.specs.Pulses.{pulse_requests, repeated, requests_for}
use Rattle.agc_latch.specs.Lines.{on}
use Rattle.agc_desk.specs.declared.drain.Drained.{Drained}
use Rattle.agc_desk.specs.declared.ties.Call.{Call}
use Rattle.agc_desk.specs.Desks.{ArePulses, Desked}
use Rattle.agc_desk.specs.Draining.{Drains, left_by}
use Rattle.agc_desk.specs.History.{Holder, served_on}
use Rattle.agc_desk.specs.Laws.{DoesOneEach, IsOneOrNone, whole_of}
use Rattle.agc_desk.specs.Pulses.{left_of, pulse_of}

-- one action asks for one request at most
pub one_request : (act : Action) → length (requests_for (act ∷ [])) ≤ 1
one_request action.Nothing = omega arith
one_request (action.Novac priority entry) = omega arith
one_request (action.Findvac priority entry) = omega arith
one_request (action.Rouse at) = omega arith
one_request (action.List delay task) = omega arith

one_each : (plan : Planned) (line : Line) → DoesOneEach plan → length (pulse_requests plan line) ≤ 1
one_each plan Timer one = omega arith
one_each plan Key one = one.0
one_each plan Radar one = one.1

one_or_none : (asked : List Request) → length asked ≤ 1 → IsOneOrNone asked
one_or_none [] few = inl refl
one_or_none (q ∷ []) few = inr (q, refl)
one_or_none (q ∷ r ∷ more) few = absurd (omega (arith, few))

pub each_asked : (plan : Planned) (line : Line) → DoesOneEach plan → IsOneOrNone (pulse_requests plan line)
each_asked plan line one = one_or_none (pulse_requests plan line) (one_each plan line one)

no_part : (part most : ℕ) → (0 < part → part < most) → most ≤ 1 → part ≡ 0
no_part zero most within few = refl
no_part (suc part) most within few = let short : suc part < most = within (omega arith) in absurd (omega (arith, short, few))

pub none_begun : (plan : Planned) (calls : List Call) (applied begun : List ℕ) (line : Line) → DoesOneEach plan → ArePulses plan calls applied begun → on line begun ≡ 0
none_begun plan calls applied begun line one are =
    no_part (on line begun) (length (pulse_requests plan line)) (are.not_all line) (one_each plan line one)

pub all_served : (plan : Planned) (calls : List Call) (applied begun : List ℕ) (line : Line) → DoesOneEach plan → ArePulses plan calls applied begun
    → served_on line calls ≡ repeated (pulse_requests plan line) (on line applied)
all_served plan calls applied begun line one are =
    are.served line
    ∙ (ap (λ n. repeated (pulse_requests plan line) (on line applied) ++ take n (pulse_requests plan line)) (none_begun plan calls applied begun line one are)
    ∙ append-nil (repeated (pulse_requests plan line) (on line applied)))

-- the same so many times, and more times
repeated_more : {A : Type 0} (asked : List A) (n d : ℕ) → repeated asked (n + d) ≡ repeated asked d ++ repeated asked n
repeated_more asked n d =
    let swapped : n + d ≡ d + n = omega arith in
    ap (repeated asked) swapped
    ∙ (ap (flat_map (λ all. all)) (sym (replicate-append-replicate d n asked))
    ∙ flat_map-append (λ all. all) (replicate d asked) (replicate n asked))

-- of two lines so many are done and so many left, the later one's after the earlier one's
two_lines : {A : Type 0} (k r : List A) (nk nr dk dr : ℕ) → (0 < nk → dr ≡ 0)
    → repeated k (nk + dk) ++ repeated r (nr + dr) ≡ (repeated k dk ++ repeated r dr) ++ (repeated k nk ++ repeated r nr)
two_lines k r zero nr dk dr later =
    let alone : 0 + dk ≡ dk = omega arith in
    (λ i. repeated k (alone i) ++ repeated_more r nr dr i) ∙ sym (append_assoc (repeated k dk) (repeated r dr) (repeated r nr))
two_lines k r (suc nk) nr dk dr later =
    let none : dr ≡ 0 = later (omega arith) in
    let same : nr + dr ≡ nr = omega (arith, none) in
    let rest = repeated k (suc nk) ++ repeated r nr in
    (λ i. repeated_more k (suc nk) dk i ++ repeated r (same i))
    ∙ (append_assoc (repeated k dk) (repeated k (suc nk)) (repeated r nr)
    ∙ ap (λ l. l ++ rest) (sym (ap (λ d. repeated k dk ++ repeated r d) none ∙ append-nil (repeated k dk))))

-- and of three
three_lines : {A : Type 0} (t k r : List A) (nt nk nr dt dk dr : ℕ) → (0 < nt → dk ≡ 0) → (0 < nt → dr ≡ 0) → (0 < nk → dr ≡ 0)
    → repeated t (nt + dt) ++ (repeated k (nk + dk) ++ repeated r (nr + dr))
    ≡ (repeated t dt ++ (repeated k dk ++ repeated r dr)) ++ (repeated t nt ++ (repeated k nk ++ repeated r nr))
three_lines t k r zero nk nr dt dk dr second third later =
    let alone : 0 + dt ≡ dt = omega arith in
    (λ i. repeated t (alone i) ++ two_lines k r nk nr dk dr later i)
    ∙ sym (append_assoc (repeated t dt) (repeated k dk ++ repeated r dr) (repeated k nk ++ repeated r nr))
three_lines t k r (suc nt) nk nr dt dk dr second third later =
    let no_second : dk ≡ 0 = second (omega arith) in
    let no_third : dr ≡ 0 = third (omega arith) in
    let same_second : nk + dk ≡ nk = omega (arith, no_second) in
    let same_third : nr + dr ≡ nr = omega (arith, no_third) in
    let last = repeated k nk ++ repeated r nr in
    let rest = repeated t (suc nt) ++ last in
    (λ i. repeated_more t (suc nt) dt i ++ (repeated k (same_second i) ++ repeated r (same_third i)))
    ∙ (append_assoc (repeated t dt) (repeated t (suc nt)) last
    ∙ ap (λ l. l ++ rest) (sym ((λ i. repeated t dt ++ (repeated k (no_second i) ++ repeated r (no_third i))) ∙ append-nil (repeated t dt))))

-- pulses of equal numbers on each line
same_left : (plan : Planned) (f g b c : Line → ℕ) → ((line : Line) → f line ≡ g line) → ((line : Line) → b line ≡ c line) → left_of plan f b ≡ left_of plan g c
same_left plan f g b c same begun = λ i. left_of plan (λ line. same line i) (λ line. begun line i)

pub whole_left : (old now : Desked) (calls : List Call) → DoesOneEach old.machine.plan → ArePulses old.machine.plan calls now.lines.applied now.lines.begun
    → left_by old.machine.plan now.lines ≡ whole_of old.machine.plan now.lines.owed
whole_left old now calls one are =
    same_left old.machine.plan (λ line. on line now.lines.owed) (λ line. on line now.lines.owed) (λ line. on line now.lines.begun) (λ _. 0)
    (λ line. refl)
    (λ line. none_begun old.machine.plan calls now.lines.applied now.lines.begun line one are)

pub whole_drained : (old : Desked) (share : Holder) (told : Drained) (now : Desked) (heard : Holder) (before calls : List Call) → DoesOneEach old.machine.plan
    → ArePulses old.machine.plan before old.lines.applied old.lines.begun
    → ArePulses old.machine.plan calls now.lines.applied now.lines.begun
    → (drains : Drains old share told now heard) → drains.served ≡ whole_of old.machine.plan told.applied
whole_drained old share told now heard before calls one were are drains =
    let plan = old.machine.plan in
    append_cancel_right drains.served (whole_of plan told.applied) (whole_of plan now.lines.owed)
    (ap (λ l. drains.served ++ l) (sym (whole_left old now calls one are))
    ∙ (sym drains.left
    ∙ (same_left plan (λ line. on line old.lines.owed + on line told.taken) (λ line. on line now.lines.owed + on line told.applied) (λ line. on line old.lines.begun) (λ _. 0)
    (λ line. sym (drains.lines.owed line))
    (λ line. none_begun plan before old.lines.applied old.lines.begun line one were)
    ∙ three_lines (pulse_of plan Timer) (pulse_of plan Key) (pulse_of plan Radar) (on Timer now.lines.owed) (on Key now.lines.owed) (on Radar now.lines.owed)
    (on Timer told.applied) (on Key told.applied) (on Radar told.applied)
    (drains.lines.in_order Timer Key (omega arith)) (drains.lines.in_order Timer Radar (omega arith)) (drains.lines.in_order Key Radar (omega arith)))))
