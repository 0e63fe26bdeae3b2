-- What is told of a line is what was asked for it.
use Rattle.std.proofs.Common.{◌≡◌, ◌≢◌, ◌⊎◌, ◌&&◌, ◌==◌, ℕ, zero, suc, ◌+◌, ◌<◌, Bool, true, false, true≢false, cond, is_ok, is_some, List, [], ◌∷◌, ◌++◌, append_assoc, append-nil, length, map, replicate, take, slice_get, Option, None, Some, Result, Ok, Err, IfNone, IfSome, refl, sym, ap, ◌∙◌, subst, ⊎_elim, inl, inr, arith}
use Rattle.std.specs.List.{Contains, filter, flat_map}
use Rattle.std.proofs.lemmas.Bool.Decides.{nat_tests}
use Rattle.std.proofs.lemmas.List.{flat_map_more, map-append, replicate_more, take_all, take_more}
use Rattle.std.proofs.lemmas.List.Elements.{All-push, filter-append}
use Rattle.std.proofs.lemmas.Option.{get_or_from_slice_get, slice_get-get_or, slice_get_within}
use Rattle.agc_plan.specs.declared.line.Line.{Line}
use Rattle.agc_plan.specs.declared.line.Line.TheVariants.{Timer, Key, Radar}
use Rattle.agc_latch.specs.Accounts.{Applies, LineAccounts}
use Rattle.agc_latch.specs.Lines.{on}
use Rattle.agc_plan.specs.Pulses.{pulse_requests, repeated, word_of}
use Rattle.agc_plan.specs.declared.reply.Reply.{Reply}
use Rattle.agc_plan.specs.declared.request.Request.{Request}
use Rattle.agc_plan.specs.declared.request.Task.{Task}
use Rattle.agc_plan.specs.Plans.{Planned}
use Rattle.agc_machine.specs.declared.answer.Refusal.{Refusal}
use Rattle.agc_machine.specs.Said.{Said}
use Rattle.agc_desk.specs.declared.ties.Call.{Call}
use Rattle.agc_desk.specs.Desks.{ArePulses}
use Rattle.agc_desk.specs.History.{served_on, serves_line}
use Rattle.agc_desk.specs.Stages.{Marks, NextIs, Proceeds}

-- one line or two
which : (a b : Line) → (a ≡ b) ⊎ (word_of a ≢ word_of b)
which Timer Timer = inl refl
which Timer Key = inr (λ e. omega (arith, e))
which Timer Radar = inr (λ e. omega (arith, e))
which Key Timer = inr (λ e. omega (arith, e))
which Key Key = inl refl
which Key Radar = inr (λ e. omega (arith, e))
which Radar Timer = inr (λ e. omega (arith, e))
which Radar Key = inr (λ e. omega (arith, e))
which Radar Radar = inl refl

same : (a b : ℕ) → a ≡ b → (a == b) ≡ true
same a b e = grind (arith, nat_tests)

apart : (a b : ℕ) → a ≢ b → (a == b) ≡ false
apart a b e = grind (arith, nat_tests)

and_off : (b : Bool) → (b && false) ≡ false
and_off true = refl
and_off false = refl

-- what is served on a line with one call more
served_push : (line : Line) (calls : List Call) (call : Call)
    → served_on line (calls ++ call ∷ []) ≡ served_on line calls ++ map (λ (c : Call). c.answer.request) (cond (serves_line line call) (call ∷ []) [])
served_push line calls call =
    ap (map (λ (c : Call). c.answer.request)) (filter-append (serves_line line) calls (call ∷ []))
    ∙ map-append (λ (c : Call). c.answer.request) (filter (serves_line line) calls) (cond (serves_line line call) (call ∷ []) [])

served_yes : (line : Line) (calls : List Call) (call : Call) → serves_line line call ≡ true
    → served_on line (calls ++ call ∷ []) ≡ served_on line calls ++ call.answer.request ∷ []
served_yes line calls call is =
    served_push line calls call ∙ ap (λ b. served_on line calls ++ map (λ (c : Call). c.answer.request) (cond b (call ∷ []) [])) is

pub served_no : (line : Line) (calls : List Call) (call : Call) → serves_line line call ≡ false
    → served_on line (calls ++ call ∷ []) ≡ served_on line calls
served_no line calls call is =
    served_push line calls call
    ∙ (ap (λ b. served_on line calls ++ map (λ (c : Call). c.answer.request) (cond b (call ∷ []) [])) is ∙ append-nil (served_on line calls))

-- for what so many pulses ask, and the first requests of one more
abbrev pub asked_by : List Request → ℕ → ℕ → List Request
asked_by asked whole part = repeated asked whole ++ take part asked

-- one request more of the one that is begun
take_next : (asked : List Request) (part : ℕ) (q : Request) → slice_get asked part ≡ Some q → take (part + 1) asked ≡ take part asked ++ q ∷ []
take_next asked part q is =
    take_more asked part q (slice_get_within asked part q is) ∙ ap (λ r. take part asked ++ r ∷ []) (get_or_from_slice_get asked part q q is)

part_more : (asked : List Request) (whole part : ℕ) (q : Request) → slice_get asked part ≡ Some q
    → asked_by asked whole part ++ q ∷ [] ≡ asked_by asked whole (part + 1)
part_more asked whole part q is =
    append_assoc (repeated asked whole) (take part asked) (q ∷ []) ∙ ap (λ l. repeated asked whole ++ l) (sym (take_next asked part q is))

-- the same once more
repeated_more : {A : Type 0} → (asked : List A) (times : ℕ) → repeated asked times ++ asked ≡ repeated asked (times + 1)
repeated_more asked times =
    flat_map_more (λ all. all) [] (replicate times asked) asked ∙ ap (flat_map (λ all. all)) (replicate_more times asked)

-- and with the last one it is whole
whole_more : (asked : List Request) (whole part : ℕ) (q : Request) → slice_get asked part ≡ Some q → length asked ≡ part + 1
    → asked_by asked whole part ++ q ∷ [] ≡ asked_by asked (whole + 1) 0
whole_more asked whole part q is last =
    part_more asked whole part q is
    ∙ (ap (λ l. repeated asked whole ++ l) (take_all (part + 1) asked (omega (arith, last)))
    ∙ (repeated_more asked whole ∙ sym (append-nil (repeated asked (whole + 1)))))

pub repeated_nothing : {A : Type 0} → (asked : List A) (times : ℕ) → asked ≡ [] → repeated asked times ≡ []
repeated_nothing asked zero is = refl
repeated_nothing asked (suc times) is = ap (λ l. l ++ repeated asked times) is ∙ repeated_nothing asked times is

take_nothing : (asked : List Request) (part : ℕ) → asked ≡ [] → take part asked ≡ []
take_nothing asked part is = ap (take part) is ∙ take_all part [] (omega arith)

pub nothing_asked : (asked : List Request) (whole part : ℕ) → asked ≡ [] → asked_by asked whole part ≡ []
nothing_asked asked whole part is = ap (λ l. l ++ take part asked) (repeated_nothing asked whole is) ∙ take_nothing asked part is

-- a call that is answered for a pulse, or for none
abbrev call_of : ℕ → Request → Result Reply Refusal → List Task → Option Line → Call
call_of number q outcome fired pulse = record { by = number; answer = record { request = q; outcome = outcome; fired = fired }; pulse = pulse }

-- with one call more, for whose pulse one more request is served where it isn't refused
served_then : (plan : Planned) (calls : List Call) (number : ℕ) (q : Request) (outcome : Result Reply Refusal) (fired : List Task) (pulse : Option Line)
    (old now : LineAccounts) (line : Line) → IfSome pulse (λ l. NextIs plan l old q) → Marks plan pulse outcome old now
    → served_on line calls ≡ asked_by (pulse_requests plan line) (on line old.applied) (on line old.begun)
    → served_on line (calls ++ call_of number q outcome fired pulse ∷ []) ≡ asked_by (pulse_requests plan line) (on line now.applied) (on line now.begun)
served_then plan calls number q outcome fired None old now line asks marks before =
    served_no line calls (call_of number q outcome fired None) (and_off (is_ok outcome))
    ∙ (before ∙ ap (λ (a : LineAccounts). asked_by (pulse_requests plan line) (on line a.applied) (on line a.begun)) (sym marks))
served_then plan calls number q (Err refusal) fired (Some l) old now line asks marks before =
    served_no line calls (call_of number q (Err refusal) fired (Some l)) refl
    ∙ (before ∙ ap (λ (a : LineAccounts). asked_by (pulse_requests plan line) (on line a.applied) (on line a.begun)) (sym marks))
served_then plan calls number q (Ok reply) fired (Some l) old now line asks marks before = ⊎_elim here there (which l line)
  where
    call : Call
    call = call_of number q (Ok reply) fired (Some l)

    there : word_of l ≢ word_of line → served_on line (calls ++ call ∷ []) ≡ asked_by (pulse_requests plan line) (on line now.applied) (on line now.begun)
    there far =
        let other : line ≢ l = λ e. far (sym (ap word_of e)) in
        let applied : on line now.applied ≡ on line old.applied = ⊎_elim (λ w. w.1.other_applied line other) (λ w. ap (λ (a : LineAccounts). on line a.applied) w.1.rest) marks in
        let begun : on line now.begun ≡ on line old.begun = ⊎_elim (λ w. w.1.other_begun line other) (λ w. w.1.other_begun line other) marks in
        served_no line calls call (apart (word_of l) (word_of line) far)
        ∙ (before ∙ (ap (λ n. asked_by (pulse_requests plan line) n (on line old.begun)) (sym applied) ∙ ap (λ n. asked_by (pulse_requests plan line) (on line now.applied) n) (sym begun)))

    here : l ≡ line → served_on line (calls ++ call ∷ []) ≡ asked_by (pulse_requests plan line) (on line now.applied) (on line now.begun)
    here e =
        let next : NextIs plan line old q = subst (λ x. NextIs plan x old q) e asks in
        let goes : Proceeds plan line old now = subst (λ x. Proceeds plan x old now) e marks in
        let more : served_on line (calls ++ call ∷ []) ≡ asked_by (pulse_requests plan line) (on line old.applied) (on line old.begun) ++ q ∷ [] =
        served_yes line calls call (same (word_of l) (word_of line) (ap word_of e)) ∙ ap (λ r. r ++ q ∷ []) before in
        more ∙ ⊎_elim
        (λ w. whole_more (pulse_requests plan line) (on line old.applied) (on line old.begun) q next w.0
        ∙ (ap (λ n. asked_by (pulse_requests plan line) n 0) (sym w.1.applied) ∙ ap (λ n. asked_by (pulse_requests plan line) (on line now.applied) n) (sym w.2)))
        (λ w. part_more (pulse_requests plan line) (on line old.applied) (on line old.begun) q next
        ∙ (ap (λ (a : LineAccounts). asked_by (pulse_requests plan line) (on line a.applied) (on line old.begun + 1)) (sym w.1.rest)
        ∙ ap (λ n. asked_by (pulse_requests plan line) (on line now.applied) n) (sym w.1.begun)))
        goes

-- and of a pulse that is begun not all is
not_all_then : (plan : Planned) (outcome : Result Reply Refusal) (pulse : Option Line) (old now : LineAccounts) (line : Line)
    → Marks plan pulse outcome old now → (0 < on line old.begun → on line old.begun < length (pulse_requests plan line))
    → 0 < on line now.begun → on line now.begun < length (pulse_requests plan line)
not_all_then plan outcome None old now line marks before some = subst (λ (a : LineAccounts). on line a.begun < length (pulse_requests plan line)) (sym marks) (before (subst (λ (a : LineAccounts). 0 < on line a.begun) marks some))
not_all_then plan (Err refusal) (Some l) old now line marks before some = subst (λ (a : LineAccounts). on line a.begun < length (pulse_requests plan line)) (sym marks) (before (subst (λ (a : LineAccounts). 0 < on line a.begun) marks some))
not_all_then plan (Ok reply) (Some l) old now line marks before some = ⊎_elim here there (which l line)
  where
    there : word_of l ≢ word_of line → on line now.begun < length (pulse_requests plan line)
    there far =
        let other : line ≢ l = λ e. far (sym (ap word_of e)) in
        let begun : on line now.begun ≡ on line old.begun = ⊎_elim (λ w. w.1.other_begun line other) (λ w. w.1.other_begun line other) marks in
        let less = before (omega (arith, some, begun)) in
        omega (arith, less, begun)

    here : l ≡ line → on line now.begun < length (pulse_requests plan line)
    here e = ⊎_elim
        (λ w. absurd (omega (arith, w.2, some)))
        (λ w. let less = w.0 in let more = w.1.begun in omega (arith, less, more))
        (subst (λ x. Proceeds plan x old now) e marks)

-- what is next is among what is asked for
among : (asked : List Request) (part : ℕ) (q : Request) → slice_get asked part ≡ Some q → Contains asked q
among asked part q is = (part, slice_get_within asked part q is, get_or_from_slice_get asked part q q is)

abbrev AsksOnLine : Planned → Call → Type 0
AsksOnLine plan call = IfSome call.pulse (λ line. Contains (pulse_requests plan line) call.answer.request)

among_those : (plan : Planned) (q : Request) (pulse : Option Line) (old : LineAccounts) → IfSome pulse (λ line. NextIs plan line old q)
    → IfSome pulse (λ line. Contains (pulse_requests plan line) q)
among_those plan q None old next = next
among_those plan q (Some line) old next = among (pulse_requests plan line) (on line old.begun) q next

pub marked : (plan : Planned) (calls : List Call) (number : ℕ) (said : Said) (pulse : Option Line) (old now : LineAccounts)
    → ArePulses plan calls old.applied old.begun → IfSome pulse (λ line. NextIs plan line old said.request)
    → Marks plan pulse said.outcome old now
    → ArePulses plan (calls ++ record { by = number; answer = said; pulse = pulse } ∷ []) now.applied now.begun
marked plan calls number said pulse old now before asks marks = record {
  each = All-push (AsksOnLine plan) calls
      (record { by = number; answer = said; pulse = pulse }) before.each (among_those plan said.request pulse old asks);
  served = λ line. served_then plan calls number said.request said.outcome said.fired pulse old now line asks marks (before.served line);
  not_all = λ line some. not_all_then plan said.outcome pulse old now line marks (before.not_all line) some;
}

-- on a line whose pulses ask for nothing, any are applied
pub unasked : (plan : Planned) (calls : List Call) (line : Line) (n : ℕ) (old now : LineAccounts)
    → ArePulses plan calls old.applied old.begun → pulse_requests plan line ≡ [] → Applies line n old now → on line now.begun ≡ 0
    → ArePulses plan calls now.applied now.begun
unasked plan calls line n old now before idle applies none = record {
  each = before.each;
  served = λ other. ⊎_elim
      (λ (e : other ≡ line).
      let idle_there : pulse_requests plan other ≡ [] = ap (pulse_requests plan) e ∙ idle in
      before.served other ∙ (nothing_asked (pulse_requests plan other) (on other old.applied) (on other old.begun) idle_there
      ∙ sym (nothing_asked (pulse_requests plan other) (on other now.applied) (on other now.begun) idle_there)))
      (λ (far : word_of other ≢ word_of line).
      let apart_lines : other ≢ line = λ e. far (ap word_of e) in
      before.served other
      ∙ (ap (λ k. asked_by (pulse_requests plan other) k (on other old.begun)) (sym (applies.other_applied other apart_lines))
      ∙ ap (λ k. asked_by (pulse_requests plan other) (on other now.applied) k) (sym (applies.other_begun other apart_lines))))
      (which other line);
  not_all = λ other some. ⊎_elim
      (λ (e : other ≡ line). absurd (omega (arith, some, ap (λ l. on l now.begun) e, none)))
      (λ (far : word_of other ≢ word_of line).
      let same_begun = applies.other_begun other (λ e. far (ap word_of e)) in
      let less = before.not_all other (omega (arith, some, same_begun)) in
      omega (arith, less, same_begun))
      (which other line);
}

-- where nothing is next, pulses ask for nothing
none_at : (asked : List Request) (part : ℕ) → None ≡ slice_get asked part → (0 < part → part < length asked) → asked ≡ []
none_at [] part is all = refl
none_at (q ∷ asked) zero is all = cc
none_at (q ∷ asked) (suc part) is all =
    let some = slice_get-get_or (q ∷ asked) (suc part) q (all (omega arith)) in
    absurd (none_is_not_some _ (is ∙ some))
  where
    none_is_not_some : (x : Request) → None ≡ Some x → ⊥
    none_is_not_some x e = cc

pub none_next : (plan : Planned) (line : Line) (calls : List Call) (lines : LineAccounts) (o : Option Request)
    → ArePulses plan calls lines.applied lines.begun → o ≡ slice_get (pulse_requests plan line) (on line lines.begun) → IfNone o (pulse_requests plan line ≡ [])
none_next plan line calls lines (Some q) pulses is = tt
none_next plan line calls lines None pulses is = none_at (pulse_requests plan line) (on line lines.begun) is (pulses.not_all line)

pub none_first : (asked : List Request) (o : Option Request) → o ≡ slice_get asked 0 → is_some o ≡ false → asked ≡ []
none_first [] o is none = refl
none_first (q ∷ asked) o is none = absurd (true≢false (sym (ap is_some is) ∙ none))
