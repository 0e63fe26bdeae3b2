-- What a served request leaves is kept.
use Rattle.std.proofs.Common.{◌≡◌, ◌≢◌, ℕ, ◌+◌, ◌-◌, ◌/◌, ◌<◌, ◌≤◌, ◌^◌, ◌==◌, ◌&&◌, not, if◌then◌else◌, Bool, true, false, inl, inr, List, [], ◌∷◌, ◌++◌, Some, None, length, refl, ap, sym, ◌∙◌, subst, arith}
use Rattle.std.proofs.lemmas.Grind.{common_steps}
use Rattle.std.proofs.lemmas.List.{length-append}
use Rattle.std.specs.List.{fold}
use Rattle.std.proofs.lemmas.List.Sums.{fold_push}
use Rattle.std.proofs.lemmas.Bool.{cases_Bool}
use Rattle.agc_plan.specs.declared.reply.Alarm.{Alarm}
use Rattle.agc_plan.specs.declared.reply.Alarm.TheVariants.{A1201, A1202, A1203}
use Rattle.agc_plan.specs.declared.reply.Reply.{Reply}
use Rattle.agc_plan.specs.declared.reply.Reply.TheVariants.{Alarmed, Ticked, Restarted}
use Rattle.agc_plan.specs.declared.request.Request.{Request}
use Rattle.agc_plan.specs.declared.request.Request.TheVariants.{Restart, Fresh}
use Rattle.agc_word.specs.Layout.{sets_in}
use Rattle.agc_plan.specs.Plans.{Written, Planned, planned_with}
use Rattle.agc_plan.specs.Base.{Base}
use Rattle.agc_plan.specs.Seats.{Placed, placed, places_after, era_places}
use Rattle.agc_plan.specs.Groups.{placed_step}
use Rattle.agc_machine.specs.declared.totals.Totals.{Totals}
use Rattle.agc_machine.specs.declared.answer.Refusal.TheVariants.{Spent, LogFull}
use Rattle.agc_plan.specs.Steps.{Plain, Stepped, acted, step, reached, begins, ended, era}
use Rattle.agc_machine.specs.Told.{add, nothing, reply_told, alarm_told}
use Rattle.agc_phase.specs.Image.{base_of, IsLawfulBase}
use Rattle.agc_phase.specs.Image as phases
use Rattle.agc_phase.proofs.Reading.{IsLawfulBase-read}
use Rattle.agc_machine.specs.Image.{IsImage}
use Rattle.agc_machine.specs.Machines.{Machined, IsLawful, plain_of, places_of, stepped, served, refusal_of, starts_over}
use Rattle.agc_machine.specs.Stands.{IsReady, StandsFor, Steps, BeginsEra}
use Rattle.agc_machine.proofs.Stepping.{tidy_of, ready_by, lawful_by, stands_by, words_stand, places_began}

-- what the log and one more request reach is one step on
pub reached_more : (plan : Planned) (base : Base) (log : List Request) (asked : Request) → reached plan base (log ++ asked ∷ []) ≡ (step plan asked (reached plan base log)).plain
reached_more plan base log asked = fold_push (λ (plain : Plain) (r : Request). (step plan r plain).plain) (era plan base) log asked

-- the plain states of a run with core sets are those of the run without
placed_plain-from : (plan : Planned) (start : Placed) (log : List Request) → (fold (λ (p : Placed) (asked : Request). placed_step plan asked p) start log).plain ≡ fold (λ (plain : Plain) (asked : Request). (step plan asked plain).plain) start.plain log
placed_plain-from plan start [] = refl
placed_plain-from plan start (asked ∷ log) = placed_plain-from plan (placed_step plan asked start) log

pub placed_plain : (plan : Planned) (base : Base) (log : List Request) → (placed plan base log).plain ≡ reached plan base log
placed_plain plan base log = placed_plain-from plan (record { plain = era plan base; places = era_places plan base }) log

-- the core sets after the log and one more request
places_more : (plan : Planned) (base : Base) (log : List Request) (asked : Request) → (placed plan base (log ++ asked ∷ [])).places ≡ places_after plan asked (reached plan base log) (placed plan base log).places
places_more plan base log asked =
    ap (λ (p : Placed). p.places) (fold_push (λ (p : Placed) (r : Request). placed_step plan r p) (record { plain = era plan base; places = era_places plan base }) log asked)
    ∙ ap (λ (plain : Plain). places_after plan asked plain (placed plan base log).places) (placed_plain plan base log)

-- where an era begins, the state is an era's
era_began : (plan : Planned) (did : Stepped) → begins did.reply ≡ true → ended plan did ≡ era plan (ended plan did).base
era_began plan did yes_began = rw yes_began refl

-- what a reply tells is one served, at most one restart, and no more alarms than restarts
pub record Tells (t : Totals) : Type 0 where
  pub one : t.served ≡ 1
  pub few : t.restarts ≤ 1
  pub alarms : t.a1201 + t.a1202 + t.a1203 ≤ t.restarts

alarm_tells : (alarm : Alarm) → Tells (alarm_told alarm)
alarm_tells A1201 = record { one = refl; few = omega arith; alarms = omega arith }
alarm_tells A1202 = record { one = refl; few = omega arith; alarms = omega arith }
alarm_tells A1203 = record { one = refl; few = omega arith; alarms = omega arith }

pub tells : (reply : Reply) → Tells (reply_told reply)
tells (Alarmed alarm) = alarm_tells alarm
tells (Ticked (Some alarm)) = alarm_tells alarm
tells (Ticked None) = record { one = refl; few = omega arith; alarms = omega arith }
tells Restarted = record { one = refl; few = omega arith; alarms = omega arith }
tells reply = record { one = refl; few = omega arith; alarms = omega arith }

-- a request that is always served begins an era
over_begins : (plan : Planned) (asked : Request) (plain : Plain) → starts_over asked ≡ true → begins (step plan asked plain).reply ≡ true
over_begins plan Restart plain e = refl
over_begins plan Fresh plain e = refl
over_begins plan asked plain e = absurd (cc)

-- what is known where a request isn't refused
pub record IsServed (m : Machined) (asked : Request) : Type 0 where
  pub unspent : m.totals.served ≢ m.allowance
  pub unfilled : starts_over asked ≡ false → length m.log ≢ m.limit

pub served_if : (m : Machined) (asked : Request) → refusal_of m asked ≡ None → IsServed m asked
served_if m asked e = elim (cases_Bool (m.totals.served == m.allowance)) [
  | inl spent ↦ let is : Some Spent ≡ None = rw spent at e in absurd (cc)
  | inr left ↦ elim (cases_Bool ((length m.log == m.limit) && not (starts_over asked))) [
    | inl full ↦ let is : Some LogFull ≡ None = rw (left, full) at e in absurd (cc)
    | inr fits ↦ record {
      unspent = λ same. grind (arith, common_steps);
      unfilled = λ goes same. grind (arith, common_steps);
    }
  ]
]

-- no count overflows
pub counts_fit : (m : Machined) (asked : Request) → IsLawful m → refusal_of m asked ≡ None → (m.totals.served + 1 < 2 ^ 64) × (m.totals.a1201 + 1 < 2 ^ 64) × (m.totals.a1202 + 1 < 2 ^ 64) × (m.totals.a1203 + 1 < 2 ^ 64) × (m.totals.restarts + 1 < 2 ^ 64)
counts_fit m asked lawful e =
    let unspent : m.totals.served ≢ m.allowance = (served_if m asked e).unspent in
    let allowed : m.totals.served ≤ m.allowance = lawful.allowed in
    let fits : m.allowance < 2 ^ 64 = lawful.fits in
    let restarts : m.totals.restarts ≤ m.totals.served = lawful.restarts in
    let alarms : m.totals.a1201 + m.totals.a1202 + m.totals.a1203 ≤ m.totals.restarts = lawful.alarms in
    (omega arith, omega arith, omega arith, omega arith, omega arith)

-- there is room in the log for a request that begins no era
pub room_left : (m : Machined) (asked : Request) (plain : Plain) → length m.log ≤ m.limit → refusal_of m asked ≡ None → begins (step m.plan asked plain).reply ≡ false → length m.log < m.limit
room_left m asked plain short e goes = elim (cases_Bool (starts_over asked)) [
  | inl over ↦ let is : true ≡ false = sym (over_begins m.plan asked plain over) ∙ goes in absurd (cc)
  | inr goes_on ↦ let ne : length m.log ≢ m.limit = (served_if m asked e).unfilled goes_on in omega arith
]

abbrev served_by : Bool → Stepped → Request → Machined → Machined
served_by over now asked m = record {
  plan = m.plan;
  limit = m.limit;
  allowance = m.allowance;
  base = if over then now.plain.base else m.base;
  log = if over then [] else m.log ++ asked ∷ [];
  totals = add m.totals (reply_told now.reply);
}

kept_by : (over : Bool) (m : Machined) (asked : Request) (now : Stepped) → IsLawful m → m.totals.served ≢ m.allowance → IsLawfulBase now.plain.base → (over ≡ false → length m.log < m.limit) → (over ≡ true → now.plain ≡ era m.plan now.plain.base) → now.plain ≡ reached m.plan m.base (m.log ++ asked ∷ []) → IsLawful (served_by over now asked m) × (now.plain ≡ plain_of (served_by over now asked m))
kept_by true m asked now l unspent based short begun goes =
    let t : Tells (reply_told now.reply) = tells now.reply in
    let one : (reply_told now.reply).served ≡ 1 = t.one in
    let few : (reply_told now.reply).restarts ≤ 1 = t.few in
    let most : (reply_told now.reply).a1201 + (reply_told now.reply).a1202 + (reply_told now.reply).a1203 ≤ (reply_told now.reply).restarts = t.alarms in
    (record { base = based; least = l.least; short = omega arith; most = l.most; allowed = omega arith; fits = l.fits; restarts = omega arith; alarms = omega arith }, begun refl)
kept_by false m asked now l unspent based short begun goes =
    let t : Tells (reply_told now.reply) = tells now.reply in
    let one : (reply_told now.reply).served ≡ 1 = t.one in
    let few : (reply_told now.reply).restarts ≤ 1 = t.few in
    let most : (reply_told now.reply).a1201 + (reply_told now.reply).a1202 + (reply_told now.reply).a1203 ≤ (reply_told now.reply).restarts = t.alarms in
    let left : length m.log < m.limit = short refl in
    (record { base = l.base; least = l.least; short = rw length-append (omega arith); most = l.most; allowed = omega arith; fits = l.fits; restarts = omega arith; alarms = omega arith }, goes)

places_by : (over : Bool) (m : Machined) (asked : Request) (now : Stepped) (places : List ℕ) → (over ≡ true → places ≡ era_places m.plan now.plain.base) → places ≡ (placed m.plan m.base (m.log ++ asked ∷ [])).places → places ≡ places_of (served_by over now asked m)
places_by true m asked now places begun goes = begun refl
places_by false m asked now places begun goes = goes

same_served : (m : Machined) (asked : Request) (now : Stepped) (over : Bool) (base : Base) (log : List Request) (totals : Totals) → over ≡ begins now.reply → base ≡ (if over then now.plain.base else m.base) → log ≡ (if over then [] else m.log ++ asked ∷ []) → totals ≡ add m.totals (reply_told now.reply) → ◌≡◌ {A = Machined} (record { plan = m.plan; limit = m.limit; allowance = m.allowance; base = base; log = log; totals = totals }) (served now asked m)
same_served m asked now over base log totals over_is base_is log_is totals_is = rw (base_is, log_is, totals_is, over_is) refl

-- the words of a machine are sound, with no task due, and stand for what base and log reach
pub ready_of : (m : Machined) (words : List ℕ) → IsImage m words → IsReady words
ready_of m words image = ready_by words image.lawful image.tidy

pub stands_of : (m : Machined) (words : List ℕ) → IsImage m words → StandsFor words (plain_of m) (places_of m)
stands_of m words image = stands_by words (plain_of m) (places_of m) image.stands image.placed

-- and such words are a lawful machine's
image_of : (m : Machined) (words : List ℕ) → IsLawful m → sets_in words ≡ m.plan.sets → IsReady words → StandsFor words (plain_of m) (places_of m) → IsImage m words
image_of m words lawful sets ready stands = record {
  machine = lawful;
  sets = sets;
  lawful = lawful_by words ready;
  tidy = tidy_of words ready.sound;
  placed = sym stands.work.places_is;
  stands = words_stand words (plain_of m) (places_of m) stands;
}

-- what a machine keeps: its words are its image, and its log has just the limit's places
abbrev pub IsKept : Machined → List ℕ → ℕ → Type 0
IsKept m words room = IsImage m words × (room ≡ m.limit)

-- what is kept after a request that is served
pub kept_served : (m : Machined) (asked : Request) (words : List ℕ) (reply : Reply) (room : ℕ) → IsLawful m → room ≡ m.limit → refusal_of m asked ≡ None → sets_in words ≡ m.plan.sets → IsReady words → Steps words reply (stepped m asked) (places_after m.plan asked (plain_of m) (places_of m)) → IsKept (served (stepped m asked) asked m) words room
kept_served m asked words reply room lawful reserved e sets ready steps =
    let based : IsLawfulBase (stepped m asked).plain.base = subst IsLawfulBase (sym steps.state.base_is) (IsLawfulBase-read words ready.sound.phases) in
    let both = kept_by (begins (stepped m asked).reply) m asked (stepped m asked) lawful (served_if m asked e).unspent based
    (room_left m asked (plain_of m) lawful.short e)
    (era_began m.plan (acted m.plan asked (plain_of m)))
    (sym (reached_more m.plan m.base m.log asked)) in
    let seats = places_by (begins (stepped m asked).reply) m asked (stepped m asked) (places_after m.plan asked (plain_of m) (places_of m))
    (places_began m.plan asked (plain_of m) (places_of m))
    (sym (places_more m.plan m.base m.log asked)) in
    let stands : StandsFor words (plain_of (served (stepped m asked) asked m)) (places_of (served (stepped m asked) asked m)) = subst (λ (p : Plain). StandsFor words p (places_of (served (stepped m asked) asked m))) both.1 (subst (λ (l : List ℕ). StandsFor words (stepped m asked).plain l) seats steps.state) in
    (image_of (served (stepped m asked) asked m) words both.0 sets ready stands, reserved)

-- a request that begins no era has room in the log
pub store_room : (m : Machined) (asked : Request) (reply : Reply) (room : ℕ) → IsLawful m → room ≡ m.limit → refusal_of m asked ≡ None → reply ≡ (stepped m asked).reply → begins reply ≡ false → length m.log < room
store_room m asked reply room lawful reserved e reply_is goes =
    let off : begins (stepped m asked).reply ≡ false = ap begins (sym reply_is) ∙ goes in
    let left : length m.log < m.limit = room_left m asked (plain_of m) lawful.short e off in
    omega arith

-- what is kept, with what was stored
pub kept_stored : (m : Machined) (asked : Request) (words : List ℕ) (reply : Reply) (room : ℕ) (over : Bool) (base : Base) (log : List Request) (totals : Totals) → IsLawful m → room ≡ m.limit → refusal_of m asked ≡ None → sets_in words ≡ m.plan.sets → IsReady words → Steps words reply (stepped m asked) (places_after m.plan asked (plain_of m) (places_of m)) → over ≡ begins reply → base ≡ (if over then base_of words else m.base) → log ≡ (if over then [] else m.log ++ asked ∷ []) → totals ≡ add m.totals (reply_told reply) → IsKept (record { plan = m.plan; limit = m.limit; allowance = m.allowance; base = base; log = log; totals = totals }) words room × (◌≡◌ {A = Machined} (record { plan = m.plan; limit = m.limit; allowance = m.allowance; base = base; log = log; totals = totals }) (served (stepped m asked) asked m))
kept_stored m asked words reply room over base log totals lawful reserved e sets ready steps over_is base_is log_is totals_is =
    let reply_is : reply ≡ (stepped m asked).reply = steps.reply_is in
    let base_now : (stepped m asked).plain.base ≡ base_of words = steps.state.base_is in
    let here : ◌≡◌ {A = Machined} (record { plan = m.plan; limit = m.limit; allowance = m.allowance; base = base; log = log; totals = totals }) (served (stepped m asked) asked m) =
    same_served m asked (stepped m asked) over base log totals (over_is ∙ ap begins reply_is) (base_is ∙ ap (λ (b : Base). if over then b else m.base) (sym base_now)) log_is (totals_is ∙ ap (λ (r : Reply). add m.totals (reply_told r)) reply_is) in
    (subst (λ (x : Machined). IsKept x words room) (sym here) (kept_served m asked words reply room lawful reserved e sets ready steps), here)

-- what is kept where an era has just begun
pub kept_begun : (plan : Planned) (limit allowance : ℕ) (base : Base) (log : List Request) (totals : Totals) (start words : List ℕ) (room : ℕ) → 1 ≤ limit → limit ≤ 1000000 → room ≡ limit → allowance < 2 ^ 64 → log ≡ [] → totals ≡ nothing → phases.IsLawfulTable start → base ≡ base_of start → plan.sets ≡ sets_in start → BeginsEra plan start words → IsKept (record { plan = plan; limit = limit; allowance = allowance; base = base; log = log; totals = totals }) words room
kept_begun plan limit allowance base log totals start words room least most reserved fits empty zero_is lawful base_is sets begins_era =
    subst (λ (b : Base). IsKept (record { plan = plan; limit = limit; allowance = allowance; base = b; log = log; totals = totals }) words room) (sym base_is)
    (subst (λ (l : List Request). IsKept (record { plan = plan; limit = limit; allowance = allowance; base = base_of start; log = l; totals = totals }) words room) (sym empty)
    (subst (λ (t : Totals). IsKept (record { plan = plan; limit = limit; allowance = allowance; base = base_of start; log = []; totals = t }) words room) (sym zero_is)
    (let m : Machined = record { plan = plan; limit = limit; allowance = allowance; base = base_of start; log = []; totals = nothing } in
    (image_of m words (record { base = IsLawfulBase-read start lawful; least = least; short = omega arith; most = most; allowed = omega arith; fits = fits; restarts = omega arith; alarms = omega arith }) (ap (λ (n : ℕ). (n - 48) / 12) begins_era.same_length ∙ sym sets) begins_era.ready (record { work = begins_era.stands; base_is = sym begins_era.same_base }), reserved))))

-- the same machine, with another name of its number of core sets
pub view_with : (plan : Written) (limit allowance : ℕ) (base : Base) (log : List Request) (totals : Totals) {m n : ℕ} → m ≡ n → ◌≡◌ {A = Machined} (record { plan = planned_with plan m; limit = limit; allowance = allowance; base = base; log = log; totals = totals }) (record { plan = planned_with plan n; limit = limit; allowance = allowance; base = base; log = log; totals = totals })
view_with plan limit allowance base log totals e = ap (λ (n : ℕ). record { plan = planned_with plan n; limit = limit; allowance = allowance; base = base; log = log; totals = totals }) e
