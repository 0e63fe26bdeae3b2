-- How words are lawful, tidy and sound, and what they stand for; and how a step ends: an era begins
-- with the reply, or what was done stays.
use Rattle.std.proofs.Common.{◌≡◌, ℕ, Bool, true, false, if◌then◌else◌, List, length, refl, ap, sym, ◌∙◌, subst}
use Rattle.agc_plan.specs.declared.reply.Reply.{Reply}
use Rattle.agc_plan.specs.declared.request.Request.{Request}
use Rattle.agc_plan.specs.Steps.{begun}
use Rattle.agc_plan.specs.Base.{Base}
use Rattle.agc_plan.specs.Plans.{Written, Planned, planned_with}
use Rattle.agc_plan.specs.Seats.{places_acted, places_after, era_places}
use Rattle.agc_plan.specs.Steps.{Plain, Stepped, acted, step, begins, base_after, ended, era}
use Rattle.agc_phase.specs.Image.{base_of}
use Rattle.agc_word.specs.Layout.{sets_in}
use Rattle.agc_exec.specs.Image.{entries_in}
use Rattle.agc_wait.specs.Table.{waits_of}
use Rattle.agc_wait.proofs.Dues.{is_due-none}
use Rattle.agc_machine.specs.Image.{AreLawful, IsLawfulImage, IsTidyImage, WordsStandFor}
use Rattle.agc_machine.specs.Stands.{IsSound, IsReady, Stands, StandsFor, Steps, Acts, StepsTo, BeginsEra}
use Rattle.agc_machine.proofs.Beginning.{same_sets}
use Rattle.agc_machine.proofs.Frames.{none_counted}

-- lawful and tidy words are sound, and such words lawful and tidy
pub sound_of : (words : List ℕ) → AreLawful words → IsTidyImage words → IsSound words
sound_of words tables tidy = record {
  size = tables.size;
  cores = tables.cores;
  waits = tables.waits;
  phases = tables.phases;
  tidy_cores = tidy.cores;
  tidy_waits = tidy.waits;
}

pub tables_of : (words : List ℕ) → IsSound words → AreLawful words
tables_of words sound = record { size = sound.size; cores = sound.cores; waits = sound.waits; phases = sound.phases }

pub tidy_of : (words : List ℕ) → IsSound words → IsTidyImage words
tidy_of words sound = record { cores = sound.tidy_cores; waits = sound.tidy_waits }

-- and with no task due
pub ready_by : (words : List ℕ) → IsLawfulImage words → IsTidyImage words → IsReady words
ready_by words lawful tidy = record {
  sound = sound_of words lawful.tables tidy;
  none_due = none_counted words lawful.tables.waits lawful.none_due;
}

pub lawful_by : (words : List ℕ) → IsReady words → IsLawfulImage words
lawful_by words ready = record { tables = tables_of words ready.sound; none_due = is_due-none (waits_of words) ready.none_due }

-- what the words stand for, with the core sets or without
pub stands_by : (words : List ℕ) (plain : Plain) (places : List ℕ) → WordsStandFor words plain → entries_in words ≡ places → StandsFor words plain places
stands_by words plain places stands placed = record {
  work = record { jobs_is = sym stands.jobs; places_is = sym placed; agenda = stands.tasks };
  base_is = sym stands.base;
}

pub words_stand : (words : List ℕ) (plain : Plain) (places : List ℕ) → StandsFor words plain places → WordsStandFor words plain
words_stand words plain places stands = record { jobs = sym stands.work.jobs_is; tasks = stands.work.agenda; base = sym stands.base_is }

-- where an era begins, the core sets are an era's
pub places_began : (plan : Planned) (asked : Request) (plain : Plain) (places : List ℕ) → begins (step plan asked plain).reply ≡ true → places_after plan asked plain places ≡ era_places plan (step plan asked plain).plain.base
places_began plan asked plain places over = rw over refl

ended_over : (plan : Planned) (asked : Request) (plain : Plain) → begins (acted plan asked plain).reply ≡ true → (step plan asked plain).plain ≡ era plan (base_after (acted plan asked plain).reply (acted plan asked plain).plain.base)
ended_over plan asked plain over = rw over refl

ended_on : (plan : Planned) (asked : Request) (plain : Plain) → begins (acted plan asked plain).reply ≡ false → (step plan asked plain).plain ≡ (acted plan asked plain).plain
ended_on plan asked plain on = rw on refl

places_on : (plan : Planned) (asked : Request) (plain : Plain) (places : List ℕ) → begins (acted plan asked plain).reply ≡ false → places_after plan asked plain places ≡ places_acted plan asked plain places
places_on plan asked plain places on = rw on refl

-- an era begins with this reply
pub steps_over : (plan : Planned) (asked : Request) (plain : Plain) (places : List ℕ) (mid new : List ℕ) (reply : Reply) → Steps mid reply (acted plan asked plain) (places_acted plan asked plain places) → begins reply ≡ true → base_of new ≡ base_after reply (base_of mid) → Stands new (begun plan (base_of new).phases) (era_places plan (base_of new)) → Steps new reply (step plan asked plain) (places_after plan asked plain places)
steps_over plan asked plain places mid new reply did over base_is stands =
    let here : begins (acted plan asked plain).reply ≡ true = ap begins (sym did.reply_is) ∙ over in
    let base : base_after (acted plan asked plain).reply (acted plan asked plain).plain.base ≡ base_of new = ap (λ (r : Reply). base_after r (acted plan asked plain).plain.base) (sym did.reply_is) ∙ ap (base_after reply) did.state.base_is ∙ sym base_is in
    let plain_is : (step plan asked plain).plain ≡ era plan (base_of new) = ended_over plan asked plain here ∙ ap (era plan) base in
    let places_is : places_after plan asked plain places ≡ era_places plan (base_of new) = places_began plan asked plain places here ∙ ap (λ (p : Plain). era_places plan p.base) plain_is in
    record {
      state = subst (λ (p : Plain). StandsFor new p (places_after plan asked plain places)) (sym plain_is)
          (subst (λ (l : List ℕ). StandsFor new (era plan (base_of new)) l) (sym places_is) (record { work = stands; base_is = refl }));
      reply_is = did.reply_is;
    }

-- no era begins with this reply
pub steps_on : (plan : Planned) (asked : Request) (plain : Plain) (places : List ℕ) (words : List ℕ) (reply : Reply) → Steps words reply (acted plan asked plain) (places_acted plan asked plain places) → begins reply ≡ false → Steps words reply (step plan asked plain) (places_after plan asked plain places)
steps_on plan asked plain places words reply did on =
    let here : begins (acted plan asked plain).reply ≡ false = ap begins (sym did.reply_is) ∙ on in
    record {
      state = subst (λ (p : Plain). StandsFor words p (places_after plan asked plain places)) (sym (ended_on plan asked plain here))
          (subst (λ (l : List ℕ). StandsFor words (acted plan asked plain).plain l) (sym (places_on plan asked plain places here)) did.state);
      reply_is = did.reply_is;
    }

-- what a request did, over the words alone: for each plain state for which they stood
abbrev pub Tells : (Plain → Stepped) → (Plain → List ℕ → List ℕ) → List ℕ → Reply → List ℕ → Type 0
Tells did seats old reply new = (plain : Plain) → WordsStandFor old plain → WordsStandFor new (did plain).plain × (reply ≡ (did plain).reply) × (entries_in new ≡ seats plain (entries_in old))

pub told_by : (did : Plain → Stepped) (seats : Plain → List ℕ → List ℕ) (old new : List ℕ) (reply : Reply) → ((plain : Plain) (places : List ℕ) → StandsFor old plain places → Steps new reply (did plain) (seats plain places)) → Tells did seats old reply new
told_by did seats old new reply steps plain stands =
    let now : Steps new reply (did plain) (seats plain (entries_in old)) = steps plain (entries_in old) (stands_by old plain (entries_in old) stands refl) in
    (words_stand new (did plain).plain (seats plain (entries_in old)) now.state, now.reply_is, sym now.state.work.places_is)

pub steps_by : (did : Plain → Stepped) (seats : Plain → List ℕ → List ℕ) (old new : List ℕ) (reply : Reply) → Tells did seats old reply new → (plain : Plain) (places : List ℕ) → StandsFor old plain places → Steps new reply (did plain) (seats plain places)
steps_by did seats old new reply tells plain places stands =
    let (state, said, placed) = tells plain (words_stand old plain places stands) in
    record { state = stands_by new (did plain).plain (seats plain places) state (placed ∙ ap (seats plain) (sym stands.work.places_is)); reply_is = said }

-- what was done, and the whole step
pub acts_by : (plan : Planned) (asked : Request) (old new : List ℕ) (reply : Reply) → AreLawful new → IsTidyImage new → length new ≡ length old → Tells (acted plan asked) (places_acted plan asked) old reply new → Acts plan asked old reply new
acts_by plan asked old new reply tables tidy same tells = record {
  sound = sound_of new tables tidy;
  same_length = same;
  steps = steps_by (acted plan asked) (places_acted plan asked) old new reply tells;
}

pub stepped_by : (plan : Planned) (asked : Request) (old new : List ℕ) (reply : Reply) → IsLawfulImage new → IsTidyImage new → length new ≡ length old → Tells (step plan asked) (places_after plan asked) old reply new → StepsTo plan asked old reply new
stepped_by plan asked old new reply lawful tidy same tells = record {
  ready = ready_by new lawful tidy;
  same_length = same;
  steps = steps_by (step plan asked) (places_after plan asked) old new reply tells;
}

-- how a step ends, over the words alone
abbrev pub Ends : Planned → Reply → List ℕ → List ℕ → Type 0
Ends plan reply mid new = (plain : Plain) → WordsStandFor mid plain → WordsStandFor new (ended plan (record { plain = plain; reply = reply })) × (entries_in new ≡ (if begins reply then era_places plan (base_after reply plain.base) else entries_in mid))

pub ends_over : (plan : Planned) (reply : Reply) (mid new : List ℕ) → begins reply ≡ true → base_of new ≡ base_after reply (base_of mid) → Stands new (begun plan (base_of new).phases) (era_places plan (base_of new)) → Ends plan reply mid new
ends_over plan reply mid new over base_is began plain stands =
    let base : base_of new ≡ base_after reply plain.base = base_is ∙ ap (base_after reply) stands.base in
    rw over (subst (λ (b : Base). WordsStandFor new (era plan b) × (entries_in new ≡ era_places plan b)) base
    (words_stand new (era plan (base_of new)) (era_places plan (base_of new)) (record { work = began; base_is = refl }), sym began.places_is))

pub ends_on : (plan : Planned) (reply : Reply) (words : List ℕ) → begins reply ≡ false → Ends plan reply words words
ends_on plan reply words on plain stands = rw on (stands, refl)

places_end : (plan : Planned) (asked : Request) (plain : Plain) (places mid : List ℕ) (reply : Reply) → Steps mid reply (acted plan asked plain) (places_acted plan asked plain places) → (over : Bool) → begins reply ≡ over → (if over then era_places plan (base_after reply (acted plan asked plain).plain.base) else entries_in mid) ≡ places_after plan asked plain places
places_end plan asked plain places mid reply did true e =
    let here : begins (acted plan asked plain).reply ≡ true = ap begins (sym did.reply_is) ∙ e in
    ap (λ (r : Reply). era_places plan (base_after r (acted plan asked plain).plain.base)) did.reply_is
    ∙ ap (λ (p : Plain). era_places plan p.base) (sym (ended_over plan asked plain here))
    ∙ sym (places_began plan asked plain places here)
places_end plan asked plain places mid reply did false e =
    let here : begins (acted plan asked plain).reply ≡ false = ap begins (sym did.reply_is) ∙ e in
    sym did.state.work.places_is ∙ sym (places_on plan asked plain places here)

-- what was done, and the end, are the whole step
pub ended_by : (plan : Written) (asked : Request) (old mid new : List ℕ) (reply : Reply) → Acts (planned_with plan (sets_in old)) asked old reply mid → IsLawfulImage new → IsTidyImage new → length new ≡ length mid → Ends (planned_with plan (sets_in mid)) reply mid new → StepsTo (planned_with plan (sets_in old)) asked old reply new
ended_by plan asked old mid new reply acts lawful tidy same ends =
    let whole : Planned = planned_with plan (sets_in old) in
    let here : Ends whole reply mid new = subst (λ (n : ℕ). Ends (planned_with plan n) reply mid new) (same_sets old mid acts.same_length) ends in
    record {
      ready = ready_by new lawful tidy;
      same_length = same ∙ acts.same_length;
      steps = λ plain places stands.
          let did : Steps mid reply (acted whole asked plain) (places_acted whole asked plain places) = acts.steps plain places stands in
          let now = here (acted whole asked plain).plain (words_stand mid (acted whole asked plain).plain (places_acted whole asked plain places) did.state) in
          record {
            state = stands_by new (step whole asked plain).plain (places_after whole asked plain places)
                (subst (λ (r : Reply). WordsStandFor new (ended whole (record { plain = (acted whole asked plain).plain; reply = r }))) did.reply_is now.0)
                (now.1 ∙ places_end whole asked plain places mid reply did (begins reply) refl);
            reply_is = did.reply_is;
          };
    }

-- an era began, over the words alone
pub begins_by : (plan : Planned) (old new : List ℕ) → IsLawfulImage new → IsTidyImage new → length new ≡ length old → WordsStandFor new (era plan (base_of old)) → entries_in new ≡ era_places plan (base_of old) → BeginsEra plan old new
begins_by plan old new lawful tidy same stands placed =
    let now : StandsFor new (era plan (base_of old)) (era_places plan (base_of old)) = stands_by new (era plan (base_of old)) (era_places plan (base_of old)) stands placed in
    record { ready = ready_by new lawful tidy; same_length = same; same_base = sym now.base_is; stands = now.work }
