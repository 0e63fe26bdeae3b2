-- The statistics of a run, with one request more.
use Rattle.std.proofs.Common.{◌≡◌, ℕ, ◌+◌, ◌-◌, ◌^◌, max, min, Bool, true, false, cond, List, [], ◌∷◌, ◌++◌, length, map, filter, Option, Some, None, Result, Ok, Err, refl, sym, ap, subst, ◌∙◌, append_assoc, append-nil, arith}
use Rattle.std.specs.Prelude.{◌&&◌, not, reverse, is_some, IfOk}
use Rattle.std.specs.List.{count_by, find, flat_map, fold, sum_by, take_while}
use Rattle.std.specs.Option.{option_map_or, option_or}
use Rattle.std.specs.Result.{is_err, is_ok}
use Rattle.std.proofs.lemmas.Grind.{common_steps, flat_map-append}
use Rattle.std.proofs.lemmas.List.{length_push, map-append, reverse-append}
use Rattle.std.proofs.lemmas.List.Elements.{filter-append}
use Rattle.std.proofs.lemmas.List.Sums.{fold-append, fold_push, take_while-cons}
use Rattle.agc_plan.specs.declared.reply.Alarm.{Alarm}
use Rattle.agc_plan.specs.declared.reply.Reply.{Reply}
use Rattle.agc_plan.specs.declared.reply.Reply.TheVariants.{Alarmed, Ticked}
use Rattle.agc_plan.specs.declared.request.Request.{Request}
use Rattle.agc_plan.specs.Steps.{alarm_of, begins, is_tick}
use Rattle.agc_machine.specs.declared.answer.Refusal.{Refusal}
use Rattle.agc_machine.specs.Machines.{Machined, after, alarm_with, answer_of, begins_with, refusal_of, served, stepped}
use Rattle.agc_run.specs.Runs.{Pending, Pulls, asks_after, requests_in, to_ask}
use Rattle.agc_run.specs.Subjects.{IsOf, machine_of, own_requests, requests_of}
use Rattle.agc_session.specs.declared.source.PendingRequest.{PendingRequest}
use Rattle.agc_run.specs.declared.subject.Subject.{Subject}
use Rattle.agc_run.proofs.Following.{its_requests}
use Rattle.agc_run.specs.Events.{scene_now}
use Rattle.agc_stats.specs.Boundaries.{boundary_of}
use Rattle.agc_stats.specs.Eras.{IsEra, counted}
use Rattle.agc_stats.specs.Occupancies.{occupancy_of}
use Rattle.agc_stats.specs.Runs.{AreRunPeaks, AreStatistics, Entry, IsEraAfter, IsRunStatistics, alarm_in, answer_in, beginning, began_by, begins_era, boundary_in, entries, entry_of, first_alarm, is_served, most, occupancies, occupancy_after, occupancy_left, occupancy_now, passes, present, record_of, records, with_era}
use Rattle.agc_stats.specs.Steps.{IsAnswered, IsBegun, IsNoted, IsOneMore, with_alarm}
use Rattle.agc_stats.specs.declared.era.EraBoundary.TheVariants.{Start}
use Rattle.agc_stats.specs.declared.era.EraStatistics.{EraStatistics}
use Rattle.agc_stats.specs.declared.era.ServedRequest.{ServedRequest}
use Rattle.agc_stats.specs.declared.era.EndedEra.{EndedEra}
use Rattle.agc_stats.specs.declared.occupancy.Occupancy.{Occupancy}
use Rattle.agc_stats.specs.declared.run_statistics.FirstAlarm.{FirstAlarm}
use Rattle.agc_stats.specs.declared.run_statistics.RunPeaks.{RunPeaks}
use Rattle.agc_stats.specs.declared.run_statistics.RunStatistics.{RunStatistics}
use Rattle.agc_stats.proofs.Eras.{added, added_from, count_first, count_more, counted_more, more, pushed}
use Rattle.agc_stats.proofs.Occupancies.{went_on}

-- those that were served
served_by : (es : List Entry) (e : Entry) (b : Bool) → is_served e ≡ b → filter is_served (es ++ e ∷ []) ≡ filter is_served es ++ cond b (e ∷ []) []
served_by es e b q = filter-append is_served es (e ∷ []) ∙ ap (λ (x : Bool). filter is_served es ++ cond x (e ∷ []) []) q

served_same : (es : List Entry) (e : Entry) → is_served e ≡ false → filter is_served (es ++ e ∷ []) ≡ filter is_served es
served_same es e q = served_by es e false q ∙ append-nil (filter is_served es)

records_more : (es : List Entry) (e : Entry) → is_served e ≡ true → records (es ++ e ∷ []) ≡ records es ++ record_of e ∷ []
records_more es e q = ap (map record_of) (served_by es e true q) ∙ map-append record_of (filter is_served es) (e ∷ [])

-- the eras
reversed : (es : List Entry) (e : Entry) → reverse (es ++ e ∷ []) ≡ e ∷ reverse es
reversed es e = reverse-append es (e ∷ [])

beginning_by : (es : List Entry) (e : Entry) (b : Bool) → begins_era e ≡ b → beginning (es ++ e ∷ []) ≡ cond b (Some e) (beginning es)
beginning_by es e b q = ap (find begins_era) (reversed es e) ∙ ap (λ (x : Bool). cond x (Some e) (beginning es)) q

since_begun : List Entry → List Entry
since_begun es = take_while (λ (e : Entry). not (begins_era e)) es

present_by : (es : List Entry) (e : Entry) (b : Bool) → begins_era e ≡ b → present (es ++ e ∷ []) ≡ cond b [] (present es ++ e ∷ [])
unfolding since_begun
present_by es e b q =
    ap (λ (l : List Entry). reverse (since_begun l)) (reversed es e)
    ∙ ap reverse (take_while-cons (λ (x : Entry). not (begins_era x)) e (reverse es))
    ∙ go b q
  where
    go : (b : Bool) → begins_era e ≡ b → reverse (cond (not (begins_era e)) (e ∷ since_begun (reverse es)) []) ≡ cond b [] (present es ++ e ∷ [])
    go true q = rw q refl
    go false q = rw q (reverse-append (e ∷ []) (since_begun (reverse es)))

-- the first alarm
alarm_on : (time : ℕ) (o : Option Alarm) (x y z : Option FirstAlarm) → x ≡ option_or y z → option_map_or (λ (alarm : Alarm). Some (record { alarm = alarm; time = time })) o x ≡ option_or (option_map_or (λ (alarm : Alarm). Some (record { alarm = alarm; time = time })) o y) z
alarm_on time None x y z is = is
alarm_on time (Some alarm) x y z is = refl

first_more : (es : List Entry) (e : Entry) → first_alarm (es ++ e ∷ []) ≡ option_or (first_alarm es) (first_alarm (e ∷ []))
first_more [] e = refl
first_more (d ∷ es) e = alarm_on d.time (alarm_in d) (first_alarm (es ++ e ∷ [])) (first_alarm es) (first_alarm (e ∷ [])) (first_more es e)

or_none : (o : Option FirstAlarm) → option_or o None ≡ o
or_none None = refl
or_none (Some x) = refl

first_same : (es : List Entry) (e : Entry) → alarm_in e ≡ None → first_alarm (es ++ e ∷ []) ≡ first_alarm es
first_same es e q =
    first_more es e
    ∙ ap (λ (o : Option Alarm). option_or (first_alarm es) (option_map_or (λ (alarm : Alarm). Some (record { alarm = alarm; time = e.time })) o None)) q
    ∙ or_none (first_alarm es)

-- the greatest
most_two : {X : Type 0} (count : X → ℕ) (all : List X) (x y : X) → most count (all ++ x ∷ y ∷ []) ≡ max (max (most count all) (count x)) (count y)
most_two {X} count all x y = fold-append (λ (n : ℕ) (z : X). max n (count z)) 0 all (x ∷ y ∷ [])

most_one : {X : Type 0} (count : X → ℕ) (all : List X) (x : X) → most count (all ++ x ∷ []) ≡ max (most count all) (count x)
most_one {X} count all x = fold_push (λ (n : ℕ) (z : X). max n (count z)) 0 all x

tables_in : Entry → List Occupancy
tables_in e = occupancy_left e ∷ occupancy_after e ∷ []

occupancies_more : (start : Machined) (es : List Entry) (e : Entry) → is_served e ≡ true → occupancies start (es ++ e ∷ []) ≡ occupancies start es ++ occupancy_left e ∷ occupancy_after e ∷ []
unfolding tables_in
occupancies_more start es e q =
    ap (λ (l : List Entry). occupancy_now start ∷ flat_map tables_in l) (served_by es e true q)
    ∙ ap (λ (l : List Occupancy). occupancy_now start ∷ l) (flat_map-append tables_in (filter is_served es) (e ∷ []))

most_more : (start : Machined) (es : List Entry) (e : Entry) (table : Occupancy → ℕ) → is_served e ≡ true → most table (occupancies start (es ++ e ∷ [])) ≡ max (max (most table (occupancies start es)) (table (occupancy_left e))) (table (occupancy_after e))
most_more start es e table q = ap (most table) (occupancies_more start es e q) ∙ most_two table (occupancies start es) (occupancy_left e) (occupancy_after e)

most_same : (start : Machined) (es : List Entry) (e : Entry) (table : Occupancy → ℕ) → is_served e ≡ false → most table (occupancies start (es ++ e ∷ [])) ≡ most table (occupancies start es)
unfolding tables_in
most_same start es e table q = ap (λ (l : List Entry). most table (occupancy_now start ∷ flat_map tables_in l)) (served_same es e q)

-- counts that stay
same_sum : {X : Type 0} (f : X → ℕ) (all : List X) (x : X) → f x ≡ 0 → sum_by f (all ++ x ∷ []) ≡ sum_by f all
same_sum f all x q =
    let more : sum_by f (all ++ x ∷ []) ≡ sum_by f all + f x = pushed f all x in
    omega arith

and_false : (b : Bool) → (b && false) ≡ false
and_false true = refl
and_false false = refl

and_true : (b : Bool) → (b && true) ≡ b
and_true true = refl
and_true false = refl

twice_counted : (n k : ℕ) → n ≡ counted k → n ≡ counted (n + 0)
twice_counted n k is = grind (arith, common_steps)

requests_more : (es : List Entry) (e : Entry) (old new : ℕ) → new ≡ min (old + 1) (2 ^ 64 - 1) → old ≡ counted (length es) → new ≡ counted (length (es ++ e ∷ []))
requests_more es e old new is before = is ∙ more old _ before 1 ∙ counted_more (length es) 1 ∙ ap counted (sym (length_push es e))

-- the era goes on
era_on : (start : Machined) (es : List Entry) (e : Entry) (piece : List Entry) (era : EraStatistics) → begins_era e ≡ false → IsEraAfter start es piece era → IsEraAfter start (es ++ e ∷ []) piece era
era_on start es e piece era goes is =
    subst (λ (o : Option Entry). IsEra (option_map_or (λ (x : Entry). x.time) o 0) (option_map_or occupancy_after o (occupancy_now start)) (records piece) era) (sym (beginning_by es e false goes)) is

same_era : (start : Machined) (es : List Entry) (piece : List Entry) (old new : EraStatistics) → new ≡ old → IsEraAfter start es piece old → IsEraAfter start es piece new
same_era start es piece old new is old_is = subst (IsEraAfter start es piece) (sym is) old_is

piece_is : (start : Machined) (es piece those : List Entry) (era : EraStatistics) → records piece ≡ records those → IsEraAfter start es piece era → IsEraAfter start es those era
piece_is start es piece those era same is =
    subst (λ (rs : List ServedRequest). IsEra (option_map_or (λ (x : Entry). x.time) (beginning es) 0) (option_map_or occupancy_after (beginning es) (occupancy_now start)) rs era) same is

by_on : (es : List Entry) (e : Entry) → begins_era e ≡ false → began_by (es ++ e ∷ []) ≡ began_by es
by_on es e goes = ap (λ (o : Option Entry). option_map_or boundary_in o Start) (beginning_by es e false goes)

by_begun : (es : List Entry) (e : Entry) → begins_era e ≡ true → began_by (es ++ e ∷ []) ≡ boundary_in e
by_begun es e begun = ap (λ (o : Option Entry). option_map_or boundary_in o Start) (beginning_by es e true begun)

-- a request that was refused
pub refused_more : (start : Machined) (es : List Entry) (m : Machined) (asked : Request) (now : Machined) (refusal : Refusal) (left : Occupancy) (old new : RunStatistics)
    → AreStatistics start es old → old.occupancy ≡ occupancy_now m → IsAnswered m asked now (Err refusal) left
    → new.time ≡ old.time → new.requests ≡ min (old.requests + 1) (2 ^ 64 - 1) → new.refused ≡ min (old.refused + 1) (2 ^ 64 - 1) → new.longest ≡ old.longest → new.number ≡ old.number → new.by ≡ old.by → new.era ≡ old.era → new.peaks ≡ old.peaks → new.occupancy ≡ old.occupancy
    → IsOneMore start es (entry_of m old.time asked) new None
refused_more start es m asked now refusal left old new are full is time requests refusals longest number by era peaks occupancy =
    let e : Entry = entry_of m old.time asked in
    let answer : answer_of m asked ≡ Err refusal = sym is.answer_is in
    let not_served : is_served e ≡ false = ap is_ok answer in
    let goes : begins_era e ≡ false = ap begins_with answer in
    let quiet : alarm_in e ≡ None = ap alarm_with answer in
    let passed : passes m asked ≡ false = ap (λ (b : Bool). is_tick asked && b) not_served ∙ and_false (is_tick asked) in
    let is_time : old.time ≡ e.time = twice_counted old.time _ are.time_is ∙ ap (λ (b : Bool). counted (old.time + cond b 1 0)) (sym passed) in
    let all : RunPeaks = with_era old.era old.peaks in
    let same_peaks : with_era new.era new.peaks ≡ all = ap (λ (x : EraStatistics). with_era x new.peaks) era ∙ ap (with_era old.era) peaks in
    let before : AreRunPeaks start es all = are.peaks_are in
    record {
      statistics = record {
        time_is = time ∙ are.time_is ∙ ap counted (sym (same_sum (λ (x : Entry). cond (passes x.machine x.request) 1 0) es e (ap (λ (b : Bool). cond b 1 0) passed)));
        requests_is = requests_more es e old.requests new.requests requests are.requests_is;
        refused_is = added (λ (x : Entry). cond (is_err (answer_in x)) 1 0) es e old.refused 1 new.refused refusals (ap (λ (b : Bool). cond b 1 0) (sym (ap is_err answer))) are.refused_is;
        longest_is = longest ∙ are.longest_is ∙ ap (most (λ (x : Entry). length (after x.machine x.request).log)) (sym (served_same es e not_served));
        number_is = number ∙ are.number_is ∙ ap (λ (n : ℕ). counted (1 + n)) (sym (same_sum (λ (x : Entry). cond (begins_era x) 1 0) es e (ap (λ (b : Bool). cond b 1 0) goes)));
        by_is = by ∙ are.by_is ∙ sym (by_on es e goes);
        era_is = era_on start es e (present (es ++ e ∷ [])) new.era goes
            (piece_is start es (present es) (present (es ++ e ∷ [])) new.era (sym (ap records (present_by es e false goes) ∙ ap (map record_of) (served_same (present es) e not_served)))
            (same_era start es (present es) old.era new.era era are.era_is));
        peaks_are = subst (AreRunPeaks start (es ++ e ∷ [])) (sym same_peaks) (record {
          first_is = before.first_is ∙ sym (first_same es e quiet);
          alarms_is = before.alarms_is ∙ ap counted (sym (same_sum (λ (x : Entry). cond (is_some (alarm_in x)) 1 0) es e (ap (λ (o : Option Alarm). cond (is_some o) 1 0) quiet)));
          sets_is = before.sets_is ∙ sym (most_same start es e (λ (o : Occupancy). o.sets) not_served);
          areas_is = before.areas_is ∙ sym (most_same start es e (λ (o : Occupancy). o.areas) not_served);
          tasks_is = before.tasks_is ∙ sym (most_same start es e (λ (o : Occupancy). o.tasks) not_served);
        });
      };
      time = time ∙ is_time;
      occupancy = occupancy ∙ full ∙ ap occupancy_of (sym (stayed m asked refusal answer));
      ended = tt;
    }
  where
    by_refusal : (m : Machined) (asked : Request) (o : Option Refusal) (refusal : Refusal) → option_map_or Err o (Ok (stepped m asked).reply) ≡ Err refusal → scene_now (option_map_or (λ (r : Refusal). m) o (served (stepped m asked) asked m)) ≡ scene_now m
    by_refusal m asked None refusal e = absurd (cc)
    by_refusal m asked (Some r) refusal e = refl

    stayed : (m : Machined) (asked : Request) (refusal : Refusal) → answer_of m asked ≡ Err refusal → scene_now (after m asked) ≡ scene_now m
    stayed m asked refusal e = by_refusal m asked (refusal_of m asked) refusal e

-- the statistics with a request that was served, before an era begins with it
record IsServedOnce (start : Machined) (es : List Entry) (e : Entry) (new : RunStatistics) : Type 0 where
  time_now : new.time ≡ e.time
  time_is : new.time ≡ counted (count_by (λ x. passes x.machine x.request) (es ++ e ∷ []))
  requests_is : new.requests ≡ counted (length (es ++ e ∷ []))
  refused_is : new.refused ≡ counted (count_by (λ x. is_err (answer_in x)) (es ++ e ∷ []))
  longest_is : new.longest ≡ most (λ x. length (after x.machine x.request).log) (filter is_served (es ++ e ∷ []))
  number_is : new.number ≡ counted (1 + count_by begins_era es)
  by_is : new.by ≡ began_by es
  era_is : IsEraAfter start es (present es ++ e ∷ []) new.era
  first_is : new.peaks.first_alarm ≡ first_alarm es
  alarms_is : new.peaks.alarms ≡ counted (count_by (λ x. is_some (alarm_in x)) es)
  sets_is : max new.peaks.sets new.era.sets.count ≡ max (most (λ o. o.sets) (occupancies start es)) (occupancy_left e).sets
  areas_is : max new.peaks.areas new.era.areas.count ≡ max (most (λ o. o.areas) (occupancies start es)) (occupancy_left e).areas
  tasks_is : max new.peaks.tasks new.era.tasks.count ≡ max (most (λ o. o.tasks) (occupancies start es)) (occupancy_left e).tasks
  occupancy_is : new.occupancy ≡ occupancy_left e
  was_served : is_served e ≡ true

-- the greatest, with one request more
greater : (p q c d a all : ℕ) → q ≡ p → d ≡ max c a → max p c ≡ all → max q d ≡ max all a
greater p q c d a all same more is = grind (arith, common_steps)

goes_greater : (x all a b : ℕ) → b ≡ a → x ≡ max all a → x ≡ max (max all a) b
goes_greater x all a b same is = grind (arith, common_steps)

begins_greater : (p q c d all a b : ℕ) → q ≡ max p c → d ≡ b → max p c ≡ max all a → max q d ≡ max (max all a) b
begins_greater p q c d all a b same first is = grind (arith, common_steps)

-- the request is counted, before it is noted
pub record IsCounted (old mid : RunStatistics) : Type 0 where
  pub time_is : mid.time ≡ old.time
  pub requests_is : mid.requests ≡ min (old.requests + 1) (2 ^ 64 - 1)
  pub refused_is : mid.refused ≡ old.refused
  pub longest_is : mid.longest ≡ old.longest
  pub occupancy_is : mid.occupancy ≡ old.occupancy
  pub number_is : mid.number ≡ old.number
  pub by_is : mid.by ≡ old.by
  pub era_is : mid.era ≡ old.era
  pub peaks_is : mid.peaks ≡ old.peaks

served_once : (start : Machined) (es : List Entry) (m : Machined) (asked : Request) (now : Machined) (reply : Reply) (left : Occupancy) (logged : ℕ) (old mid new : RunStatistics)
    → AreStatistics start es old → old.occupancy ≡ occupancy_now m → IsAnswered m asked now (Ok reply) left → logged ≡ length now.log
    → IsCounted old mid → IsNoted asked left logged mid new → IsServedOnce start es (entry_of m old.time asked) new
served_once start es m asked now reply left logged old mid new are full is log once note =
    let e : Entry = entry_of m old.time asked in
    let answer : answer_of m asked ≡ Ok reply = sym is.answer_is in
    let was_served : is_served e ≡ true = ap is_ok answer in
    let not_refused : is_err (answer_in e) ≡ false = ap is_err answer in
    let passed : passes m asked ≡ is_tick asked = ap (λ (b : Bool). is_tick asked && b) was_served ∙ and_true (is_tick asked) in
    let time : new.time ≡ counted (old.time + cond (is_tick asked) 1 0) = note.time_is ∙ ap (λ (n : ℕ). counted (n + cond (is_tick asked) 1 0)) once.time_is in
    let time_now : new.time ≡ e.time = time ∙ ap (λ (b : Bool). counted (old.time + cond b 1 0)) (sym passed) in
    let peaks : new.peaks ≡ old.peaks = note.peaks_is ∙ once.peaks_is in
    let logs : logged ≡ length (after m asked).log = log ∙ ap (λ (x : Machined). length x.log) is.now_is in
    let its : record { request = asked; time = new.time; before = mid.occupancy; left = left } ≡ record_of e =
    ap (λ (t : ℕ). record { request = asked; time = t; before = mid.occupancy; left = left }) time_now
    ∙ ap (λ (o : Occupancy). record { request = asked; time = e.time; before = o; left = left }) (once.occupancy_is ∙ full)
    ∙ ap (λ (o : Occupancy). record { request = asked; time = e.time; before = occupancy_now m; left = o }) is.left_is in
    let before : IsEraAfter start es (present es) mid.era = same_era start es (present es) old.era mid.era once.era_is are.era_is in
    let began : ℕ = option_map_or (λ (x : Entry). x.time) (beginning es) 0 in
    let first : Occupancy = option_map_or occupancy_after (beginning es) (occupancy_now start) in
    let era : IsEra began first (records (present es) ++ record_of e ∷ []) new.era =
    subst (λ (r : ServedRequest). IsEra began first (records (present es) ++ r ∷ []) new.era) its (note.era_is began first (records (present es)) before) in
    let all : AreRunPeaks start es (with_era old.era old.peaks) = are.peaks_are in
    record {
      time_now = time_now;
      time_is = added (λ (x : Entry). cond (passes x.machine x.request) 1 0) es e old.time (cond (is_tick asked) 1 0) new.time time (ap (λ (b : Bool). cond b 1 0) (sym passed)) are.time_is;
      requests_is = requests_more es e old.requests new.requests (note.requests_is ∙ once.requests_is) are.requests_is;
      refused_is = note.refused_is ∙ once.refused_is ∙ are.refused_is ∙ ap counted (sym (same_sum (λ (x : Entry). cond (is_err (answer_in x)) 1 0) es e (ap (λ (b : Bool). cond b 1 0) not_refused)));
      longest_is = note.longest_is
          ∙ ap (λ (n : ℕ). max n logged) (once.longest_is ∙ are.longest_is)
          ∙ ap (max (most (λ (x : Entry). length (after x.machine x.request).log) (filter is_served es))) logs
          ∙ sym (most_one (λ (x : Entry). length (after x.machine x.request).log) (filter is_served es) e)
          ∙ ap (most (λ (x : Entry). length (after x.machine x.request).log)) (sym (served_by es e true was_served));
      number_is = note.number_is ∙ once.number_is ∙ are.number_is;
      by_is = note.by_is ∙ once.by_is ∙ are.by_is;
      era_is = subst (λ (rs : List ServedRequest). IsEra began first rs new.era) (sym (records_more (present es) e was_served)) era;
      first_is = ap (λ (p : RunPeaks). p.first_alarm) peaks ∙ all.first_is;
      alarms_is = ap (λ (p : RunPeaks). p.alarms) peaks ∙ all.alarms_is;
      sets_is = greater old.peaks.sets new.peaks.sets old.era.sets.count new.era.sets.count (occupancy_left e).sets _ (ap (λ (p : RunPeaks). p.sets) peaks) (count_more (λ (o : Occupancy). o.sets) began first (records (present es)) (record_of e) old.era.sets new.era.sets are.era_is.sets_is era.sets_is) all.sets_is;
      areas_is = greater old.peaks.areas new.peaks.areas old.era.areas.count new.era.areas.count (occupancy_left e).areas _ (ap (λ (p : RunPeaks). p.areas) peaks) (count_more (λ (o : Occupancy). o.areas) began first (records (present es)) (record_of e) old.era.areas new.era.areas are.era_is.areas_is era.areas_is) all.areas_is;
      tasks_is = greater old.peaks.tasks new.peaks.tasks old.era.tasks.count new.era.tasks.count (occupancy_left e).tasks _ (ap (λ (p : RunPeaks). p.tasks) peaks) (count_more (λ (o : Occupancy). o.tasks) began first (records (present es)) (record_of e) old.era.tasks new.era.tasks are.era_is.tasks_is era.tasks_is) all.tasks_is;
      occupancy_is = note.occupancy_is ∙ is.left_is;
      was_served = was_served;
    }

-- no era begins with it
no_alarm : (reply : Reply) → begins reply ≡ false → alarm_of reply ≡ None
no_alarm (Alarmed alarm) goes = absurd (let no : true ≡ false = goes in cc)
no_alarm (Ticked None) goes = refl
no_alarm (Ticked (Some alarm)) goes = absurd (let no : true ≡ false = goes in cc)
no_alarm reply goes = refl

pub served_more : (start : Machined) (es : List Entry) (m : Machined) (asked : Request) (now : Machined) (reply : Reply) (left : Occupancy) (logged : ℕ) (old mid new : RunStatistics)
    → AreStatistics start es old → old.occupancy ≡ occupancy_now m → IsAnswered m asked now (Ok reply) left → logged ≡ length now.log
    → IsCounted old mid → IsNoted asked left logged mid new → begins reply ≡ false
    → IsOneMore start es (entry_of m old.time asked) new None
served_more start es m asked now reply left logged old mid new are full is log once note goes_on =
    let e : Entry = entry_of m old.time asked in
    let did : IsServedOnce start es e new = served_once start es m asked now reply left logged old mid new are full is log once note in
    let answer : answer_of m asked ≡ Ok reply = sym is.answer_is in
    let goes : begins_era e ≡ false = ap begins_with answer ∙ goes_on in
    let quiet : alarm_in e ≡ None = ap alarm_with answer ∙ no_alarm reply goes_on in
    let same : occupancy_after e ≡ occupancy_left e = ap occupancy_of (went_on m asked goes) in
    record {
      statistics = record {
        time_is = did.time_is;
        requests_is = did.requests_is;
        refused_is = did.refused_is;
        longest_is = did.longest_is;
        number_is = did.number_is ∙ ap (λ (n : ℕ). counted (1 + n)) (sym (same_sum (λ (x : Entry). cond (begins_era x) 1 0) es e (ap (λ (b : Bool). cond b 1 0) goes)));
        by_is = did.by_is ∙ sym (by_on es e goes);
        era_is = era_on start es e (present (es ++ e ∷ [])) new.era goes
            (piece_is start es (present es ++ e ∷ []) (present (es ++ e ∷ [])) new.era (sym (ap records (present_by es e false goes))) did.era_is);
        peaks_are = record {
          first_is = did.first_is ∙ sym (first_same es e quiet);
          alarms_is = did.alarms_is ∙ ap counted (sym (same_sum (λ (x : Entry). cond (is_some (alarm_in x)) 1 0) es e (ap (λ (o : Option Alarm). cond (is_some o) 1 0) quiet)));
          sets_is = goes_greater _ _ (occupancy_left e).sets (occupancy_after e).sets (ap (λ (o : Occupancy). o.sets) same) did.sets_is ∙ sym (most_more start es e (λ (o : Occupancy). o.sets) did.was_served);
          areas_is = goes_greater _ _ (occupancy_left e).areas (occupancy_after e).areas (ap (λ (o : Occupancy). o.areas) same) did.areas_is ∙ sym (most_more start es e (λ (o : Occupancy). o.areas) did.was_served);
          tasks_is = goes_greater _ _ (occupancy_left e).tasks (occupancy_after e).tasks (ap (λ (o : Occupancy). o.tasks) same) did.tasks_is ∙ sym (most_more start es e (λ (o : Occupancy). o.tasks) did.was_served);
        };
      };
      time = did.time_now;
      occupancy = did.occupancy_is ∙ sym same;
      ended = tt;
    }

-- an era begins with it
alarm_first : (o : Option Alarm) (time : ℕ) (peaks : RunPeaks) → (with_alarm o time peaks).first_alarm ≡ option_or peaks.first_alarm (option_map_or (λ (alarm : Alarm). Some (record { alarm = alarm; time = time })) o None)
alarm_first None time peaks = sym (or_none peaks.first_alarm)
alarm_first (Some alarm) time peaks = refl

alarm_counted : (o : Option Alarm) (time : ℕ) (peaks : RunPeaks) (k : ℕ) → peaks.alarms ≡ counted k → (with_alarm o time peaks).alarms ≡ min (peaks.alarms + cond (is_some o) 1 0) (2 ^ 64 - 1)
alarm_counted None time peaks k is = twice_counted peaks.alarms k is
alarm_counted (Some alarm) time peaks k is = refl

alarm_sets : (o : Option Alarm) (time : ℕ) (peaks : RunPeaks) → (with_alarm o time peaks).sets ≡ peaks.sets
alarm_sets None time peaks = refl
alarm_sets (Some alarm) time peaks = refl

alarm_areas : (o : Option Alarm) (time : ℕ) (peaks : RunPeaks) → (with_alarm o time peaks).areas ≡ peaks.areas
alarm_areas None time peaks = refl
alarm_areas (Some alarm) time peaks = refl

alarm_tasks : (o : Option Alarm) (time : ℕ) (peaks : RunPeaks) → (with_alarm o time peaks).tasks ≡ peaks.tasks
alarm_tasks None time peaks = refl
alarm_tasks (Some alarm) time peaks = refl

pub begun_more : (start : Machined) (es : List Entry) (m : Machined) (asked : Request) (now : Machined) (reply : Reply) (left : Occupancy) (logged : ℕ) (old mid noted new : RunStatistics) (alarm : Option Alarm) (row : EndedEra)
    → AreStatistics start es old → old.occupancy ≡ occupancy_now m → IsAnswered m asked now (Ok reply) left → logged ≡ length now.log
    → IsCounted old mid → IsNoted asked left logged mid noted → begins reply ≡ true → alarm ≡ alarm_of reply → IsBegun asked alarm (occupancy_now now) noted new row
    → IsOneMore start es (entry_of m old.time asked) new (Some row)
begun_more start es m asked now reply left logged old mid noted new alarm row are full is log once note begun its_alarm did =
    let e : Entry = entry_of m old.time asked in
    let was : IsServedOnce start es e noted = served_once start es m asked now reply left logged old mid noted are full is log once note in
    let answer : answer_of m asked ≡ Ok reply = sym is.answer_is in
    let begins_now : begins_era e ≡ true = ap begins_with answer ∙ begun in
    let alarm_is : alarm_in e ≡ alarm = ap alarm_with answer ∙ sym its_alarm in
    let now_full : occupancy_now now ≡ occupancy_after e = ap occupancy_now is.now_is in
    let first_alarms : new.peaks.first_alarm ≡ first_alarm (es ++ e ∷ []) =
    ap (λ (p : RunPeaks). p.first_alarm) did.peaks_is
    ∙ alarm_first alarm noted.time noted.peaks
    ∙ ap (λ (o : Option FirstAlarm). option_or o (option_map_or (λ (a : Alarm). Some (record { alarm = a; time = noted.time })) alarm None)) was.first_is
    ∙ ap (λ (t : ℕ). option_or (first_alarm es) (option_map_or (λ (a : Alarm). Some (record { alarm = a; time = t })) alarm None)) was.time_now
    ∙ ap (λ (o : Option Alarm). option_or (first_alarm es) (option_map_or (λ (a : Alarm). Some (record { alarm = a; time = e.time })) o None)) (sym alarm_is)
    ∙ sym (first_more es e) in
    let alarms : new.peaks.alarms ≡ min (noted.peaks.alarms + cond (is_some alarm) 1 0) (2 ^ 64 - 1) =
    ap (λ (p : RunPeaks). p.alarms) did.peaks_is ∙ alarm_counted alarm noted.time noted.peaks _ was.alarms_is in
    let era : IsEra e.time (occupancy_after e) [] new.era =
    subst (λ (o : Occupancy). IsEra e.time o [] new.era) now_full (subst (λ (t : ℕ). IsEra t (occupancy_now now) [] new.era) was.time_now did.era_is) in
    let its : IsEraAfter start (es ++ e ∷ []) [] new.era =
    subst (λ (o : Option Entry). IsEra (option_map_or (λ (x : Entry). x.time) o 0) (option_map_or occupancy_after o (occupancy_now start)) [] new.era) (sym (beginning_by es e true begins_now)) era in
    record {
      statistics = record {
        time_is = did.time_is ∙ was.time_is;
        requests_is = did.requests_is ∙ was.requests_is;
        refused_is = did.refused_is ∙ was.refused_is;
        longest_is = did.longest_is ∙ was.longest_is;
        number_is = added_from (λ (x : Entry). cond (begins_era x) 1 0) 1 es e noted.number 1 new.number did.number_is (ap (λ (b : Bool). cond b 1 0) (sym begins_now)) was.number_is;
        by_is = did.by_is ∙ ap (boundary_of asked) (sym alarm_is) ∙ sym (by_begun es e begins_now);
        era_is = piece_is start (es ++ e ∷ []) [] (present (es ++ e ∷ [])) new.era (sym (ap records (present_by es e true begins_now))) its;
        peaks_are = record {
          first_is = first_alarms;
          alarms_is = added (λ (x : Entry). cond (is_some (alarm_in x)) 1 0) es e noted.peaks.alarms (cond (is_some alarm) 1 0) new.peaks.alarms alarms (ap (λ (o : Option Alarm). cond (is_some o) 1 0) (sym alarm_is)) was.alarms_is;
          sets_is = begins_greater noted.peaks.sets new.peaks.sets noted.era.sets.count new.era.sets.count _ (occupancy_left e).sets (occupancy_after e).sets (ap (λ (p : RunPeaks). p.sets) did.peaks_is ∙ ap (λ (n : ℕ). max n noted.era.sets.count) (alarm_sets alarm noted.time noted.peaks)) (count_first (λ (o : Occupancy). o.sets) e.time (occupancy_after e) new.era.sets era.sets_is) was.sets_is ∙ sym (most_more start es e (λ (o : Occupancy). o.sets) was.was_served);
          areas_is = begins_greater noted.peaks.areas new.peaks.areas noted.era.areas.count new.era.areas.count _ (occupancy_left e).areas (occupancy_after e).areas (ap (λ (p : RunPeaks). p.areas) did.peaks_is ∙ ap (λ (n : ℕ). max n noted.era.areas.count) (alarm_areas alarm noted.time noted.peaks)) (count_first (λ (o : Occupancy). o.areas) e.time (occupancy_after e) new.era.areas era.areas_is) was.areas_is ∙ sym (most_more start es e (λ (o : Occupancy). o.areas) was.was_served);
          tasks_is = begins_greater noted.peaks.tasks new.peaks.tasks noted.era.tasks.count new.era.tasks.count _ (occupancy_left e).tasks (occupancy_after e).tasks (ap (λ (p : RunPeaks). p.tasks) did.peaks_is ∙ ap (λ (n : ℕ). max n noted.era.tasks.count) (alarm_tasks alarm noted.time noted.peaks)) (count_first (λ (o : Occupancy). o.tasks) e.time (occupancy_after e) new.era.tasks era.tasks_is) was.tasks_is ∙ sym (most_more start es e (λ (o : Occupancy). o.tasks) was.was_served);
        };
      };
      time = did.time_is ∙ was.time_now;
      occupancy = did.occupancy_is ∙ now_full;
      ended = record {
        number_is = did.ended_number ∙ was.number_is;
        by_is = did.ended_by ∙ was.by_is;
        ended_is = did.ended_time ∙ was.time_now;
        end_is = did.ended_end ∙ ap (boundary_of asked) (sym alarm_is);
        era_is = same_era start es (present es ++ e ∷ []) noted.era row.statistics did.ended_era was.era_is;
      };
    }

-- the start
pub none_yet : (start : Machined) (new : RunStatistics) → new.time ≡ 0 → new.requests ≡ 0 → new.refused ≡ 0 → new.longest ≡ 0 → new.number ≡ 1 → new.by ≡ Start → new.peaks ≡ record { first_alarm = None; alarms = 0; sets = 0; areas = 0; tasks = 0 } → IsEra 0 (occupancy_now start) [] new.era → AreStatistics start [] new
none_yet start new time requests refusals longest number by peaks era =
    record {
      time_is = time;
      requests_is = requests;
      refused_is = refusals;
      longest_is = longest;
      number_is = number;
      by_is = by;
      era_is = era;
      peaks_are = record {
        first_is = ap (λ (p : RunPeaks). p.first_alarm) peaks;
        alarms_is = ap (λ (p : RunPeaks). p.alarms) peaks;
        sets_is = ap (λ (p : RunPeaks). max p.sets new.era.sets.count) peaks ∙ ap (max 0) (count_first (λ (o : Occupancy). o.sets) 0 (occupancy_now start) new.era.sets era.sets_is);
        areas_is = ap (λ (p : RunPeaks). max p.areas new.era.areas.count) peaks ∙ ap (max 0) (count_first (λ (o : Occupancy). o.areas) 0 (occupancy_now start) new.era.areas era.areas_is);
        tasks_is = ap (λ (p : RunPeaks). max p.tasks new.era.tasks.count) peaks ∙ ap (max 0) (count_first (λ (o : Occupancy). o.tasks) 0 (occupancy_now start) new.era.tasks era.tasks_is);
      };
    }

-- the entries, with the first of the requests that are still to come
pub made_more : (es : List Entry) (m : Machined) (time : ℕ) (old mid new : Pending) (call : PendingRequest) (now : Machined) (later : ℕ) (all : List Entry) → Pulls m old (Some call) mid → now ≡ after m call.request → new ≡ asks_after m mid call → later ≡ (entry_of m time call.request).time → es ++ entries m time (to_ask m old) ≡ all → (es ++ entry_of m time call.request ∷ []) ++ entries now later (to_ask now new) ≡ all
made_more es m time old mid new call now later all pulls now_is new_is later_is before =
    let e : Entry = entry_of m time call.request in
    append_assoc es (e ∷ []) (entries now later (to_ask now new))
    ∙ ap (λ (x : Machined). es ++ e ∷ entries x later (to_ask x new)) now_is
    ∙ ap (λ (p : Pending). es ++ e ∷ entries (after m call.request) later (to_ask (after m call.request) p)) new_is
    ∙ ap (λ (t : ℕ). es ++ e ∷ entries (after m call.request) t (to_ask (after m call.request) (asks_after m mid call))) later_is
    ∙ ap (λ (l : List PendingRequest). es ++ entries m time (requests_in l)) (sym pulls)
    ∙ before

pub all_made : (es : List Entry) (m : Machined) (time : ℕ) (old mid : Pending) (all : List Entry) → Pulls m old None mid → es ++ entries m time (to_ask m old) ≡ all → es ≡ all
all_made es m time old mid all pulls before =
    sym (append-nil es) ∙ ap (λ (l : List PendingRequest). es ++ entries m time (requests_in l)) (sym pulls) ∙ before

pub asked_once : (m : Machined) (old mid new : Pending) (call : PendingRequest) (now : Machined) → Pulls m old (Some call) mid → now ≡ after m call.request → new ≡ asks_after m mid call → fold after now (to_ask now new) ≡ fold after m (to_ask m old)
asked_once m old mid new call now pulls now_is new_is =
    ap (λ (x : Machined). fold after x (to_ask x new)) now_is
    ∙ ap (λ (p : Pending). fold after (after m call.request) (to_ask (after m call.request) p)) new_is
    ∙ ap (λ (l : List PendingRequest). fold after m (requests_in l)) (sym pulls)

-- a run of which it is known what is asked
pub of_all : (m n : Machined) (pending : Pending) (all : Machined → List Request) (s : RunStatistics) → m ≡ n → ((k : Machined) → to_ask k pending ≡ all k) → IsRunStatistics m (to_ask m pending) s → IsRunStatistics n (all n) s
of_all m n pending all s same those are =
    subst (λ (rs : List Request). AreStatistics n (entries n 0 rs) s) (those n)
    (subst (λ (x : Machined). AreStatistics x (entries x 0 (to_ask x pending)) s) same are)

pub of_subject : {E : Type 0} (subject : Subject) (result : Result RunStatistics E) (m : Machined) (pending : Pending) → m ≡ machine_of subject → IsOf subject pending → IfOk result (λ s. IsRunStatistics m (to_ask m pending) s) → IfOk result (λ s. IsRunStatistics (machine_of subject) (own_requests subject) s)
of_subject subject (Ok s) m pending same all are = of_all m (machine_of subject) pending (requests_of subject) s same (its_requests subject pending all) are
of_subject subject (Err e) m pending same all are = tt
