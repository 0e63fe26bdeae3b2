-- What one crate's calls keep of the other tables, and what they do to jobs and tasks.
use Rattle.std.proofs.Common.{◌≡◌, ℕ, if◌then◌else◌, Bool, false, nat_lt, List, ap, sym, subst, ◌∙◌, inl, inr, arith}
use Rattle.std.proofs.lemmas.Grind.{common_steps}
use Rattle.agc_word.specs.Layout.{Keeps, OutsideCores, OutsideWaitlist, OutsidePhases}
use Rattle.agc_word.proofs.Keeping.{kept_also}
use Rattle.agc_plan.specs.declared.reply.Alarm.TheVariants.{A1203}
use Rattle.agc_plan.specs.declared.reply.Reply.{Reply}
use Rattle.agc_plan.specs.declared.reply.Reply.TheVariants.{Listed, Alarmed}
use Rattle.agc_plan.specs.declared.request.Task.{Task}
use Rattle.agc_plan.specs.Eras.{Work}
use Rattle.agc_plan.specs.Jobs.{Jobs, Outcome, established}
use Rattle.agc_plan.specs.Places.{placed_new, placed_end, fronted}
use Rattle.agc_plan.specs.Seats.{seated_new}
use Rattle.agc_plan.specs.Steps.{with_jobs, with_listed}
use Rattle.agc_plan.specs.Tasks.{Agenda, Waiting}
use Rattle.agc_plan.specs.Tasks as tasks
use Rattle.agc_exec.specs.Calls.{Does}
use Rattle.agc_exec.specs.Image.{jobs_in, entries_in, runner_in}
use Rattle.agc_exec.specs.Image as cores
use Rattle.agc_exec.proofs.Decoding.{IsSized-kept}
use Rattle.agc_exec.proofs.Agreeing.{kept_by_waitlist, kept_by_phases, jobs_in-agrees, entries_in-agrees, IsTidy-agrees, IsLawfulWords-agrees}
use Rattle.agc_wait.specs.Calls.{Lists, Becomes}
use Rattle.agc_wait.specs.Table.{waits_of, SameTable}
use Rattle.agc_wait.specs.Table as table
use Rattle.agc_wait.specs.Waits.{is_due, due_now}
use Rattle.agc_wait.proofs.Standing.{is_due-table}
use Rattle.agc_wait.proofs.Same.{waits_of-same, IsLawfulTable-same, IsTidy-same}
use Rattle.agc_phase.specs.Image.{base_of}
use Rattle.agc_phase.specs.Image as phases
use Rattle.agc_phase.proofs.Kept.{InPhases, base_of-kept, IsLawfulTable-kept}
use Rattle.agc_machine.specs.Stands.{IsSound, Stands, Changes, Works, SameDue, same_places}

-- the Waitlist's words, kept by a call on core sets, or on phases
table_by_cores : (old new : List ℕ) → Keeps OutsideCores old new → SameTable new old
table_by_cores old new kept = λ i within. kept.words i (within.0, omega arith)

table_by_phases : (old new : List ℕ) → Keeps OutsidePhases old new → SameTable new old
table_by_phases old new kept = λ i within. kept.words i (inl within.1)

-- the words of phases and FAILREG, kept by a call on core sets, or on the Waitlist
pub phases_by_cores : (old new : List ℕ) → Keeps OutsideCores old new → Keeps InPhases old new
phases_by_cores old new kept = kept_also OutsideCores InPhases old new (λ place is. (omega arith, is.1)) kept

pub phases_by_waits : (old new : List ℕ) → Keeps OutsideWaitlist old new → Keeps InPhases old new
phases_by_waits old new kept = kept_also OutsideWaitlist InPhases old new (λ place is. inr is.0) kept

-- sound words stay sound, if a call leaves its own part lawful and tidy
pub sound_by_cores : (old new : List ℕ) → Keeps OutsideCores old new → IsSound old → cores.IsLawfulWords new → cores.IsTidy new → IsSound new
sound_by_cores old new kept sound lawful tidy = record {
  size = IsSized-kept old new kept.same_length sound.size;
  cores = lawful;
  waits = IsLawfulTable-same new old (table_by_cores old new kept) sound.waits;
  phases = IsLawfulTable-kept old new (phases_by_cores old new kept) sound.phases;
  tidy_cores = tidy;
  tidy_waits = IsTidy-same new old (table_by_cores old new kept) sound.tidy_waits;
}

pub sound_by_waits : (old new : List ℕ) → Keeps OutsideWaitlist old new → IsSound old → table.IsLawfulTable new → table.IsTidy new → IsSound new
sound_by_waits old new kept sound lawful tidy = record {
  size = IsSized-kept old new kept.same_length sound.size;
  cores = IsLawfulWords-agrees old new (kept_by_waitlist old new kept) sound.cores;
  waits = lawful;
  phases = IsLawfulTable-kept old new (phases_by_waits old new kept) sound.phases;
  tidy_cores = IsTidy-agrees old new (kept_by_waitlist old new kept) sound.tidy_cores;
  tidy_waits = tidy;
}

pub sound_by_phases : (old new : List ℕ) → Keeps OutsidePhases old new → IsSound old → phases.IsLawfulTable new → IsSound new
sound_by_phases old new kept sound lawful = record {
  size = IsSized-kept old new kept.same_length sound.size;
  cores = IsLawfulWords-agrees old new (kept_by_phases old new kept) sound.cores;
  waits = IsLawfulTable-same new old (table_by_phases old new kept) sound.waits;
  phases = lawful;
  tidy_cores = IsTidy-agrees old new (kept_by_phases old new kept) sound.tidy_cores;
  tidy_waits = IsTidy-same new old (table_by_phases old new kept) sound.tidy_waits;
}

-- what is read of the other tables stays
pub waits_by_cores : (old new : List ℕ) → Keeps OutsideCores old new → waits_of new ≡ waits_of old
waits_by_cores old new kept = waits_of-same new old (table_by_cores old new kept)

pub waits_by_phases : (old new : List ℕ) → Keeps OutsidePhases old new → waits_of new ≡ waits_of old
waits_by_phases old new kept = waits_of-same new old (table_by_phases old new kept)

pub base_by_cores : (old new : List ℕ) → Keeps OutsideCores old new → base_of new ≡ base_of old
base_by_cores old new kept = base_of-kept old new (phases_by_cores old new kept)

pub base_by_waits : (old new : List ℕ) → Keeps OutsideWaitlist old new → base_of new ≡ base_of old
base_by_waits old new kept = base_of-kept old new (phases_by_waits old new kept)

pub due_by_cores : (old new : List ℕ) → Keeps OutsideCores old new → SameDue old new
due_by_cores old new kept = ap due_now (waits_by_cores old new kept)

pub due_by_phases : (old new : List ℕ) → Keeps OutsidePhases old new → SameDue old new
due_by_phases old new kept = ap due_now (waits_by_phases old new kept)

-- where no task is due now, none is counted
none_left : (n : ℕ) → nat_lt 0 n ≡ false → n ≡ 0
none_left n off = grind (arith, common_steps)

pub none_counted : (words : List ℕ) → table.IsLawfulTable words → is_due (waits_of words) ≡ false → due_now (waits_of words) ≡ 0
none_counted words lawful off = none_left (due_now (waits_of words)) (sym (is_due-table words lawful) ∙ off)

-- words that stand for jobs and tasks stand for the same while phases change
pub stands_by_phases : (old new : List ℕ) → Keeps OutsidePhases old new → (work : Work) (places : List ℕ) → Stands old work places → Stands new work places
stands_by_phases old new kept work places stands = record {
  jobs_is = stands.jobs_is ∙ sym (jobs_in-agrees old new (kept_by_phases old new kept));
  places_is = stands.places_is ∙ sym (entries_in-agrees old new (kept_by_phases old new kept));
  agenda = subst (λ (waits : List Waiting). tasks.StandsFor waits work.agenda) (sym (waits_by_phases old new kept)) stands.agenda;
}

-- and for the same jobs while tasks change
pub stands_by_waits : (change : Agenda → Agenda) (old new : List ℕ) → Keeps OutsideWaitlist old new → Becomes change old new → (work : Work) (places : List ℕ) → Stands old work places → Stands new (record work { agenda = change work.agenda }) places
stands_by_waits change old new kept becomes work places stands = record {
  jobs_is = stands.jobs_is ∙ sym (jobs_in-agrees old new (kept_by_waitlist old new kept));
  places_is = stands.places_is ∙ sym (entries_in-agrees old new (kept_by_waitlist old new kept));
  agenda = becomes work.agenda stands.agenda;
}

-- the outcome of a call on core sets, of what the words stood for
outcome_of : (f : Jobs → Outcome) (entries : List ℕ) (blocks : List (List ℕ)) (old new : List ℕ) (reply : Reply) → Does (f (jobs_in old)) entries blocks old new reply → (work : Work) (places : List ℕ) → Stands old work places → ◌≡◌ {A = Outcome} (f work.jobs) (record { jobs = jobs_in new; reply = reply })
outcome_of f entries blocks old new reply did work places stands = ap f stands.jobs_is ∙ sym did.outcome_is

-- a call on core sets
works_by : (f : Jobs → Outcome) (seat : Work → List ℕ → List ℕ) (entries : List ℕ) (blocks : List (List ℕ)) (old new : List ℕ) (reply : Reply) → IsSound old → Does (f (jobs_in old)) entries blocks old new reply → ((work : Work) (places : List ℕ) → Stands old work places → seat work places ≡ entries) → Works (λ work. with_jobs (f work.jobs) work) seat old reply new
works_by f seat entries blocks old new reply sound did seats = record {
  changes = record {
    sound = sound_by_cores old new did.others sound did.lawful (did.tidy sound.tidy_cores);
    same_length = did.others.same_length;
    same_base = base_by_cores old new did.others;
    stands = λ work places stands. record {
      jobs_is = ap (λ (o : Outcome). o.jobs) (outcome_of f entries blocks old new reply did work places stands);
      places_is = seats work places stands ∙ sym did.placed;
      agenda = subst (λ (waits : List Waiting). tasks.StandsFor waits work.agenda) (sym (waits_by_cores old new did.others)) stands.agenda;
    };
  };
  reply_is = λ work places stands. sym (ap (λ (o : Outcome). o.reply) (outcome_of f entries blocks old new reply did work places stands));
}

-- a new job, if one is established, comes to the first free set
pub works_new : (f : Jobs → Outcome) (blocks : List (List ℕ)) (old new : List ℕ) (reply : Reply) → IsSound old → Does (f (jobs_in old)) (placed_new (established reply) (runner_in new) (entries_in old)) blocks old new reply → Works (λ work. with_jobs (f work.jobs) work) (λ work places. (seated_new (f work.jobs) places).places) old reply new
works_new f blocks old new reply sound did =
    works_by f (λ work places. (seated_new (f work.jobs) places).places) _ blocks old new reply sound did
    (λ work places stands.
    ap (λ (o : Outcome). placed_new (established o.reply) o.jobs.running places) (outcome_of f _ blocks old new reply did work places stands)
    ∙ ap (placed_new (established reply) (runner_in new)) stands.places_is)

-- the running job leaves its set
pub works_end : (f : Jobs → Outcome) (blocks : List (List ℕ)) (old new : List ℕ) (reply : Reply) → IsSound old → Does (f (jobs_in old)) (placed_end (runner_in old) (runner_in new) (entries_in old)) blocks old new reply → Works (λ work. with_jobs (f work.jobs) work) (λ work places. placed_end work.jobs.running (f work.jobs).jobs.running places) old reply new
works_end f blocks old new reply sound did =
    works_by f (λ work places. placed_end work.jobs.running (f work.jobs).jobs.running places) _ blocks old new reply sound did
    (λ work places stands.
    ap (λ (o : Outcome). placed_end work.jobs.running o.jobs.running places) (outcome_of f _ blocks old new reply did work places stands)
    ∙ ap (λ (j : Jobs). placed_end j.running (runner_in new) places) stands.jobs_is
    ∙ ap (placed_end (runner_in old) (runner_in new)) stands.places_is)

-- the running job has set 0
pub works_front : (f : Jobs → Outcome) (blocks : List (List ℕ)) (old new : List ℕ) (reply : Reply) → IsSound old → Does (f (jobs_in old)) (fronted (runner_in new) (entries_in old)) blocks old new reply → Works (λ work. with_jobs (f work.jobs) work) (λ work places. fronted (f work.jobs).jobs.running places) old reply new
works_front f blocks old new reply sound did =
    works_by f (λ work places. fronted (f work.jobs).jobs.running places) _ blocks old new reply sound did
    (λ work places stands.
    ap (λ (o : Outcome). fronted o.jobs.running places) (outcome_of f _ blocks old new reply did work places stands)
    ∙ ap (fronted (runner_in new)) stands.places_is)

-- nobody moves
pub works_still : (f : Jobs → Outcome) (blocks : List (List ℕ)) (old new : List ℕ) (reply : Reply) → IsSound old → Does (f (jobs_in old)) (entries_in old) blocks old new reply → Works (λ work. with_jobs (f work.jobs) work) same_places old reply new
works_still f blocks old new reply sound did = works_by f same_places _ blocks old new reply sound did (λ work places stands. stands.places_is)

-- a task was listed, or there was no room
pub works_listed : (delay : ℕ) (task : Task) (old new : List ℕ) (accepted : Bool) (reply : Reply) → IsSound old → Lists delay task old accepted new → reply ≡ (if accepted then Listed else Alarmed A1203) → Works (with_listed delay task) same_places old reply new
works_listed delay task old new accepted reply sound lists reply_is = record {
  changes = record {
    sound = sound_by_waits old new lists.others sound lists.lawful (lists.tidy sound.tidy_waits);
    same_length = lists.others.same_length;
    same_base = base_by_waits old new lists.others;
    stands = stands_by_waits _ old new lists.others lists.listed;
  };
  reply_is = λ work places stands. reply_is ∙ ap (λ (b : Bool). if b then Listed else Alarmed A1203) (lists.room work.agenda stands.agenda);
}

-- one change after another
pub changes_twice : (f g : Work → Work) (s t : Work → List ℕ → List ℕ) (old mid new : List ℕ) → Changes f s old mid → Changes g t mid new → Changes (λ work. g (f work)) (λ work places. t (f work) (s work places)) old new
changes_twice f g s t old mid new first second = record {
  sound = second.sound;
  same_length = second.same_length ∙ first.same_length;
  same_base = second.same_base ∙ first.same_base;
  stands = λ work places stands. second.stands (f work) (s work places) (first.stands work places stands);
}
