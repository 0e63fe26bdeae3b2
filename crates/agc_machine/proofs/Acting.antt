-- What a request does before an era begins with it, and an action of the plan, by what they do to
-- jobs and tasks.
use Rattle.std.proofs.Common.{◌≡◌, ℕ, List, Option, refl, ap, sym, subst, ◌∙◌}
use Rattle.agc_plan.specs.declared.reply.Alarm.{Alarm}
use Rattle.agc_plan.specs.declared.reply.Reply.{Reply}
use Rattle.agc_plan.specs.declared.reply.Reply.TheVariants.{Ticked}
use Rattle.agc_plan.specs.declared.request.Action.{Action}
use Rattle.agc_plan.specs.declared.request.Request.{Request}
use Rattle.agc_plan.specs.declared.request.Request.TheVariants.{Tick}
use Rattle.agc_plan.specs.Base.{Base}
use Rattle.agc_plan.specs.Eras.{Work}
use Rattle.agc_plan.specs.Plans.{Planned}
use Rattle.agc_plan.specs.Seats.{places_acted}
use Rattle.agc_plan.specs.Steps.{Plain, Stepped, Acted, Did, acted, with_work, done, did_of, alarm_of, ticked}
use Rattle.agc_phase.specs.Image.{base_of, Becomes}
use Rattle.agc_machine.specs.Stands.{IsSound, Works, SameDue, Performs, places_done, places_ticked, alarm_in, Steps, Acts}
use Rattle.agc_machine.specs.declared.tick.Raised.{Raised}
use Rattle.agc_machine.proofs.Frames.{sound_by_phases, stands_by_phases}

-- a request on jobs and tasks
pub acts_work : (plan : Planned) (asked : Request) (f : Work → Acted) (seat : Work → List ℕ → List ℕ) (old : List ℕ) (reply : Reply) (new : List ℕ) → Works f seat old reply new → ((plain : Plain) → acted plan asked plain ≡ with_work (f plain.work) plain) → ((plain : Plain) (places : List ℕ) → places_acted plan asked plain places ≡ seat plain.work places) → Acts plan asked old reply new
acts_work plan asked f seat old reply new works acted_is seat_is = record {
  sound = works.changes.sound;
  same_length = works.changes.same_length;
  steps = λ plain places stands.
      let here : Steps new reply (with_work (f plain.work) plain) (seat plain.work places) = record {
        state = record { work = works.changes.stands plain.work places stands.work; base_is = stands.base_is ∙ sym works.changes.same_base };
        reply_is = works.reply_is plain.work places stands.work;
      } in
      subst (λ (s : Stepped). Steps new reply s (places_acted plan asked plain places)) (sym (acted_is plain))
      (subst (λ (l : List ℕ). Steps new reply (with_work (f plain.work) plain) l) (sym (seat_is plain places)) here);
}

-- a request on phases and codes
pub acts_base : (plan : Planned) (asked : Request) (change : Base → Base) (old : List ℕ) (reply : Reply) (new : List ℕ) → IsSound old → Becomes (change (base_of old)) old new → ((plain : Plain) → acted plan asked plain ≡ record { plain = record plain { base = change plain.base }; reply = reply }) → ((plain : Plain) (places : List ℕ) → places_acted plan asked plain places ≡ places) → Acts plan asked old reply new
acts_base plan asked change old reply new sound becomes acted_is seat_is = record {
  sound = sound_by_phases old new becomes.others sound becomes.lawful;
  same_length = becomes.others.same_length;
  steps = λ plain places stands.
      let here : Steps new reply (record { plain = record plain { base = change plain.base }; reply = reply }) places = record {
        state = record { work = stands_by_phases old new becomes.others plain.work places stands.work; base_is = ap change stands.base_is ∙ sym becomes.base_is };
        reply_is = refl;
      } in
      subst (λ (s : Stepped). Steps new reply s (places_acted plan asked plain places)) (sym (acted_is plain))
      (subst (λ (l : List ℕ). Steps new reply (record { plain = record plain { base = change plain.base }; reply = reply }) l) (sym (seat_is plain places)) here);
}

-- an action on jobs or tasks
pub performs_work : (action : Action) (f : Work → Acted) (seat : Work → List ℕ → List ℕ) (old : List ℕ) (reply : Reply) (alarm : Option Alarm) (new : List ℕ) → Works f seat old reply new → SameDue old new → alarm ≡ alarm_of reply → ((work : Work) → did_of (f work) ≡ done action work) → ((work : Work) (places : List ℕ) → seat work places ≡ places_done action work places) → Performs action old alarm new
performs_work action f seat old reply alarm new works due alarm_is done_is seat_is = record {
  changes = record {
    sound = works.changes.sound;
    same_length = works.changes.same_length;
    same_base = works.changes.same_base;
    stands = λ work places stands.
        let here = works.changes.stands work places stands in record {
          jobs_is = sym (ap (λ (d : Did). d.work.jobs) (done_is work)) ∙ here.jobs_is;
          places_is = sym (seat_is work places) ∙ here.places_is;
          agenda = rw (← done_is work) here.agenda;
        };
  };
  alarm_is = λ work places stands. alarm_is ∙ ap alarm_of (works.reply_is work places stands) ∙ ap (λ (d : Did). d.alarm) (done_is work);
  same_due = due;
}

-- a tick, by what it did to jobs and tasks, and by the alarm that was told of it
pub acts_ticked : (plan : Planned) (asked : Request) (old : List ℕ) (raised : Option Raised) (alarm : Option Alarm) (new : List ℕ) → Works (ticked plan.rows) (places_ticked plan.rows) old (Ticked (alarm_in raised)) new → alarm ≡ alarm_in raised → asked ≡ Tick → Acts plan asked old (Ticked alarm) new
acts_ticked plan asked old raised alarm new works told is =
    subst (λ (r : Request). Acts plan r old (Ticked alarm) new) (sym is)
    (subst (λ (o : Option Alarm). Acts plan Tick old (Ticked o) new) (sym told)
    (acts_work plan Tick (ticked plan.rows) (places_ticked plan.rows) old (Ticked (alarm_in raised)) new works (λ p. refl) (λ p places. refl)))
