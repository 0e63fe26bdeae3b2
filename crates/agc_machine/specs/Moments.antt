-- The moment when a request has been acted on, and no era has begun with it.
use Rattle.std.specs.Prelude.{◌≡◌, ℕ, false, List}
use Rattle.agc_word.specs.Layout.{sets_in}
use Rattle.agc_plan.specs.declared.reply.Reply.{Reply}
use Rattle.agc_plan.specs.declared.request.Request.{Request}
use Rattle.agc_plan.specs.declared.request.Task.{Task}
use Rattle.agc_plan.specs.Seats.{places_acted}
use Rattle.agc_plan.specs.Steps.{acted, begins, fired_in, raised_in}
use Rattle.agc_exec.specs.Image.{entries_in}
use Rattle.agc_wait.specs.Table.{waits_of}
use Rattle.agc_wait.specs.Waits.{is_due}
use Rattle.agc_machine.specs.Image.{AreLawful, IsTidyImage, WordsStandFor}
use Rattle.agc_machine.specs.Machines.{Machined, plain_of, places_of}

-- the words then, what is replied, what fired, and which action raised an alarm inside a tick
pub record Acting : Type 0 where
  pub words : List ℕ
  pub reply : Reply
  pub fired : List Task
  pub number : ℕ

-- the moment of this machine after it has acted on this request, before an era begins: its words
-- are lawful and tidy, and if no era begins no task is due; they stand for the model's state, with
-- the jobs in the core sets of their placement
pub record IsMoment (m : Machined) (asked : Request) (moment : Acting) : Type 0 where
  pub sets : sets_in moment.words ≡ m.plan.sets
  pub tables : AreLawful moment.words
  pub tidy : IsTidyImage moment.words
  pub none_due : begins moment.reply ≡ false → is_due (waits_of moment.words) ≡ false
  pub placed : entries_in moment.words ≡ places_acted m.plan asked (plain_of m) (places_of m)
  pub stands : WordsStandFor moment.words (acted m.plan asked (plain_of m)).plain
  pub reply : moment.reply ≡ (acted m.plan asked (plain_of m)).reply
  pub fired : moment.fired ≡ fired_in m.plan asked (plain_of m)
  pub number : moment.number ≡ raised_in m.plan asked (plain_of m)
