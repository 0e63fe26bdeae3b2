-- For the proofs: a scene, as it is read from the words.
use Rattle.std.specs.Prelude.{◌≡◌, ℕ, ◌==◌, Bool, true, false, if◌then◌else◌, List, Option, Some}
use Rattle.std.specs.Prelude.{None}
use Rattle.std.specs.Prelude.{Result, IfOk}
use Rattle.agc_plan.specs.declared.reply.Reply.{Reply}
use Rattle.agc_plan.specs.declared.request.Request.{Request}
use Rattle.agc_plan.specs.Steps.{begins}
use Rattle.agc_exec.specs.Image.{jobs_in, runner_in}
use Rattle.agc_exec.specs.Seats.{named_of, seats_in}
use Rattle.agc_wait.specs.Table.{waits_of}
use Rattle.agc_phase.specs.Image.{base_of}
use Rattle.agc_machine.specs.declared.answer.Refusal.{Refusal}
use Rattle.agc_machine.specs.Machines.{Machined, after, answer_of}
use Rattle.agc_machine.specs.Moments.{Acting, IsMoment}
use Rattle.agc_run.specs.declared.listings.Listing.{Listing}
use Rattle.agc_run.specs.declared.origins.Since.{Since}
use Rattle.agc_run.specs.Scenes.{Scene}

abbrev pub scene_in : List ℕ → Scene
scene_in words = record {
  running = runner_in words;
  next_job = named_of (jobs_in words);
  seats = seats_in words;
  waits = waits_of words;
  base = base_of words;
}

-- a machine was asked for this: it is now this one, with this answer, and if an era began with it,
-- the moment before that was kept
pub record IsServed (m : Machined) (asked : Request) (now : Machined)
    (answer : Result Reply Refusal) (moment : Acting) : Type 0 where
  pub now_is : now ≡ after m asked
  pub answer_is : answer ≡ answer_of m asked
  pub kept : IfOk answer (λ reply. begins reply ≡ true → IsMoment m asked moment)

-- whether this task was there, and is due then
abbrev pub is_old : Option Listing → ℕ → Bool
is_old None distance = false
is_old (Some old) distance = old.distance == distance

-- that task, or else one that came now
abbrev pub listing_of : Since → Option Listing → ℕ → Listing
listing_of now None distance = record { distance = distance; since = now }
listing_of now (Some old) distance =
    if old.distance == distance then old else record { distance = distance; since = now }
