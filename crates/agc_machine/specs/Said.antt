-- An answer, as callers see it.
use Rattle.std.specs.Prelude.{List, Result}
use Rattle.agc_plan.specs.declared.request.Request.{Request}
use Rattle.agc_plan.specs.declared.request.Task.{Task}
use Rattle.agc_plan.specs.declared.reply.Reply.{Reply}
use Rattle.agc_machine.specs.declared.answer.Refusal.{Refusal}

-- an answer, as its request, its result, and the tasks that fired
pub record Said : Type 0 where
  pub request : Request
  pub outcome : Result Reply Refusal
  pub fired : List Task
