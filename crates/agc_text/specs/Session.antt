-- The line of a machine's answer to a request.
use Rattle.std.specs.Prelude.{ℕ, List, [], ◌∷◌, ◌++◌}
use Rattle.agc_plan.specs.declared.request.Request.{Request}
use Rattle.agc_machine.specs.Machines.{Machined, answer_of, fired_of}
use Rattle.agc_text.specs.Replies.{answer_text}

-- the line of the answer that this machine gives
unfoldable pub line_for : Machined → Request → List ℕ
line_for machine request =
    answer_text (fired_of machine request) (answer_of machine request) ++ 10 ∷ []
