use Rattle.std.proofs.Common.{◌∷◌, [], ap, ◌∙◌, ◌++◌, codes, List, ℕ}
use Rattle.std.specs.List.{flat_map}
use Rattle.agc_text.specs.Replies.{fired_text, end_text}
use Rattle.agc_text.proofs.Steps.{three_pieces}
use Rattle.agc_text.proofs.replies.fill_tick.Goals as goal

pub returns : goal.returns
returns c =
    three_pieces c.args.line.now.items c.add.new.line.items c.add_tasks.new.line.items c.add-2.new.line.items (codes "tick") (flat_map fired_text c.args.fired.now) (end_text c.args.alarm) (10 ∷ []) c.requires
    (c.add.ensures.text ∙ ap (λ (t : List ℕ). c.args.line.now.items ++ t) c.as_bytes.ensures.value) c.add_tasks.ensures.text
    (c.add-2.ensures.text ∙ ap (λ (t : List ℕ). c.add_tasks.new.line.items ++ t) (c.as_bytes-2.ensures.value ∙ c.line_end.ensures.text))
