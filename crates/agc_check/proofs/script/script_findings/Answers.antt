use Rattle.std.proofs.Common.{List, [], ◌∷◌, map, refl, sym, subst}
use Rattle.std.specs.List.{AllByRecursion}
use Rattle.agc_plan.specs.declared.request.Request.{Request}
use Rattle.agc_plan.specs.Ranges.{IsRequest}
use Rattle.agc_text.specs.Lines.{line_of}
use Rattle.agc_text.specs.Script.{IsLine, lines_of}
use Rattle.agc_check.specs.Scripts.{AreLineFindings}
use Rattle.agc_check.proofs.script.script_findings.Goals as goal

all_lines : (rs : List Request) → AllByRecursion IsRequest rs → AllByRecursion IsLine (map line_of rs)
all_lines [] h = tt
all_lines (r ∷ rs) h = ((r, h.0, refl), all_lines rs h.1)

pub returns-in-Ok : goal.returns-in-Ok
returns-in-Ok c =
    let found = c.in-Ok.ensures.found in
    subst (AreLineFindings (lines_of c.args.text.now)) (sym c.new.ensures.items)
    (subst (λ ls. AllByRecursion IsLine ls) (sym found.1) (all_lines c.in-Ok._requests.items found.0))
