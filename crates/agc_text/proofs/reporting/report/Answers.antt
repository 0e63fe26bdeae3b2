use Rattle.std.proofs.Common.{◌≡◌, ℕ, List, ◌++◌, Option, Result, subst, ◌∙◌}
use Rattle.std.specs.Result.{IsErr}
use Rattle.std.specs.Io.KnownBytes.{Appends}
use Rattle.agc_word.specs.declared.sets.Sets.{Sets}
use Rattle.agc_word.specs.Profiles.{count_of}
use Rattle.agc_machine.specs.declared.totals.Totals.{Totals}
use Rattle.agc_text.specs.Report.{sets_count_text, sets_text, lines_text, report_text}
use Rattle.agc_text.specs.Writing.{AppendsFront, Writes}
use Rattle.agc_text.proofs.Steps.{writes_first, writes_second}
use Rattle.agc_text.proofs.reporting.report.Goals as goal

-- the first line failed
no_profile : {U D : Type 0} (sets : Sets) (words : List ℕ) (totals : Totals) (line : List ℕ) (old new : Option (List ℕ)) (r : Result U D)
    → line ≡ sets_count_text (count_of sets) → AppendsFront old new line → IsErr r → Writes old new (report_text (count_of sets) words totals) r
no_profile sets words totals line old new r is front fails =
    subst (λ (t : List ℕ). Writes old new (t ++ (sets_text (count_of sets) words ++ lines_text words totals)) r) is
    (writes_first old new line (sets_text (count_of sets) words ++ lines_text words totals) r front fails)

-- what comes after it was written, or failed
with_profile : {U D : Type 0} (sets : Sets) (words : List ℕ) (totals : Totals) (line : List ℕ) (count : ℕ) (old mid new : Option (List ℕ)) (r : Result U D)
    → line ≡ sets_count_text (count_of sets) → count ≡ count_of sets → Appends old mid line → Writes mid new (sets_text count words ++ lines_text words totals) r
    → Writes old new (report_text (count_of sets) words totals) r
with_profile sets words totals line count old mid new r is same first rest =
    writes_second old mid new (sets_count_text (count_of sets)) (sets_text (count_of sets) words ++ lines_text words totals) r
    (subst (λ (t : List ℕ). Appends old mid t) is first)
    (subst (λ (n : ℕ). Writes mid new (sets_text n words ++ lines_text words totals) r) same rest)

pub returns-in_err-put : goal.returns-in_err-put
returns-in_err-put g c =
    no_profile c.args.sets c.args.words.now c.args.totals.now c.as_bytes.result.now _ _ c.from_residual.result
    (c.as_bytes.ensures.value ∙ c.sets_count_line.ensures) c.in_err-put.ensures c.from_residual.ensures.0

pub returns-in_err-put_sets : goal.returns-in_err-put_sets
returns-in_err-put_sets g c =
    with_profile c.args.sets c.args.words.now c.args.totals.now c.as_bytes.result.now c.count.result _ _ _ c.from_residual-in_err-put_sets.result
    (c.as_bytes.ensures.value ∙ c.sets_count_line.ensures) c.count.ensures c.in_ok-put.ensures
    (writes_first _ _ _ _ c.from_residual-in_err-put_sets.result c.in_err-put_sets.ensures c.from_residual-in_err-put_sets.ensures.0)

pub returns : goal.returns
returns g c =
    with_profile c.args.sets c.args.words.now c.args.totals.now c.as_bytes.result.now c.count.result _ _ _ c.put_lines.result
    (c.as_bytes.ensures.value ∙ c.sets_count_line.ensures) c.count.ensures c.in_ok-put.ensures
    (writes_second _ _ _ _ _ c.put_lines.result c.in_ok-put_sets.ensures c.put_lines.ensures)
