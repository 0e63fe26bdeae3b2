use Rattle.std.proofs.Common.{◌≡◌, ◌≤◌, ◌∙◌, ◌%◌, ap, sym, arith}
use Rattle.std.proofs.lemmas.Option.{same_Some}
use Rattle.agc_word.specs.Layout.{area_of}
use Rattle.agc_exec.specs.Image.{priority_unit}
use Rattle.agc_exec.proofs.Ranks.{front_area_word}
use Rattle.agc_exec.proofs.Turning.{block_held}
use Rattle.agc_exec.proofs.area.front_area.Goals as goal

pub returns-clause-area : goal.returns-clause-area
returns-clause-area c job here =
    let (front, at, awake) = c.requires.runs in
    let same : front ≡ job = same_Some front job (sym at ∙ here) in
    c.area_of.ensures ∙ ap (λ w. area_of (w % priority_unit)) c.word_of.ensures.value ∙ front_area_word c.args.e.now front (omega arith) at awake ∙ ap (λ j. j.area) same

pub returns-clause-five : goal.returns-clause-five
returns-clause-five c =
    let (front, at, awake) = c.requires.runs in
    let five : front.area ≤ 5 = (block_held c.args.e.now 0 front c.requires.set at).1.five in
    let is : c.area_of.result ≡ front.area = c.area_of.ensures ∙ ap (λ w. area_of (w % priority_unit)) c.word_of.ensures.value ∙ front_area_word c.args.e.now front (omega arith) at awake in
    omega arith
