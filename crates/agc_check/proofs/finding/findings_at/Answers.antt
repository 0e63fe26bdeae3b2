use Rattle.std.proofs.Common.{◌∙◌, ap, subst}
use Rattle.agc_check.specs.Findings.{IsFindingOf}
use Rattle.agc_check.proofs.Found.{found_more, more_found, says_more}
use Rattle.agc_check.proofs.finding.findings_at.Goals as goal

pub loop-note-preserved : goal.loop-note-preserved
loop-note-preserved g c = record {
  all = found_more c.args.document.now g.N.Note.fault c.loop-note.found.items c.push.new.self.items c.in_ok-one.one c.loop-note.invariant.all (subst (λ k. IsFindingOf c.args.document.now k c.in_ok-one.one) c.remark-remark.ensures.fault c.in_ok-one.ensures.found) c.in_ok-push.ensures.items;
  length = more_found c.loop-note.note-index c.loop-note.found.items c.push.new.self.items c.in_ok-one.one c.loop-note.invariant.length c.in_ok-push.ensures.items;
  says = says_more g.N.Note.says c.args.notes.now c.loop-note.note-index c.note-item.result c.loop-note.found.items c.push.new.self.items c.in_ok-one.one c.loop-note-test.true c.loop-note.invariant.says (c.in_ok-one.ensures.says ∙ c.remark-remark.ensures.says ∙ ap g.N.Note.says c.note-item.is) c.in_ok-push.ensures.items;
}
