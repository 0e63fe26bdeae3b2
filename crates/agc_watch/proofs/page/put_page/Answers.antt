use Rattle.std.proofs.Common.{◌++◌, ◌∙◌}
use Rattle.agc_watch.proofs.Plain.{is_page}
use Rattle.agc_watch.proofs.page.put_page.Goals as goal

pub returns-in-Ok : goal.returns-in-Ok
returns-in-Ok g c = (
  c.in-Some.front.now ++ (c.as_slice.result.now ++ c.closing.result.now),
  is_page c.args.document.view c.args.workbench.now c.args.document.text.now c.in-Some.front.now c.as_slice.result.now c.closing.result.now c.in-Some.ensures.found (c.as_slice.ensures.value ∙ c.in_ok-inner.ensures) c.closing.ensures,
  c.in-Ok.ensures,
)

pub returns-in-Some : goal.returns-in-Some
returns-in-Some g c = (
  c.in-Some.front.now ++ (c.as_slice.result.now ++ c.closing.result.now),
  is_page c.args.document.view c.args.workbench.now c.args.document.text.now c.in-Some.front.now c.as_slice.result.now c.closing.result.now c.in-Some.ensures.found (c.as_slice.ensures.value ∙ c.in_ok-inner.ensures) c.closing.ensures,
  c.in-Err.ensures,
)
