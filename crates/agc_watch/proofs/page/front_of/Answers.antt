use Rattle.std.proofs.Common.{Some}
use Rattle.std.proofs.lemmas.Bool.Decides.{Decides-eqb}
use Rattle.std.proofs.lemmas.Slice.Eq.{strip_suffix_is}
use Rattle.agc_watch.proofs.page.front_of.Goals as goal

pub returns-clause-found : goal.returns-clause-found
returns-clause-found c = record {
  before = c.in_ok-_before._before.now;
  opened = strip_suffix_is Decides-eqb c.in_ok-front.front.now _ (Some c.in_ok-_before._before) c.in_ok-_before.ensures.cases;
  closed = strip_suffix_is Decides-eqb c.args.workbench.now _ (Some c.in_ok-front.front) c.in_ok-front.ensures.cases;
}
