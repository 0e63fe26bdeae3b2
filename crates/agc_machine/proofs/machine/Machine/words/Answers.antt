use Rattle.std.proofs.Common.{subst}
use Rattle.agc_machine.specs.Image.{IsImage}
use Rattle.agc_machine.specs.Machines.{Machined}
use Rattle.agc_machine.proofs.machine.Machine.words.Goals as goal

pub returns : goal.returns
returns c = record {
  own = c.self.inside.erasable;
  image = subst (λ (m : Machined). IsImage m c.self.inside.erasable) c.self.view_is c.self.invariant.0;
  all = c.words.ensures.words;
}
