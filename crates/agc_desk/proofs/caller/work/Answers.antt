use Rattle.std.proofs.Common.{[], take, refl}
use Rattle.agc_desk.proofs.Runs.{asks_none, asks_all}
use Rattle.agc_desk.proofs.caller.work.Goals as goal

-- what the calls did to the caller, seen at its share
pub returns : goal.returns
returns g c = (
  take c.drive.result c.args.requests.now,
  record { count = c.drive.result; few = c.drive.ensures.count; front = refl; passed = c.drive.ensures.passed; whole = c.drive.ensures.whole },
  asks_all g.N.Names.first (λ call said. g.G.Gate.is_told c.args.gate.now c.args.worker call said) (λ k. k.share) c.args.share [] (take c.drive.result c.args.requests.now) _ _ (asks_none g.N.Names.first (λ call said. g.G.Gate.is_told c.args.gate.now c.args.worker call said) c.args.share) c.drive.ensures.reached,
)
