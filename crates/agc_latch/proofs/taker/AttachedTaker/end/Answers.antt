use Rattle.std.proofs.Common.{◌≡◌, rules}
use Rattle.agc_plan.specs.declared.line.Line.TheVariants.{Timer, Key, Radar}
use Rattle.agc_latch.proofs.taker.AttachedTaker.end.Goals as goal

pub prove-unreachable-requires : goal.prove-unreachable-requires
prove-unreachable-requires c =
    let back : c.join_all.new.self.back ≡ c.join_all.new.self.given = search rules in
    let whole = c.take_each-last.ensures.whole back in
    let timer = whole Timer in
    let key = whole Key in
    let radar = whole Radar in
    let timer_left = c.close-left.ensures Timer in
    let key_left = c.close-left.ensures Key in
    let radar_left = c.close-left.ensures Radar in search rules
