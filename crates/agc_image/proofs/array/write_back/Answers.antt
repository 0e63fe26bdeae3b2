use Rattle.std.proofs.Common.{◌≡◌, length, rules, arith}
use Rattle.agc_word.specs.Layout.{sets_in}
use Rattle.agc_image.specs.Images.{size_with}
use Rattle.agc_image.proofs.Arrays.{size_is, written}
use Rattle.agc_image.proofs.array.write_back.Goals as goal

pub returns : goal.returns
returns c =
    let size : size_with (sets_in c.args.image.now) ≡ length c.args.image.now = size_is c.args.image.now c.sets.ensures.all in
    record {
      sized = c.sets.ensures.all;
      range = λ k lt. c.loop-place.invariant.words k (omega arith);
      image = written c.args.image.now c.loop-place.array c.sets.ensures.all c.loop-place.invariant.all (λ k lt. c.loop-place.invariant.same k (omega arith));
      rest = search rules;
    }
