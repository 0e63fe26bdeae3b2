use Rattle.std.proofs.Common.{arith}
use Rattle.agc_word.specs.declared.sets.Sets.TheVariants.{Seven}
use Rattle.agc_image.proofs.Arrays.{image_is, word_at}
use Rattle.agc_image.proofs.array.seven.Goals as goal

pub returns : goal.returns
returns c =
    image_is Seven c.args.array.now c.loop-place.words c.loop-place.invariant.all c.loop-place.invariant.size (λ k lt. c.loop-place.invariant.same k (omega arith))

pub of_bits-requires : goal.of_bits-requires
of_bits-requires c = word_at Seven c.args.array.now c.loop-place.place c.loop-place.invariant.all c.requires (omega arith)
