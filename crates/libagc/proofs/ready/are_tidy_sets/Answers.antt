use Rattle.std.proofs.Common.{◌≡◌, ◌<◌, length, ◌∙◌, arith}
use Rattle.agc_word.specs.Layout.{sets_in}
use Rattle.agc_exec.specs.Blocks.{blocks_of}
use Rattle.agc_exec.proofs.Reading.{length-blocks_of}
use Rattle.libagc.proofs.ready.are_tidy_sets.Goals as goal

pub returns-then-not-is_tidy_set-clause-no : goal.returns-then-not-is_tidy_set-clause-no
returns-then-not-is_tidy_set-clause-no c = λ tidy.
    let long : length (blocks_of c.args.e.now) ≡ sets_in c.args.e.now = length-blocks_of c.args.e.now in
    let count : c.count-k-end.result ≡ sets_in c.args.e.now = c.count-k-end.ensures ∙ c.sets.ensures.count in
    let within : c.loop-k.k < c.count-k-end.result = c.loop-k-test.true in
    c.if-not-is_tidy_set.ensures.no (tidy c.loop-k.k (omega arith))

pub returns-clause-yes : goal.returns-clause-yes
returns-clause-yes c = λ yes k lt.
    let long : length (blocks_of c.args.e.now) ≡ sets_in c.args.e.now = length-blocks_of c.args.e.now in
    let count : c.count-k-end.result ≡ sets_in c.args.e.now = c.count-k-end.ensures ∙ c.sets.ensures.count in
    c.loop-k.invariant k (omega (arith, lt, c.loop-k-test.false))
