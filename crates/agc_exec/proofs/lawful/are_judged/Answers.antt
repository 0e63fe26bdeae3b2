use Rattle.std.proofs.Common.{◌≡◌, ◌∙◌, length, sym, rules, arith}
use Rattle.agc_word.specs.Layout.{sets_in}
use Rattle.agc_exec.specs.Image.{sets_of}
use Rattle.agc_exec.proofs.Decoding.{length-sets}
use Rattle.agc_exec.proofs.Marks.{AreJudged-none}
use Rattle.agc_exec.proofs.lawful.are_judged.Goals as goal

pub loop-k-init : goal.loop-k-init
loop-k-init c = rw c.requires.blank (AreJudged-none c.args.e.now)

pub returns-then-not-is_judged-clause-no : goal.returns-then-not-is_judged-clause-no
returns-then-not-is_judged-clause-no c sound apart =
    let len : length (sets_of c.args.e.now) ≡ sets_in c.args.e.now = length-sets c.args.e.now in
    sym (search rules) ∙ c.is_judged.ensures.no (sound c.loop-k.k (omega arith)) (apart c.loop-k.k (omega arith))

pub returns-clause-apart : goal.returns-clause-apart
returns-clause-apart c e k lt =
    let len : length (sets_of c.args.e.now) ≡ sets_in c.args.e.now = length-sets c.args.e.now in
    c.loop-k.invariant.apart k (omega arith)
