use Rattle.std.proofs.Common.{◌≡◌, ◌<◌, ◌/◌, ◌∙◌, arith, length}
use Rattle.agc_word.specs.Layout.{sets_in}
use Rattle.agc_exec.specs.Image.{sets_of}
use Rattle.agc_exec.proofs.Decoding.{length-sets}
use Rattle.agc_exec.proofs.Named.{named-stays, named-some, named-range}
use Rattle.agc_exec.proofs.newjob.named_set.Goals as goal

pub returns-clause-stays : goal.returns-clause-stays
returns-clause-stays c zero_is job here awake =
    named-stays (sets_of c.args.e.now) job c.bits.result c.requires.lawful.sets.standing here awake (c.bits.ensures.value ∙ c.get.ensures.value ∙ c.requires.lawful.newjob) zero_is

pub returns-clause-gives_way : goal.returns-clause-gives_way
returns-clause-gives_way c positive job here awake =
    named-some (sets_of c.args.e.now) job c.bits.result c.requires.lawful.sets.standing here awake (c.bits.ensures.value ∙ c.get.ensures.value ∙ c.requires.lawful.newjob) (λ z. omega arith)

pub returns-clause-range : goal.returns-clause-range
returns-clause-range c =
    let len : length (sets_of c.args.e.now) ≡ sets_in c.args.e.now = length-sets c.args.e.now in
    let (job, here, awake) = c.requires.runs in
    let range : c.bits.result / 12 < length (sets_of c.args.e.now) = named-range (sets_of c.args.e.now) job c.bits.result c.requires.lawful.sets.standing here awake (c.bits.ensures.value ∙ c.get.ensures.value ∙ c.requires.lawful.newjob) in
    omega arith
