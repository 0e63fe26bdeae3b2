use Rattle.std.proofs.Common.{◌≡◌, sym, ◌∙◌, slice_index}
use Rattle.agc_word.specs.Layout as layout
use Rattle.agc_exec.proofs.Naming.{named_none, named_range, named_is}
use Rattle.agc_exec.proofs.seats.named_job.Goals as goal

pub number_behind-requires-clause-set : goal.number_behind-requires-clause-set
number_behind-requires-clause-set c =
    let range = named_range c.args.e.now c.in-Some._number c.requires.lawful (sym c.running.ensures ∙ c.in-Some.is) in
    let word : c.bits.result ≡ slice_index c.args.e.now layout.newjob = c.bits.ensures.value ∙ c.get.ensures.value in
    rw word range

pub returns-in-None : goal.returns-in-None
returns-in-None c = sym (named_none c.args.e.now (sym c.running.ensures ∙ c.in-None.is))

pub returns-in-Some : goal.returns-in-Some
returns-in-Some c =
    let word : slice_index c.args.e.now layout.newjob ≡ c.bits.result = sym (c.bits.ensures.value ∙ c.get.ensures.value) in
    named_is c.args.e.now c.in-Some._number c.number_behind.result c.requires.lawful (sym c.running.ensures ∙ c.in-Some.is)
    (rw word c.number_behind.ensures.first)
    (rw word c.number_behind.ensures.behind)
