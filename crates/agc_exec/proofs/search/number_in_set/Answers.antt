use Rattle.std.proofs.Common.{◌≡◌, ◌≤◌, ◌∙◌, ◌+◌, ap, sym, Some, option_map, slice_index, arith, length}
use Rattle.agc_word.specs.Layout.{sets_in, set_place}
use Rattle.agc_exec.specs.HeldJob.{HeldJob}
use Rattle.agc_exec.specs.Image.{sets_of}
use Rattle.agc_exec.proofs.Decoding.{length-sets, number_word}
use Rattle.agc_exec.proofs.search.number_in_set.Goals as goal

pub job_no-requires : goal.job_no-requires
job_no-requires c =
    let len : length (sets_of c.args.e.now) ≡ sets_in c.args.e.now = length-sets c.args.e.now in
    let place : set_place c.args.k + 0 ≡ set_place c.args.k = omega arith in
    let is : c.word_of.result ≡ c.requires.held.0.number = c.word_of.ensures.value ∙ ap (slice_index c.args.e.now) place ∙ number_word c.args.e.now c.args.k c.requires.held.0 c.requires.held.1 in
    let low : 1 ≤ c.requires.held.0.number = c.requires.set.standing.lawful.low c.args.k c.requires.held.0 c.requires.held.1 in
    let high : c.requires.held.0.number ≤ length (sets_of c.args.e.now) = c.requires.set.standing.lawful.high c.args.k c.requires.held.0 c.requires.held.1 in
    (omega arith, omega arith)

pub returns : goal.returns
returns c =
    let place : set_place c.args.k + 0 ≡ set_place c.args.k = omega arith in
    let is : c.word_of.result ≡ c.requires.held.0.number = c.word_of.ensures.value ∙ ap (slice_index c.args.e.now) place ∙ number_word c.args.e.now c.args.k c.requires.held.0 c.requires.held.1 in
    ap Some (c.job_no.ensures ∙ is) ∙ sym (ap (option_map (λ (r : HeldJob). r.number)) c.requires.held.1)
