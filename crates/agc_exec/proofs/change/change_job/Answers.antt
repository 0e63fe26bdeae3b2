use Rattle.std.proofs.Common.{◌≡◌, ◌∙◌, ap, sym, inl, inr, arith, rules, option_map}
use Rattle.std.proofs.lemmas.Bool.{cases_eq}
use Rattle.std.proofs.lemmas.Option.{same_Some}
use Rattle.agc_word.specs.Layout.{IsSized}
use Rattle.agc_exec.specs.Calls.{fronted_blocks}
use Rattle.agc_plan.specs.Jobs.{change}
use Rattle.agc_plan.specs.Places.{fronted}
use Rattle.agc_plan.specs.declared.reply.Reply.TheVariants.{Runs}
use Rattle.agc_exec.specs.Blocks.{blocks_of}
use Rattle.agc_exec.specs.HeldJob.{HeldJob}
use Rattle.agc_exec.specs.Sets.{Holds}
use Rattle.agc_exec.specs.Image.{sets_of, jobs_in, entries_in}
use Rattle.agc_exec.specs.Stages.{Waits}
use Rattle.agc_exec.proofs.Decoding.{IsSized-kept}
use Rattle.agc_exec.proofs.Finishing.{finish, Renewed}
use Rattle.agc_exec.proofs.Named.{Changes, Changes-made, Does-stays, Near-change, Renewed-set}
use Rattle.agc_exec.proofs.change.change_job.Goals as goal

pub number_in_set-number-requires-clause-held : goal.number_in_set-number-requires-clause-held
number_in_set-number-requires-clause-held c =
    let (job, here, awake) = c.somebody_runs.ensures.runs (search rules) in
    elim (cases_eq c.named_set-k.result 0) [
      | inl zero_is ↦ rw zero_is (job, here)
      | inr ne ↦ let waits : Waits (sets_of c.args.e.now) job c.named_set-k.result = c.named_set-k.ensures.gives_way (omega arith) job here awake in (waits.first, waits.best.here)
    ]

pub returns-then-k-eq0 : goal.returns-then-k-eq0
returns-then-k-eq0 c =
    let (job, here, awake) = c.somebody_runs.ensures.runs (search rules) in
    let at : Holds (sets_of c.args.e.now) c.named_set-k.result job = rw c.if-k-eq0.true here in
    let number : c.number_in_set-number.result ≡ job.number = same_Some _ _ (c.number_in_set-number.ensures ∙ ap (option_map (λ (r : HeldJob). r.number)) at) in
    rw number (Does-stays c.args.e.now job c.requires here awake (c.named_set-k.ensures.stays c.if-k-eq0.true job here awake))

pub returns : goal.returns
returns c =
    let (job, here, awake) = c.somebody_runs.ensures.runs (search rules) in
    let waits : Waits (sets_of c.args.e.now) job c.named_set-k.result = c.named_set-k.ensures.gives_way (omega arith) job here awake in
    let changes : Changes c.args.e.now c.exchange.new.e job c.named_set-k.result c.number_in_set-number.result =
    Changes-made c.args.e.now c.exchange.new.e job c.named_set-k.result c.number_in_set-number.result c.requires (here, awake) waits c.number_in_set-number.ensures c.exchange.ensures.blocks in
    let sized : IsSized c.exchange.new.e = IsSized-kept c.args.e.now c.exchange.new.e c.exchange.ensures.others.same_length c.requires.sets.sized in
    let renewed : Renewed c.exchange.new.e c.set.new.self = rw c.set.ensures.value (Renewed-set c.exchange.new.e c.zero.result sized (c.zero.ensures ∙ sym changes.newjob)) in
    finish c.args.e.now c.exchange.new.e c.set.new.self (change (jobs_in c.args.e.now)) (λ running. fronted running (entries_in c.args.e.now)) (λ running. fronted_blocks running (entries_in c.args.e.now) (blocks_of c.args.e.now)) (Runs c.number_in_set-number.result) c.requires.sets.sized
    (Near-change c.args.e.now c.exchange.new.e job c.named_set-k.result c.number_in_set-number.result c.requires (here, awake) changes c.exchange.ensures.blocks c.exchange.ensures.others)
    renewed
