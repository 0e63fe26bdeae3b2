use Rattle.std.proofs.Common.{rules}
use Rattle.agc_exec.specs.Calls.{blocks_changed, slept_block, front_block}
use Rattle.agc_plan.specs.Jobs.{sleep}
use Rattle.agc_plan.specs.Places.{fronted}
use Rattle.agc_plan.specs.declared.reply.Reply.TheVariants.{Left}
use Rattle.agc_exec.specs.Blocks.{blocks_of}
use Rattle.agc_exec.specs.Sets.{running_in}
use Rattle.agc_exec.specs.Image.{sets_of, jobs_in, entries_in}
use Rattle.agc_exec.proofs.Decoding.{IsSized-kept}
use Rattle.agc_exec.proofs.Finishing.{finish}
use Rattle.agc_exec.proofs.Turning.{Near-sleep}
use Rattle.agc_exec.proofs.leave.job_sleep.Goals as goal

pub note_best_runs-requires : goal.note_best_runs-requires
note_best_runs-requires c = record {
  set = record {
    sized = IsSized-kept c.args.e.now c.sleep_front-number.new.e c.sleep_front-number.ensures.others.same_length c.requires.sets.sized;
    coded = c.sleep_front-number.ensures.coded;
    standing = c.sleep_front-number.ensures.gives.standing;
  };
  first = c.sleep_front-number.ensures.first;
}

pub returns : goal.returns
returns c =
    let (job, here, awake) = c.somebody_runs.ensures.runs (search rules) in
    finish c.args.e.now c.sleep_front-number.new.e c.note_best_runs.new.e (sleep c.args.at (jobs_in c.args.e.now)) (λ running. fronted running (entries_in c.args.e.now)) (λ running. blocks_changed (running_in (sets_of c.args.e.now)) (slept_block c.args.at (front_block (blocks_of c.args.e.now))) running (entries_in c.args.e.now) (blocks_of c.args.e.now)) (Left c.sleep_front-number.result) c.requires.sets.sized
    (Near-sleep c.args.e.now c.sleep_front-number.new.e job c.args.at (Left c.sleep_front-number.result) c.requires (here, awake) c.sleep_front-number.ensures.gives c.sleep_front-number.ensures.words c.sleep_front-number.ensures.coded c.sleep_front-number.ensures.others)
    (record { words = c.note_best_runs.ensures.words; newjob = c.note_best_runs.ensures.newjob; uses = c.note_best_runs.ensures.uses; others = c.note_best_runs.ensures.others })
