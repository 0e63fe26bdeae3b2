use Rattle.std.proofs.Common.{rules}
use Rattle.agc_exec.specs.Calls.{blocks_end}
use Rattle.agc_plan.specs.Jobs.{end_of_job}
use Rattle.agc_plan.specs.Places.{placed_end}
use Rattle.agc_plan.specs.declared.reply.Reply.TheVariants.{Left}
use Rattle.agc_exec.specs.Blocks.{blocks_of}
use Rattle.agc_exec.specs.Image.{sets_of, jobs_in, entries_in}
use Rattle.agc_exec.specs.Sets.{running_in}
use Rattle.agc_exec.proofs.Decoding.{IsSized-kept}
use Rattle.agc_exec.proofs.Finishing.{finish, sets_of-same}
use Rattle.agc_exec.proofs.Ending.{Near-end}
use Rattle.agc_exec.proofs.leave.end_of_job.Goals as goal

pub note_best_runs-requires : goal.note_best_runs-requires
note_best_runs-requires c = record {
  set = record {
    sized = IsSized-kept c.end_front-number.new.e c.release_area.new.e c.release_area.ensures.others.same_length (IsSized-kept c.args.e.now c.end_front-number.new.e c.end_front-number.ensures.others.same_length c.requires.sets.sized);
    coded = rw c.release_area.ensures.words c.end_front-number.ensures.coded;
    standing = rw (sets_of-same c.end_front-number.new.e c.release_area.new.e c.release_area.ensures.words) c.end_front-number.ensures.gives.standing;
  };
  first = rw (sets_of-same c.end_front-number.new.e c.release_area.new.e c.release_area.ensures.words) c.end_front-number.ensures.first;
}

pub returns : goal.returns
returns c =
    let (job, here, awake) = c.somebody_runs.ensures.runs (search rules) in
    finish c.args.e.now c.release_area.new.e c.note_best_runs.new.e (end_of_job (jobs_in c.args.e.now)) (λ running. placed_end (running_in (sets_of c.args.e.now)) running (entries_in c.args.e.now)) (λ running. blocks_end (running_in (sets_of c.args.e.now)) running (entries_in c.args.e.now) (blocks_of c.args.e.now)) (Left c.end_front-number.result) c.requires.sets.sized
    (Near-end c.args.e.now c.end_front-number.new.e c.release_area.new.e job (Left c.end_front-number.result) c.requires (here, awake) c.end_front-number.ensures.gives c.end_front-number.ensures.words c.end_front-number.ensures.coded c.end_front-number.ensures.others c.release_area.ensures.words (rw (c.front_area-area.ensures.area job here) at c.release_area.ensures.uses) c.release_area.ensures.others)
    (record { words = c.note_best_runs.ensures.words; newjob = c.note_best_runs.ensures.newjob; uses = c.note_best_runs.ensures.uses; others = c.note_best_runs.ensures.others })
