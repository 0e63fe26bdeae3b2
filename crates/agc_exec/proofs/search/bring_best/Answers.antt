use Rattle.std.proofs.Common.{◌≡◌, ◌<◌, ◌∙◌, ap, arith, length, swap, Some, ◌%◌}
use Rattle.agc_word.specs.Layout.{sets_in}
use Rattle.agc_plan.specs.Jobs.{best}
use Rattle.agc_plan.specs.Places.{place_of}
use Rattle.agc_exec.specs.Blocks.{blocks_of}
use Rattle.agc_exec.specs.Sets.{slots_of, entries_of}
use Rattle.agc_exec.specs.Image.{sets_of}
use Rattle.agc_exec.proofs.Bests.{BringsBest-swap, BringsBest-none, best-is, best-none, place_of_number}
use Rattle.agc_exec.proofs.Decoding.{length-sets, length-sets_of, sets_of-swap}
use Rattle.agc_exec.proofs.Swaps.{Holds-within}
use Rattle.agc_exec.proofs.search.bring_best.Goals as goal

pub returns-then-best-gt0-clause-brings : goal.returns-then-best-gt0-clause-brings
returns-then-best-gt0-clause-brings c =
    let (r, is, priority) = c.best_rank-best.ensures.found (omega arith) in
    let lt : c.best_rank-best.result % 8 < length (sets_of c.args.e.now) = Holds-within (sets_of c.args.e.now) (c.best_rank-best.result % 8) r is.here in
    let same : length (sets_of c.args.e.now) ≡ length (blocks_of c.args.e.now) = length-sets_of c.args.e.now in
    let swapped : sets_of c.exchange.new.e ≡ swap (sets_of c.args.e.now) 0 (c.best_rank-best.result % 8) = sets_of-swap c.args.e.now c.exchange.new.e (c.best_rank-best.result % 8) (omega arith) (c.exchange.ensures.blocks ∙ ap (swap (blocks_of c.args.e.now) 0) c.set_of_rank.ensures) in
    rw swapped (BringsBest-swap (sets_of c.args.e.now) (c.best_rank-best.result % 8) r c.requires.lawful is)

pub returns-then-best-gt0-clause-blocks : goal.returns-then-best-gt0-clause-blocks
returns-then-best-gt0-clause-blocks c =
    let (r, is, priority) = c.best_rank-best.ensures.found (omega arith) in
    let best_is : best (slots_of (sets_of c.args.e.now)) ≡ Some r.number = best-is (sets_of c.args.e.now) (c.best_rank-best.result % 8) r c.requires.lawful is in
    let place : place_of r.number (entries_of (sets_of c.args.e.now)) ≡ c.best_rank-best.result % 8 = place_of_number (sets_of c.args.e.now) (c.best_rank-best.result % 8) r c.requires.lawful is.here in
    rw (best_is, place) (c.exchange.ensures.blocks ∙ ap (swap (blocks_of c.args.e.now) 0) c.set_of_rank.ensures)

pub returns-else-best-gt0-clause-brings : goal.returns-else-best-gt0-clause-brings
returns-else-best-gt0-clause-brings c = BringsBest-none (sets_of c.args.e.now) c.requires.lawful (c.best_rank-best.ensures.nobody (omega arith))

pub returns-else-best-gt0-clause-blocks : goal.returns-else-best-gt0-clause-blocks
returns-else-best-gt0-clause-blocks c = rw (best-none (sets_of c.args.e.now) c.requires.lawful (c.best_rank-best.ensures.nobody (omega arith)))

pub exchange-requires-clause-set : goal.exchange-requires-clause-set
exchange-requires-clause-set c =
    let (r, is, priority) = c.best_rank-best.ensures.found (omega arith) in
    let len : length (sets_of c.args.e.now) ≡ sets_in c.args.e.now = length-sets c.args.e.now in
    let lt : c.best_rank-best.result % 8 < length (sets_of c.args.e.now) = Holds-within (sets_of c.args.e.now) (c.best_rank-best.result % 8) r is.here in
    omega arith
