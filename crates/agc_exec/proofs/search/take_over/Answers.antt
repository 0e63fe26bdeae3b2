use Rattle.std.proofs.Common.{◌≡◌, ◌<◌, arith, length, swap, Some}
use Rattle.agc_plan.specs.Jobs.{best}
use Rattle.agc_plan.specs.Places.{place_of}
use Rattle.agc_exec.specs.Sets.{slots_of, entries_of}
use Rattle.agc_exec.specs.Image.{sets_of}
use Rattle.agc_exec.specs.Blocks.{blocks_of}
use Rattle.agc_exec.proofs.Bests.{BringsBest-swap, best-is, place_of_number}
use Rattle.agc_exec.proofs.Decoding.{length-sets_of, sets_of-swap}
use Rattle.agc_exec.proofs.Swaps.{Holds-within}
use Rattle.agc_exec.proofs.search.take_over.Goals as goal

pub returns-then-not-ran-clause-idle : goal.returns-then-not-ran-clause-idle
returns-then-not-ran-clause-idle c idle =
    let (r, is) = c.requires.best idle in
    let lt : c.args.k < length (sets_of c.args.e.now) = Holds-within (sets_of c.args.e.now) c.args.k r is.here in
    let same : length (sets_of c.args.e.now) ≡ length (blocks_of c.args.e.now) = length-sets_of c.args.e.now in
    let swapped : sets_of c.exchange.new.e ≡ swap (sets_of c.args.e.now) 0 c.args.k = sets_of-swap c.args.e.now c.exchange.new.e c.args.k (omega arith) c.exchange.ensures.blocks in
    rw swapped (BringsBest-swap (sets_of c.args.e.now) c.args.k r c.requires.lawful is)

pub returns-then-not-ran-clause-idle_blocks : goal.returns-then-not-ran-clause-idle_blocks
returns-then-not-ran-clause-idle_blocks c idle =
    let (r, is) = c.requires.best idle in
    let best_is : best (slots_of (sets_of c.args.e.now)) ≡ Some r.number = best-is (sets_of c.args.e.now) c.args.k r c.requires.lawful is in
    let place : place_of r.number (entries_of (sets_of c.args.e.now)) ≡ c.args.k = place_of_number (sets_of c.args.e.now) c.args.k r c.requires.lawful is.here in
    rw (best_is, place) c.exchange.ensures.blocks
