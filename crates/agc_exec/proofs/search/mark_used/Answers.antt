use Rattle.std.proofs.Common.{◌≡◌, ◌≤◌, ◌∙◌, arith, length, None, slice_index_or}
use Rattle.agc_word.specs.Layout.{sets_in}
use Rattle.agc_exec.specs.Sets.{number_in}
use Rattle.agc_exec.specs.Image.{sets_of}
use Rattle.agc_exec.proofs.Decoding.{length-sets}
use Rattle.agc_exec.proofs.Freeing.{IsFirstFree-none, IsFirstFree-more}
use Rattle.agc_exec.proofs.Ranks.{IsMarked-none, IsMarked-more, entry_range}
use Rattle.agc_exec.proofs.search.mark_used.Goals as goal

pub loop-k-init : goal.loop-k-init
loop-k-init c = record { marked = rw c.requires.blank (IsMarked-none (sets_of c.args.e.now)); free = IsFirstFree-none (sets_of c.args.e.now) }

pub bounds-used-number : goal.bounds-used-number
bounds-used-number c =
    let len : length (sets_of c.args.e.now) ≡ sets_in c.args.e.now = length-sets c.args.e.now in
    let range : number_in (slice_index_or (sets_of c.args.e.now) c.loop-k.k None) ≤ length (sets_of c.args.e.now) = entry_range (sets_of c.args.e.now) c.loop-k.k c.requires.lawful in
    omega arith

pub loop-k-preserved : goal.loop-k-preserved
loop-k-preserved c =
    let len : length (sets_of c.args.e.now) ≡ sets_in c.args.e.now = length-sets c.args.e.now in
    let range : number_in (slice_index_or (sets_of c.args.e.now) c.loop-k.k None) ≤ length (sets_of c.args.e.now) = entry_range (sets_of c.args.e.now) c.loop-k.k c.requires.lawful in
    record {
      marked = IsMarked-more (sets_of c.args.e.now) c.loop-k.k c.entry-number.result c.loop-k.used c.entry-number.ensures (omega arith) c.loop-k.invariant.marked;
      free = rw c.earlier-free.ensures (IsFirstFree-more (sets_of c.args.e.now) c.loop-k.k c.loop-k.free c.entry-number.result (omega arith) c.entry-number.ensures c.loop-k.invariant.free);
    }

pub bounds-used-number-in-Eight : goal.bounds-used-number-in-Eight
bounds-used-number-in-Eight c =
    let len : length (sets_of c.args.e.now) ≡ sets_in c.args.e.now = length-sets c.args.e.now in
    let range : number_in (slice_index_or (sets_of c.args.e.now) 7 None) ≤ length (sets_of c.args.e.now) = entry_range (sets_of c.args.e.now) 7 c.requires.lawful in
    omega arith

pub returns-in-Seven-clause-used : goal.returns-in-Seven-clause-used
returns-in-Seven-clause-used c =
    let len : length (sets_of c.args.e.now) ≡ c.loop-k.k = length-sets c.args.e.now ∙ (omega arith) in
    rw len c.loop-k.invariant.marked

pub returns-in-Seven-clause-free : goal.returns-in-Seven-clause-free
returns-in-Seven-clause-free c =
    let len : length (sets_of c.args.e.now) ≡ c.loop-k.k = length-sets c.args.e.now ∙ (omega arith) in
    rw len c.loop-k.invariant.free

pub returns-in-Eight-clause-used : goal.returns-in-Eight-clause-used
returns-in-Eight-clause-used c =
    let all : length (sets_of c.args.e.now) ≡ sets_in c.args.e.now = length-sets c.args.e.now in
    let range : number_in (slice_index_or (sets_of c.args.e.now) 7 None) ≤ length (sets_of c.args.e.now) = entry_range (sets_of c.args.e.now) 7 c.requires.lawful in
    let len : length (sets_of c.args.e.now) ≡ 8 = length-sets c.args.e.now ∙ (omega arith) in
    let seven : c.loop-k.k ≡ 7 = omega arith in
    rw len (IsMarked-more (sets_of c.args.e.now) 7 c.entry-number-in-Eight.result c.loop-k.used c.entry-number-in-Eight.ensures (omega arith) (rw seven at c.loop-k.invariant.marked))

pub returns-in-Eight-clause-free : goal.returns-in-Eight-clause-free
returns-in-Eight-clause-free c =
    let len : length (sets_of c.args.e.now) ≡ 8 = length-sets c.args.e.now ∙ (omega arith) in
    let seven : c.loop-k.k ≡ 7 = omega arith in
    rw (len, c.earlier.ensures) (IsFirstFree-more (sets_of c.args.e.now) 7 c.loop-k.free c.entry-number-in-Eight.result (omega arith) c.entry-number-in-Eight.ensures (rw seven at c.loop-k.invariant.free))
