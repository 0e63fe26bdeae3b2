use Rattle.std.proofs.Common.{◌≡◌, ◌+◌, ◌<◌, ◌≤◌, ◌/◌, ◌∙◌, ℕ, List, sym, arith, length, slice_index}
use Rattle.agc_word.specs.Layout as layout
use Rattle.agc_word.specs.Layout.{sets_in, set_place}
use Rattle.agc_exec.specs.Image.{priority_unit, sets_of}
use Rattle.agc_exec.specs.HeldJob.{HeldJob}
use Rattle.agc_exec.specs.Stages.{IsNewcomer}
use Rattle.agc_exec.proofs.Decoding.{length-sets}
use Rattle.agc_exec.proofs.Leads.{awake_words}
use Rattle.agc_exec.proofs.Newcomers.{Names, names_of, with-behind, with-ahead, with-same, with-lower, with-higher}
use Rattle.agc_exec.proofs.Swaps.{Holds-within}
use Rattle.agc_exec.proofs.newjob.newjob_with.Goals as goal

-- the words of both jobs, and what they say
record Compares (words : List ℕ) (k w : ℕ) (n : Names words k) (comer : HeldJob) : Type 0 where
  pub named : w ≡ slice_index words layout.newjob
  pub priority_named : n.named.priority ≡ slice_index words (set_place (w / 12) + 11) / priority_unit
  pub number_named : n.named.number ≡ slice_index words (set_place (w / 12) + 0)
  pub priority : comer.priority ≡ slice_index words (set_place k + 11) / priority_unit
  pub number : comer.number ≡ slice_index words (set_place k + 0)
  pub within : w / 12 < sets_in words

compares : (words : List ℕ) (k w : ℕ) → (c : IsNewcomer words k) → (n : Names words k) → k < sets_in words → w ≡ slice_index words layout.newjob → Compares words k w n c.comer
compares words k w c n lt is =
    let len : length (sets_of words) ≡ sets_in words = length-sets words in
    let within : slice_index words layout.newjob / 12 < length (sets_of words) = Holds-within (sets_of words) (slice_index words layout.newjob / 12) n.named n.here in
    let (low_n, priority_n, number_n) = awake_words words (slice_index words layout.newjob / 12) n.named (omega arith) n.here n.awake in
    let (low_c, priority_c, number_c) = awake_words words k c.comer lt c.here c.awake in
    record {
      named = is;
      priority_named = rw is priority_n;
      number_named = rw is number_n;
      priority = priority_c;
      number = number_c;
      within = rw is (omega arith);
    }

-- what the words' order says of the jobs'
behind : (words : List ℕ) (k w : ℕ) (n : Names words k) (comer : HeldJob) → Compares words k w n comer → (u v : ℕ) → u ≡ slice_index words (set_place k + 11) → v ≡ slice_index words (set_place (w / 12) + 11) → u / 512 < v / 512 → comer.priority < n.named.priority
behind words k w n comer x u v a b lt = rw (x.priority, x.priority_named, ← a, ← b) lt

ahead : (words : List ℕ) (k w : ℕ) (n : Names words k) (comer : HeldJob) → Compares words k w n comer → (u v : ℕ) → u ≡ slice_index words (set_place k + 11) → v ≡ slice_index words (set_place (w / 12) + 11) → v / 512 < u / 512 → n.named.priority < comer.priority
ahead words k w n comer x u v a b lt = rw (x.priority, x.priority_named, ← a, ← b) lt

same : (words : List ℕ) (k w : ℕ) (n : Names words k) (comer : HeldJob) → Compares words k w n comer → (u v : ℕ) → u ≡ slice_index words (set_place k + 11) → v ≡ slice_index words (set_place (w / 12) + 11) → v / 512 ≡ u / 512 → n.named.priority ≡ comer.priority
same words k w n comer x u v a b e = rw (x.priority, x.priority_named, ← a, ← b) e

lower : (words : List ℕ) (k w : ℕ) (n : Names words k) (comer : HeldJob) → Compares words k w n comer → (u v : ℕ) → u ≡ slice_index words (set_place k + 0) → v ≡ slice_index words (set_place (w / 12) + 0) → v < u → n.named.number < comer.number
lower words k w n comer x u v a b lt = rw (x.number, x.number_named, ← a, ← b) lt

higher : (words : List ℕ) (k w : ℕ) (n : Names words k) (comer : HeldJob) → Compares words k w n comer → (u v : ℕ) → u ≡ slice_index words (set_place k + 0) → v ≡ slice_index words (set_place (w / 12) + 0) → u ≤ v → comer.number ≤ n.named.number
higher words k w n comer x u v a b le = rw (x.number, x.number_named, ← a, ← b) le

pub word_of-other-requires-clause-set : goal.word_of-other-requires-clause-set
word_of-other-requires-clause-set c =
    let n : Names c.args.e.now c.args.k = names_of c.args.e.now c.args.k c.requires.newcomer in
    let x : Compares c.args.e.now c.args.k c.bits-named.result n c.requires.newcomer.comer = compares c.args.e.now c.args.k c.bits-named.result c.requires.newcomer n (omega arith) (c.bits-named.ensures.value ∙ c.get.ensures.value) in
    let within : c.bits-named.result / 12 < sets_in c.args.e.now = x.within in
    omega arith

pub word_of-number-requires-clause-set : goal.word_of-number-requires-clause-set
word_of-number-requires-clause-set c =
    let n : Names c.args.e.now c.args.k = names_of c.args.e.now c.args.k c.requires.newcomer in
    let x : Compares c.args.e.now c.args.k c.bits-named.result n c.requires.newcomer.comer = compares c.args.e.now c.args.k c.bits-named.result c.requires.newcomer n (omega arith) (c.bits-named.ensures.value ∙ c.get.ensures.value) in
    let within : c.bits-named.result / 12 < sets_in c.args.e.now = x.within in
    omega arith

pub returns-then-urgency-other-clause-value : goal.returns-then-urgency-other-clause-value
returns-then-urgency-other-clause-value c =
    let n : Names c.args.e.now c.args.k = names_of c.args.e.now c.args.k c.requires.newcomer in
    let x : Compares c.args.e.now c.args.k c.bits-named.result n c.requires.newcomer.comer = compares c.args.e.now c.args.k c.bits-named.result c.requires.newcomer n (omega arith) (c.bits-named.ensures.value ∙ c.get.ensures.value) in
    x.named ∙ sym (with-behind c.args.e.now c.args.k c.requires.newcomer c.requires.set.standing.lawful n (behind c.args.e.now c.args.k c.bits-named.result n c.requires.newcomer.comer x c.word_of-urgency.result c.word_of-other.result c.word_of-urgency.ensures.value c.word_of-other.ensures.value (omega arith)))

pub returns-then-urgency-other-2-clause-value : goal.returns-then-urgency-other-2-clause-value
returns-then-urgency-other-2-clause-value c =
    let n : Names c.args.e.now c.args.k = names_of c.args.e.now c.args.k c.requires.newcomer in
    let x : Compares c.args.e.now c.args.k c.bits-named.result n c.requires.newcomer.comer = compares c.args.e.now c.args.k c.bits-named.result c.requires.newcomer n (omega arith) (c.bits-named.ensures.value ∙ c.get.ensures.value) in
    sym (with-ahead c.args.e.now c.args.k c.requires.newcomer c.requires.set.standing.lawful n (ahead c.args.e.now c.args.k c.bits-named.result n c.requires.newcomer.comer x c.word_of-urgency.result c.word_of-other.result c.word_of-urgency.ensures.value c.word_of-other.ensures.value (omega arith)))

pub returns-then-j-eq0-clause-value : goal.returns-then-j-eq0-clause-value
returns-then-j-eq0-clause-value c =
    let n : Names c.args.e.now c.args.k = names_of c.args.e.now c.args.k c.requires.newcomer in
    let x : Compares c.args.e.now c.args.k c.bits-named.result n c.requires.newcomer.comer = compares c.args.e.now c.args.k c.bits-named.result c.requires.newcomer n (omega arith) (c.bits-named.ensures.value ∙ c.get.ensures.value) in
    let named : c.bits-named.result ≡ slice_index c.args.e.now layout.newjob = x.named in
    x.named ∙ sym (with-same c.args.e.now c.args.k c.requires.newcomer c.requires.set.standing.lawful n (same c.args.e.now c.args.k c.bits-named.result n c.requires.newcomer.comer x c.word_of-urgency.result c.word_of-other.result c.word_of-urgency.ensures.value c.word_of-other.ensures.value (omega arith)) (omega arith))

pub returns-then-number-word_of-clause-value : goal.returns-then-number-word_of-clause-value
returns-then-number-word_of-clause-value c =
    let n : Names c.args.e.now c.args.k = names_of c.args.e.now c.args.k c.requires.newcomer in
    let x : Compares c.args.e.now c.args.k c.bits-named.result n c.requires.newcomer.comer = compares c.args.e.now c.args.k c.bits-named.result c.requires.newcomer n (omega arith) (c.bits-named.ensures.value ∙ c.get.ensures.value) in
    let named : c.bits-named.result ≡ slice_index c.args.e.now layout.newjob = x.named in
    x.named ∙ sym (with-lower c.args.e.now c.args.k c.requires.newcomer c.requires.set.standing.lawful n (same c.args.e.now c.args.k c.bits-named.result n c.requires.newcomer.comer x c.word_of-urgency.result c.word_of-other.result c.word_of-urgency.ensures.value c.word_of-other.ensures.value (omega arith)) (omega arith) (lower c.args.e.now c.args.k c.bits-named.result n c.requires.newcomer.comer x c.word_of.result c.word_of-number.result c.word_of.ensures.value c.word_of-number.ensures.value (omega arith)))

pub returns-clause-value : goal.returns-clause-value
returns-clause-value c =
    let n : Names c.args.e.now c.args.k = names_of c.args.e.now c.args.k c.requires.newcomer in
    let x : Compares c.args.e.now c.args.k c.bits-named.result n c.requires.newcomer.comer = compares c.args.e.now c.args.k c.bits-named.result c.requires.newcomer n (omega arith) (c.bits-named.ensures.value ∙ c.get.ensures.value) in
    let named : c.bits-named.result ≡ slice_index c.args.e.now layout.newjob = x.named in
    sym (with-higher c.args.e.now c.args.k c.requires.newcomer c.requires.set.standing.lawful n (same c.args.e.now c.args.k c.bits-named.result n c.requires.newcomer.comer x c.word_of-urgency.result c.word_of-other.result c.word_of-urgency.ensures.value c.word_of-other.ensures.value (omega arith)) (omega arith) (higher c.args.e.now c.args.k c.bits-named.result n c.requires.newcomer.comer x c.word_of.result c.word_of-number.result c.word_of.ensures.value c.word_of-number.ensures.value (omega arith)))
