use Rattle.std.proofs.Common.{◌≡◌, ◌+◌, ◌*◌, ◌++◌, length, take}
use Rattle.agc_text.specs.Replies.{words_text}
use Rattle.agc_text.proofs.numerals.add_words.Given as goal

abbrev pub invariant-loop-word : goal.invariant-loop-word
invariant-loop-word l = record {
  text : l.line.bytes ≡ l.initial.line.bytes ++ words_text (take l.word-index l.words);
  len : length l.line.bytes ≡ length l.initial.line.bytes + 6 * l.word-index;
}
