use Rattle.std.proofs.Common.{◌≡◌, ◌+◌, ◌++◌, ◌<◌, ℕ, All, length, true, nat_eq}
use Rattle.std.specs.List.{IsDistinct, list_any}
use Rattle.std.specs.Vec.Iter.{into_iter_items, into_iter_len}
use Rattle.agc_desk.specs.Books.{told_to}
use Rattle.agc_desk.specs.History.{calls_by, numbers_of}
use Rattle.agc_desk.proofs.desk.take_all_back.Given as goal

abbrev pub invariant-loop-share : goal.invariant-loop-share
invariant-loop-share g l = record {
  rest : l.yielded ++ into_iter_items l.share-iterator ≡ into_iter_items l.initial.share-iterator;
  left_over : into_iter_len l.share-iterator ≡ length (into_iter_items l.share-iterator);
  total : l.ledgers.total ≡ l.initial.ledgers.total;
  left : l.ledgers.left ≡ l.initial.ledgers.left + length l.yielded;
  back : l.ledgers.back ≡ told_to l.yielded;
  history : l.history ≡ record l.initial.history { gathered = numbers_of l.yielded };
  each : All (λ s. calls_by s.number l.initial.history.calls ≡ s.heard) l.yielded;
  apart : IsDistinct nat_eq (numbers_of l.yielded);
  below : (k : ℕ) → list_any (nat_eq k) (numbers_of l.yielded) ≡ true → k < l.initial.history.given;
}
