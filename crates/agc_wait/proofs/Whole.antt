-- A lawful table, one part after the other.
use Rattle.std.proofs.Common.{◌≡◌, ℕ, ◌+◌, ◌-◌, ◌*◌, ◌<◌, ◌≤◌, List, [], ◌∷◌, length, slice_index, refl, ap, sym, subst, ◌∙◌, inl, inr, arith}
use Rattle.std.proofs.lemmas.Bool.{cases_eq, cases_lt}
use Rattle.std.proofs.lemmas.List.Elements.{All-get_or, All-from_get_or}
use Rattle.agc_word.specs.Layout as layout
use Rattle.agc_plan.specs.Tasks.{Waiting}
use Rattle.agc_wait.specs.Table.{IsLawfulTable, waits_of, time3, lst1, at_in, gap_of}
use Rattle.agc_wait.specs.Parts.{distance_of}
use Rattle.agc_wait.specs.Writing.{no_task, distance_in}
use Rattle.agc_wait.specs.Parts.{AreTasks, AreWords, IsBlankBehind, IsCounter, IsGap}
use Rattle.agc_wait.proofs.Places.{at_each_place}
use Rattle.agc_wait.proofs.Tables.{read_as}

-- all parts together
pub record AreParts (words : List ℕ) (n : ℕ) : Type 0 where
  pub are_words : AreWords words
  pub counter : IsCounter words
  pub tasks : AreTasks words n
  pub blank : IsBlankBehind words n

pub whole : (words : List ℕ) (n : ℕ) → n ≡ length (waits_of words) → AreParts words n → IsLawfulTable words
whole words n is parts = record {
  word = parts.are_words;
  counter = parts.counter.0;
  idle = λ none. parts.counter.1 (ap (λ (l : List Waiting). length l) none);
  near = All-from_get_or (λ (w : Waiting). w.distance ≤ 16250) (waits_of words) no_task (λ k lt. parts.tasks.near k (omega arith));
  address = λ k lt. elim (cases_lt k n) [
    | inl some ↦ parts.tasks.address k some
    | inr none ↦ let at : at_in words k ≡ 0 = parts.blank.1 (layout.lst2 + 2 * k) (omega arith) (omega arith) in omega arith
  ];
  gap = λ k lt. parts.tasks.gap k (omega arith) lt;
  no_gap = λ k le lt. parts.blank.0 (layout.lst1 + k) (omega arith) (omega arith);
  no_task = λ k le lt. (parts.blank.1 (layout.lst2 + 2 * k) (omega arith) (omega arith), parts.blank.1 (layout.lst2 + 1 + 2 * k) (omega arith) (omega arith));
}

pub parts_of : (words : List ℕ) (n : ℕ) → n ≡ length (waits_of words) → IsLawfulTable words → AreParts words n
parts_of words n is lawful =
    let nine : length (waits_of words) ≤ 9 = (read_as words).short in
    record {
      are_words = lawful.word;
      counter = (lawful.counter, λ none. lawful.idle (empty (waits_of words) none));
      tasks = record {
        near = λ k lt. All-get_or (λ (w : Waiting). w.distance ≤ 16250) (waits_of words) k no_task (omega arith) lawful.near;
        address = λ k lt. lawful.address k (omega arith);
        gap = λ k lt more. lawful.gap k more;
      };
      blank = (
        λ i from to.
            let place : layout.lst1 + (i - layout.lst1) ≡ i = omega arith in
            ap (slice_index words) (sym place) ∙ lawful.no_gap (i - layout.lst1) (omega arith) (omega arith),
        λ i from to.
            at_each_place (λ j. layout.lst2 + 2 * n ≤ j → slice_index words j ≡ 0)
            (λ le. absurd (omega arith))
            (λ k lt le. absurd (omega arith))
            (λ k lt le. (lawful.no_task k (omega arith) lt).0)
            (λ k lt le. (lawful.no_task k (omega arith) lt).1)
            i (omega arith, to) from,
      );
    }
  where
    empty : (ws : List Waiting) → length ws ≡ 0 → ws ≡ []
    empty [] e = refl
    empty (w ∷ ws) e = absurd (omega arith)

-- so far no task was out of its range, nor is the next
pub AreTasks-more : (words : List ℕ) (k n distance gap : ℕ) → n ≡ length (waits_of words) → k < n → distance ≡ distance_in words k → distance ≤ 16250 → at_in words k < 16384 → (k + 1 < n → IsGap (lst1 words k)) → gap ≡ gap_of (lst1 words k) → AreTasks words k → AreTasks words (k + 1) × (k + 1 < n → distance + gap ≡ distance_in words (k + 1))
AreTasks-more words k n distance gap n_is lt is near address legal gap_is tasks = (
  record {
    near = λ j less. elim (cases_eq j k) [
      | inl e ↦ let same : distance_in words j ≡ distance_in words k = ap (distance_in words) e in omega arith
      | inr ne ↦ tasks.near j (omega arith)
    ];
    address = λ j less. elim (cases_eq j k) [
      | inl e ↦ let same : at_in words j ≡ at_in words k = ap (at_in words) e in omega arith
      | inr ne ↦ tasks.address j (omega arith)
    ];
    gap = λ j less more. elim (cases_eq j k) [
      | inl e ↦ subst (λ (i : ℕ). IsGap (lst1 words i)) (sym e) (legal (omega arith))
      | inr ne ↦ tasks.gap j (omega arith) more
    ];
  },
  λ more.
      let step : distance_in words (k + 1) ≡ distance_in words k + gap_of (lst1 words k) = (read_as words).next k (omega arith) in
      omega arith,
)

AreTasks-none : (words : List ℕ) → AreTasks words 0
AreTasks-none words = record { near = λ k lt. absurd (omega arith); address = λ k lt. absurd (omega arith); gap = λ k lt. absurd (omega arith) }

pub AreTasks-start : (words : List ℕ) (n distance : ℕ) → n ≡ length (waits_of words) → distance ≡ distance_of (time3 words) → AreTasks words 0 × (0 < n → distance ≡ distance_in words 0)
AreTasks-start words n distance n_is is = (AreTasks-none words, λ some. is ∙ sym ((read_as words).first (omega arith)))
