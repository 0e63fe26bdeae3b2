-- What is found of a document.
use Rattle.std.proofs.Common.{◌≡◌, ◌∙◌, ℕ, ◌+◌, ◌≤◌, ◌<◌, List, [], ◌∷◌, ◌++◌, length, map, take, get_or, sym, ap, ap₂, subst, append-nil, arith}
use Rattle.std.proofs.lemmas.List.{map-append, take_more, length_push}
use Rattle.std.proofs.lemmas.List.Elements.{All-nil, All-push}
use Rattle.std.proofs.lemmas.List.Sorted.{All-permutation, IsPermutation-refl, IsPermutation-map, IsPermutation-append}
use Rattle.std.specs.List.{All}
use Rattle.std.specs.List.Sorted.{IsNonDecreasingBy, IsPermutation}
use Rattle.agc_document.specs.declared.fault.BenchFault.{BenchFault}
use Rattle.agc_document.specs.declared.fault.BenchFault.TheVariants as refusal
use Rattle.agc_document.specs.declared.fault.BenchFault.TheVariants.{NoMemory, NotToml, Key, Line, TaskTwice, PhaseTwice, TooManyAreas}
use Rattle.agc_check.specs.Findings.{FindingView, IsFindingOf, AreFindingsOf, most_of, AreFindings, Message, message_of}

-- brought in order
pub in_order : (document : List ℕ) (k : BenchFault) (fs gs : List FindingView) → All (IsFindingOf document k) fs → IsPermutation fs gs → IsNonDecreasingBy (λ f. f.at) gs → AreFindingsOf document k gs
in_order document k fs gs all same order = record { all = All-permutation (IsFindingOf document k) fs gs same all; order = order }

none_found : (document : List ℕ) (k : BenchFault) → AreFindingsOf document k []
none_found document k = record { all = All-nil (IsFindingOf document k); order = λ i j d a l. absurd (omega (arith, l)) }

some_may : (k : BenchFault) → 1 ≤ most_of k
some_may NoMemory = omega arith
some_may NotToml = omega arith
some_may Key = omega arith
some_may Line = omega arith
some_may TaskTwice = omega arith
some_may PhaseTwice = omega arith
some_may TooManyAreas = omega arith

-- one alone
pub found_alone : (document : List ℕ) (k : BenchFault) (f : FindingView) (fs : List FindingView) → fs ≡ [] ++ f ∷ [] → IsFindingOf document k f → AreFindings document k fs
found_alone document k f fs is h = record {
  front = f ∷ [];
  texts = [];
  is = is;
  some = omega arith;
  few = some_may k;
  few_texts = omega arith;
  of_fault = record { all = All-push (IsFindingOf document k) [] f (All-nil (IsFindingOf document k)) h; order = λ i j d a l. let e : j ≡ i = omega (arith, a, l) in rw e (omega arith) };
  of_texts = none_found document refusal.Line;
}

-- some of one fault, and then texts, or none
pub found_front : (document : List ℕ) (fs : List FindingView) → 1 ≤ length fs → length fs ≤ 20 → AreFindingsOf document refusal.Line fs → AreFindings document refusal.Line fs
found_front document fs some few h = record {
  front = fs;
  texts = [];
  is = sym (append-nil fs);
  some = some;
  few = few;
  few_texts = omega arith;
  of_fault = h;
  of_texts = none_found document refusal.Line;
}

pub found_both : (document : List ℕ) (fs ts gs : List FindingView) → gs ≡ fs ++ ts → 1 ≤ length fs → length fs ≤ 20 → length ts ≤ 20 → AreFindingsOf document refusal.Key fs → AreFindingsOf document refusal.Line ts → AreFindings document refusal.Key gs
found_both document fs ts gs is some few few_texts h t = record { front = fs; texts = ts; is = is; some = some; few = few; few_texts = few_texts; of_fault = h; of_texts = t }

-- what one finding more says
pub says_more : {N : Type 0} (of : N → Message) (ns : List N) (i : ℕ) (d : N) (fs gs : List FindingView) (f : FindingView) → i < length ns → map message_of fs ≡ map of (take i ns) → message_of f ≡ of (get_or ns i d) → gs ≡ fs ++ f ∷ [] → map message_of gs ≡ map of (take (i + 1) ns)
says_more of ns i d fs gs f l is one more =
    ap (map message_of) more ∙ map-append message_of fs (f ∷ []) ∙ ap₂ (λ x y. x ++ y ∷ []) is one
    ∙ sym (ap (map of) (take_more ns i d l) ∙ map-append of (take i ns) (get_or ns i d ∷ []))

-- one finding more of a fault, and their number
pub found_more : (document : List ℕ) (k : BenchFault) (fs gs : List FindingView) (f : FindingView) → All (IsFindingOf document k) fs → IsFindingOf document k f → gs ≡ fs ++ f ∷ [] → All (IsFindingOf document k) gs
found_more document k fs gs f all one is = subst (All (IsFindingOf document k)) (sym is) (All-push (IsFindingOf document k) fs f all one)

pub more_found : (n : ℕ) (fs gs : List FindingView) (f : FindingView) → length fs ≡ n → gs ≡ fs ++ f ∷ [] → length gs ≡ n + 1
more_found n fs gs f so_far is = ap length is ∙ length_push fs f ∙ ap (λ m. m + 1) so_far

-- what findings say in another order, two lists of them, and one alone
pub says_in_order : (ss : List Message) (fs gs : List FindingView) → map message_of fs ≡ ss → IsPermutation fs gs → IsPermutation ss (map message_of gs)
says_in_order ss fs gs is same = subst (λ x. IsPermutation x (map message_of gs)) is (IsPermutation-map message_of fs gs same)

pub says_both : (ss ts : List Message) (fs gs hs : List FindingView) → hs ≡ fs ++ gs → IsPermutation ss (map message_of fs) → IsPermutation ts (map message_of gs) → IsPermutation (ss ++ ts) (map message_of hs)
says_both ss ts fs gs hs is first second =
    subst (λ x. IsPermutation (ss ++ ts) x) (sym (ap (map message_of) is ∙ map-append message_of fs gs)) (IsPermutation-append ss (map message_of fs) ts (map message_of gs) first second)

pub says_alone : (ss : List Message) (fs : List FindingView) → map message_of fs ≡ ss → IsPermutation ss (map message_of fs)
says_alone ss fs is = subst (λ x. IsPermutation ss x) (sym is) (IsPermutation-refl ss)
