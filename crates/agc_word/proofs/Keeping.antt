-- Words that keep what stands at places of one kind.
use Rattle.std.proofs.Common.{ℕ, List, slice_set, refl, subst, ◌∙◌}
use Rattle.std.proofs.lemmas.List.{get_or-set_other, length-set}
use Rattle.agc_word.specs.Layout.{Keeps}

pub kept : (P : ℕ → Type 0) (words : List ℕ) → Keeps P words words
kept P words = record { same_length = refl; words = λ place is. refl }

pub kept_twice : (P : ℕ → Type 0) (a b c : List ℕ) → Keeps P a b → Keeps P b c → Keeps P a c
kept_twice P a b c first then =
    record { same_length = then.same_length ∙ first.same_length; words = λ place is. then.words place is ∙ first.words place is }

-- what is kept at more places is kept at fewer
pub kept_also : (P Q : ℕ → Type 0) (a b : List ℕ) → ((place : ℕ) → Q place → P place) → Keeps P a b → Keeps Q a b
kept_also P Q a b also kept = record { same_length = kept.same_length; words = λ place is. kept.words place (also place is) }

-- a word at another place was set
pub kept_set : (P : ℕ → Type 0) (words : List ℕ) (i w : ℕ) → (P i → ⊥) → Keeps P words (slice_set words i w)
kept_set P words i w outside = record {
  same_length = length-set words i w;
  words = λ place is. get_or-set_other words i place w 0 (λ e. outside (subst P e is));
}
