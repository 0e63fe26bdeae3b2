-- Lines of a text.
use Rattle.std.proofs.Common.{◌≡◌, ◌≢◌, ℕ, suc, ◌<◌, List, [], ◌∷◌, ◌++◌, length, get_or, map, refl, ap, ◌∙◌, arith, length-append}
use Rattle.std.specs.List.{AllByRecursion}
use Rattle.agc_plan.specs.declared.request.Request.{Request}
use Rattle.agc_plan.specs.Ranges.{IsRequest}
use Rattle.agc_text.specs.Lines.{line_of}
use Rattle.agc_text.specs.Script.{put, lines_of, IsLine, IsFirstRefused}
use Rattle.agc_text.proofs.Cuts.{Lacks, eqb-false, lacks_by_index}

pub lines_at : (front back : List ℕ) → Lacks 10 front → lines_of (front ++ 10 ∷ back) ≡ front ∷ lines_of back
lines_at [] back h = refl
lines_at (c ∷ cs) back h = rw (eqb-false c 10 h.0, lines_at cs back h.1) refl

pub lines_last : (s : List ℕ) → Lacks 10 s → 0 < length s → lines_of s ≡ s ∷ []
lines_last [] h l = absurd (omega arith)
lines_last (c ∷ []) h l = rw (eqb-false c 10 h.0) refl
lines_last (c ∷ d ∷ ds) h l = rw (eqb-false c 10 h.0) (ap (put c) (lines_last (d ∷ ds) h.1 (omega arith)))

pub lines_split : (s front back : List ℕ) → (s ≡ front ++ (10 ∷ back)) × ((i : ℕ) → i < length front → get_or front i 0 ≢ 10) → (lines_of s ≡ front ∷ lines_of back) × (length back < length s)
lines_split s front back h = (ap lines_of h.0 ∙ lines_at front back (lacks_by_index 10 front h.1), omega (arith, ap length h.0 ∙ length-append front (10 ∷ back)))

pub lines_unsplit : (s : List ℕ) → ((i : ℕ) → i < length s → get_or s i 0 ≢ 10) → 0 < length s → lines_of s ≡ s ∷ []
lines_unsplit s h l = lines_last s (lacks_by_index 10 s h) l

-- requests, and then a line that is none
pub first_refused : (rs : List Request) (l : List ℕ) (ls : List (List ℕ)) → AllByRecursion IsRequest rs → (IsLine l → ⊥) → IsFirstRefused (map line_of rs ++ l ∷ ls) (suc (length rs))
first_refused [] l ls h never = never
first_refused (r ∷ []) l ls h never = ((r, h.0, refl), never)
first_refused (r ∷ q ∷ rs) l ls h never = ((r, h.0, refl), first_refused (q ∷ rs) l ls h.1 never)
