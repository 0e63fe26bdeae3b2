-- Data are plain, and read again.
use Rattle.std.proofs.Common.{◌≡◌, ℕ, ◌==◌, Bool, true, false, not, if◌then◌else◌, List, [], ◌∷◌, ◌++◌, refl, ap, ◌∙◌, sym, ◌&&◌}
use Rattle.std.specs.List.{flat_map, list_all}
use Rattle.std.proofs.lemmas.List.Concat.{flat_map-cons}
use Rattle.std.proofs.lemmas.List.Folds.{list_all-append}
use Rattle.std.proofs.lemmas.Bool.{eqb-true}
use Rattle.agc_watch.specs.Data.{spelled, data_of, is_plain, read_from, IsData}
use Rattle.agc_watch.specs.Pages.{IsPage, IsWorkbench, closing_of}
use Rattle.agc_watch.specs.declared.page.PageView.{PageView}

-- a byte that is neither
plain_if : (b : ℕ) (less back : Bool) → (b == 60) ≡ less → (b == 92) ≡ back → list_all is_plain (if less then 92 ∷ 108 ∷ [] else (if back then 92 ∷ 92 ∷ [] else b ∷ [])) ≡ true
plain_if b true back e f = refl
plain_if b false true e f = refl
plain_if b false false e f = ap (λ (x : Bool). not x && true) e

pub plain_byte : (b : ℕ) → list_all is_plain (spelled b) ≡ true
plain_byte b = plain_if b (b == 60) (b == 92) refl refl

pub plain_data : (text : List ℕ) → list_all is_plain (data_of text) ≡ true
plain_data [] = refl
plain_data (b ∷ bs) = ap (list_all is_plain) (flat_map-cons spelled b bs) ∙ list_all-append is_plain (spelled b) (data_of bs) ∙ ap (λ (x : Bool). x && list_all is_plain (data_of bs)) (plain_byte b) ∙ plain_data bs

-- a byte as data, and what stands behind it
again_if : (b : ℕ) (bs : List ℕ) (less back : Bool) → (b == 60) ≡ less → (b == 92) ≡ back → read_from false ((if less then 92 ∷ 108 ∷ [] else (if back then 92 ∷ 92 ∷ [] else b ∷ [])) ++ bs) ≡ b ∷ read_from false bs
again_if b bs true back e f = ap (λ (n : ℕ). n ∷ read_from false bs) (sym (eqb-true b 60 e))
again_if b bs false true e f = ap (λ (n : ℕ). n ∷ read_from false bs) (sym (eqb-true b 92 f))
again_if b bs false false e f = ap (λ (x : Bool). if x then read_from true bs else b ∷ read_from false bs) f

pub again_data : (text : List ℕ) → read_from false (data_of text) ≡ text
again_data [] = refl
again_data (b ∷ bs) =
    ap (read_from false) (flat_map-cons spelled b bs) ∙ again_if b (data_of bs) (b == 60) (b == 92) refl refl ∙ ap (λ (t : List ℕ). b ∷ t) (again_data bs)

pub is_data : (text inner : List ℕ) → inner ≡ data_of text → IsData text inner
is_data text inner e = (ap (list_all is_plain) e ∙ plain_data text, ap (read_from false) e ∙ again_data text)

-- a page of these parts
pub is_page : (opens : PageView) (workbench document front inner end : List ℕ) → IsWorkbench workbench front → inner ≡ data_of document → end ≡ closing_of opens → IsPage opens workbench document (front ++ (inner ++ end))
is_page opens workbench document front inner end parted told ends = record { front = front; inner = inner; parted = parted; holds = is_data document inner told; whole = ap (λ (e : List ℕ). front ++ (inner ++ e)) ends }
