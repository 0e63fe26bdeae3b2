-- The data of a page: a document, in which nothing begins markup.
use Rattle.std.specs.Prelude.{ℕ, ◌==◌, if◌then◌else◌, List, [], ◌∷◌, Bool, true, false, not}
use Rattle.std.specs.Prelude.{◌≡◌}
use Rattle.std.specs.List.{flat_map, list_all}

-- no <
abbrev pub is_plain : ℕ → Bool
is_plain byte = not (byte == 60)

-- the byte that a backslash and this byte stand for: < for l, and otherwise the byte itself
abbrev pub behind : ℕ → ℕ
behind byte = if byte == 108 then 60 else byte

-- the bytes that data stand for, read from the front, inside an escape or not
abbrev pub read_from : (is_behind : Bool) → List ℕ → List ℕ
read_from is_behind [] = []
read_from true (byte ∷ rest) = behind byte ∷ read_from false rest
read_from false (byte ∷ rest) =
    if byte == 92 then read_from true rest else byte ∷ read_from false rest

-- these are data of a document: there is no < in them, so they can't end the element that they are
-- in, or begin another; and read as the page's script does, they are the document
abbrev pub IsData : List ℕ → List ℕ → Type 0
IsData document inner = (list_all is_plain inner ≡ true) × (read_from false inner ≡ document)

-- for proofs: a byte as data, \l for <, and two backslashes for one; and all of a document
abbrev pub spelled : ℕ → List ℕ
spelled byte = if byte == 60 then 92 ∷ 108 ∷ []
    else (if byte == 92 then 92 ∷ 92 ∷ [] else byte ∷ [])

abbrev pub data_of : List ℕ → List ℕ
data_of text = flat_map spelled text
