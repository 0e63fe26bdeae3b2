-- How many core sets there are, and how many words.
use Rattle.std.specs.Prelude.{ℕ, ◌+◌, ◌*◌, List, take}
use Rattle.agc_word.specs.declared.sets.Sets.{Sets}
use Rattle.agc_word.specs.declared.sets.Sets.TheVariants.{Seven, Eight}
use Rattle.agc_word.specs.Layout.{others_size, set_size}

abbrev pub count_of : Sets → ℕ
count_of Seven = 7
count_of Eight = 8

-- how many words there are with so many sets
abbrev pub size_of : Sets → ℕ
size_of sets = others_size + set_size * count_of sets

-- of the places for the words of eight sets, those that there are with so many
abbrev pub words_with : Sets → List ℕ → List ℕ
words_with sets words = take (size_of sets) words
