-- The names of the modes, and the words that ask for one.
use Rattle.std.specs.Prelude.{◌≡◌, ℕ, List, [], ◌∷◌, codes}
use Rattle.agc.specs.declared.mode.Mode.{Mode}
use Rattle.agc.specs.declared.mode.Mode.TheVariants.{Script, Serial, Threads}

-- the subcommand that asks for a mode
abbrev pub mode_name : Mode → List ℕ
mode_name Script = codes "script"
mode_name Serial = codes "serial"
mode_name Threads = codes "threads"

-- a mode's words: the program's name, and the mode's name
abbrev pub AskFor : (words : List (List ℕ)) → Mode → Type 0
AskFor words mode = (name : List ℕ) × (words ≡ name ∷ mode_name mode ∷ [])
