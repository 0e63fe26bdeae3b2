-- What `clap` makes of two words, of which the second is a mode's name.
use Rattle.std.proofs.Common.{◌≡◌, ℕ, List, [], ◌∷◌, Option, Some, None, true, refl, sym, ap, ap₂, ◌∙◌}
use Rattle.std.specs.Option.{option_map}
use Rattle.clap.specs.Words.{App, HasMatchesOf, Row, Text, is_simple, subcommand_name_of, subcommand_of, subcommand_rows_of, takes}
use Rattle.clap.specs.declared.parser.matches.ArgMatches.{ArgMatches}
use Rattle.clap.specs.declared.parser.matches.ArgMatches.TheViews.{out-ArgMatches}
use Rattle.clap.proofs.OnLiterals.{clap_on_literals}
use Rattle.agc.specs.declared.mode.Mode.{Mode}
use Rattle.agc.specs.declared.mode.Mode.TheVariants.{Script, Serial, Threads}
use Rattle.agc.specs.Modes.{AskFor, mode_name}
use Rattle.agc.specs.Steps.{mode_app}

takes_it : (name : List ℕ) (mode : Mode) → takes mode_app (name ∷ mode_name mode ∷ []) ≡ true
unfolding clap_on_literals
takes_it name Script = refl
takes_it name Serial = refl
takes_it name Threads = refl

-- words that ask for a mode are taken
pub is_taken : (app : App) (words : List Text) (mode : Mode) → app ≡ mode_app → AskFor words mode → takes app words ≡ true
is_taken app words mode is asked = ap₂ takes is asked.1 ∙ takes_it asked.0 mode

is_entered : (name : List ℕ) (mode : Mode) → subcommand_of mode_app (name ∷ mode_name mode ∷ []) ≡ Some (mode_name mode, [])
unfolding clap_on_literals
is_entered name Script = refl
is_entered name Serial = refl
is_entered name Threads = refl

is_simple_app : is_simple mode_app ≡ true
unfolding clap_on_literals
is_simple_app = refl

composed : {A B C : Type 0} → (f : B → C) (g : A → B) (o : Option A) → option_map f (option_map g o) ≡ option_map (λ a. f (g a)) o
composed f g None = refl
composed f g (Some a) = refl

-- the name of a subcommand is that of its rows
named_of : (m : ArgMatches) → option_map (λ (p : Text × List Row). p.0) (subcommand_rows_of m) ≡ subcommand_name_of m
named_of m = composed (λ (p : Text × List Row). p.0) _ (out-ArgMatches m).subcommand

-- and the subcommand that is found is its name
pub is_named : (app : App) (words : List Text) (m : ArgMatches) (mode : Mode) → app ≡ mode_app → AskFor words mode → HasMatchesOf app words m → subcommand_name_of m ≡ Some (mode_name mode)
is_named app words m mode is asked matches =
    sym (named_of m) ∙ ap (option_map (λ (p : Text × List Row). p.0)) ((matches (ap is_simple is ∙ is_simple_app)).1 ∙ ap₂ subcommand_of is asked.1 ∙ is_entered asked.0 mode)
