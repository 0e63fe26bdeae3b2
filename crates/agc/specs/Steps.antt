-- Of proofs alone: the command that `clap` is given.
use Rattle.std.specs.Prelude.{ℕ, List, codes}
use Rattle.clap.specs.Words.{App, new_app, with_subcommand}

-- a command with one subcommand more, which takes nothing
abbrev pub with_name : App → List ℕ → App
with_name app name = with_subcommand app (new_app name).top

-- a subcommand for each mode
abbrev pub mode_app : App
mode_app = with_name (with_name (with_name (new_app (codes "agc")) (codes "script"))
    (codes "serial")) (codes "threads")
