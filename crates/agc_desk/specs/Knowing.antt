-- The desk's knowledge of the table that ties it to the holders of its shares: the history.
use Rattle.std.specs.Prelude.{ℕ, List, [], true, false}
use Rattle.agc_desk.specs.declared.ties.Call.{Call}
use Rattle.agc_desk.specs.declared.ties.View.{View}

-- the desk's view: it knows the history
abbrev pub knower : List Call → ℕ → List ℕ → View
knower calls given gathered = record {
  keeps = true;
  calls = calls;
  given = given;
  gathered = gathered;
  owns = false;
  number = 0;
  heard = [];
  drains = 0;
}
