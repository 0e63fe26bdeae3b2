-- New ledgers and a new history.
use Rattle.agc_desk.specs.declared.names.Blanks.{Blanks}
use Rattle.agc_desk.specs.Naming.{DeskNames}

-- the names that new ledgers and a new history have
abbrev pub names_of : Blanks → DeskNames
names_of blanks = record {
  served = blanks.served.name;
  a1201 = blanks.a1201.name;
  a1202 = blanks.a1202.name;
  a1203 = blanks.a1203.name;
  restarts = blanks.restarts.name;
  history = blanks.history;
}
