use Rattle.agc_wait.proofs.OneImage.{Shows-one}
use Rattle.agc_wait.proofs.laws.one_table_of_an_agenda.Goals as goal

pub returns : goal.returns
returns c = Shows-one
