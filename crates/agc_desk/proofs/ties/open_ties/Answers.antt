use Rattle.agc_desk.proofs.Moves.{begins}
use Rattle.agc_desk.proofs.ties.open_ties.Goals as goal

pub of_words-requires : goal.of_words-requires
of_words-requires c = begins
