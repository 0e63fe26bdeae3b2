use Rattle.agc_session.proofs.OneText.{one_text}
use Rattle.agc_session.proofs.laws.session_has_one_text.Goals as goal

pub returns : goal.returns
returns c = one_text
