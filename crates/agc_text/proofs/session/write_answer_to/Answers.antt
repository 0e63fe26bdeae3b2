use Rattle.std.proofs.Common.{List, ℕ, Ok, Err, sym, ◌∙◌, subst}
use Rattle.agc_text.specs.Writing.{Writes}
use Rattle.agc_text.proofs.Sessions.{line_is}
use Rattle.agc_text.proofs.session.write_answer_to.Goals as goal

pub returns-in-Ok-clause-writes : goal.returns-in-Ok-clause-writes
returns-in-Ok-clause-writes g c =
    subst (λ (text : List ℕ). Writes (g.W.Write.contents c.args.writer.now) (g.W.Write.contents c.put_reply.new.writer) text c.put_reply.result)
    (line_is c.args.machine.now c.args.request.now (Ok c.in-Ok.reply) c.ask.new.fired (sym c.in-Ok.is ∙ c.ask.ensures.answer) c.ask.ensures.fired) c.put_reply.ensures

pub returns-in-Err-clause-writes : goal.returns-in-Err-clause-writes
returns-in-Err-clause-writes g c =
    subst (λ (text : List ℕ). Writes (g.W.Write.contents c.args.writer.now) (g.W.Write.contents c.put_refusal.new.writer) text c.put_refusal.result)
    (line_is c.args.machine.now c.args.request.now (Err c.in-Err.refusal) c.ask.new.fired (sym c.in-Err.is ∙ c.ask.ensures.answer) c.ask.ensures.fired) c.put_refusal.ensures
