use Rattle.std.proofs.Common.{sym, ◌∙◌}
use Rattle.agc_image.proofs.Frames.{changed}
use Rattle.libagc.specs.Requests.{Does}
use Rattle.libagc.proofs.requests.agc_call.Goals as goal

pub returns-else-is_late-clause-served : goal.returns-else-is_late-clause-served
returns-else-is_late-clause-served c = λ zero. record {
  request = c.in-Some.asked;
  asked_is = sym c.request_of.ensures ∙ c.in-Some.is;
  reply = c.serve-reply.result;
  told = c.of.ensures.reply;
  changed = changed (λ these those. Does c.in-Some.asked these those c.serve-reply.result) c.args.sets c.args.words.now c.write_back.new.array c.in-Ok.image c.serve-reply.new.e c.in-Ok.ensures.image.count c.in-Ok.ensures.opened c.serve-reply.ensures.does c.serve-reply.ensures.size c.serve-reply.ensures.lawful c.write_back.ensures;
}
