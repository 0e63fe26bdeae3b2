use Rattle.agc_exec.proofs.establish.findvac.Goals as goal

pub returns-in-Some : goal.returns-in-Some
returns-in-Some c = rw (← c.in-Some.ensures.area, c.reply_of.ensures) c.establish.ensures
