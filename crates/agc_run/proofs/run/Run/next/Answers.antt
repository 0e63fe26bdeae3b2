use Rattle.agc_run.proofs.run.Run.next.Goals as goal

pub returns-clause-pulls : goal.returns-clause-pulls
returns-clause-pulls c = rw (← c.self.view_is) (c.next-asked.ensures.pulls c.self.inside.machine c.erasable.ensures.stands.jobs)
