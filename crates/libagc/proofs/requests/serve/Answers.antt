use Rattle.agc_image.proofs.Frames.{lawful_by_phases, lawful_by_waits}
use Rattle.libagc.proofs.requests.serve.Goals as goal

pub returns-in-List-clause-lawful : goal.returns-in-List-clause-lawful
returns-in-List-clause-lawful c = lawful_by_waits _ _ c.list.ensures.others c.requires.lawful c.list.ensures.lawful

pub returns-in-Tick-clause-lawful : goal.returns-in-Tick-clause-lawful
returns-in-Tick-clause-lawful c = lawful_by_waits _ _ c.count_time3-is_due.ensures.others c.requires.lawful c.count_time3-is_due.ensures.lawful

pub returns-in-SetPhase-clause-lawful : goal.returns-in-SetPhase-clause-lawful
returns-in-SetPhase-clause-lawful c = lawful_by_phases _ _ c.set_phase.ensures.others c.requires.lawful c.set_phase.ensures.lawful
