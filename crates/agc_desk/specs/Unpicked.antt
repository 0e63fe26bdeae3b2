-- Helpers of proofs: what stands where nothing is picked.
use Rattle.std.specs.Prelude.{[], Err}
use Rattle.agc_latch.specs.Holders.{no_latch}
use Rattle.agc_plan.specs.declared.request.Request.TheVariants.{Fresh}
use Rattle.agc_plan.specs.Base.{fresh_base}
use Rattle.agc_machine.specs.declared.answer.Refusal.TheVariants.{Spent}
use Rattle.agc_machine.specs.Machines.{Machined, begun_with}
use Rattle.agc_machine.specs.Said.{Said}
use Rattle.agc_desk.specs.Naming.{DeskNames}

-- names for where nothing is picked
abbrev pub no_names : DeskNames
no_names = record {
  served = 0;
  a1201 = 0;
  a1202 = 0;
  a1203 = 0;
  restarts = 0;
  history = no_latch;
}

-- a machine for where nothing is picked
abbrev pub no_machine : Machined
no_machine = begun_with
    (record { rows = []; entries = []; key = []; radar = []; sets = 7 }) 1 0 fresh_base

-- an answer for where nothing is picked
abbrev pub no_answer : Said
no_answer = record { request = Fresh; outcome = Err Spent; fired = [] }
