use Rattle.std.proofs.Common.{◌≡◌, ℕ, ◌+◌, drop, List, length}
use Rattle.agc_word.specs.Layout.{sets_in}
use Rattle.agc_plan.specs.Eras.{Work, no_work}
use Rattle.agc_plan.specs.Groups.{begun_from, places_from}
use Rattle.agc_plan.specs.Groups.{no_places}
use Rattle.agc_phase.specs.Image.{base_of}
use Rattle.agc_machine.specs.Stands.{IsSound, SameDue, Stands}
use Rattle.agc_machine.proofs.era.begin_groups.Given as goal

abbrev pub invariant-loop-k : goal.invariant-loop-k
invariant-loop-k g l = record {
  stands : (w : Work) × (places : List ℕ) × Stands l.e w places × (begun_from (g.P.Plans.written l.plan).entries (l.k + 1) (drop l.k l.phases) w ≡ begun_from (g.P.Plans.written l.plan).entries 1 l.phases (no_work (sets_in l.fn.e))) × (places_from (g.P.Plans.written l.plan).entries (l.k + 1) (drop l.k l.phases) w places ≡ places_from (g.P.Plans.written l.plan).entries 1 l.phases (no_work (sets_in l.fn.e)) (no_places (sets_in l.fn.e)));
  sound : IsSound l.e;
  same_length : length l.e ≡ length l.fn.e;
  same_base : base_of l.e ≡ base_of l.fn.e;
  due : SameDue l.fn.e l.e;
}
