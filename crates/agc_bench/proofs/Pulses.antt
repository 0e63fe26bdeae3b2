-- What is asked as one attends is asked for pulses.
use Rattle.std.proofs.Common.{ℕ, ◌+◌, List, [], ◌∷◌, ◌++◌, take, Some, IsSome, arith, refl, sym, ap, ◌∙◌, append_assoc, append-nil}
use Rattle.std.specs.List.{All}
use Rattle.std.proofs.lemmas.List.Elements.{All-append, All-cons, All-nil}
use Rattle.atomic_table.specs.Seated.{TableId}
use Rattle.agc_machine.specs.Machines.{Machined, after, said_of}
use Rattle.agc_desk.specs.declared.ties.Call.{Call}
use Rattle.agc_desk.specs.declared.drain.Drained.{Drained}
use Rattle.agc_desk.specs.Desks.{Desked}
use Rattle.agc_desk.specs.Draining.{Attends, Drains, calls_of, left_by}
use Rattle.agc_desk.specs.History.{Holder}
use Rattle.agc_desk.specs.Pulses.{Pulse}
use Rattle.agc_bench.specs.Sharing.{AsksPulses, GoesOnWith}

-- the calls for pulses are pulses
calls_pulses : (number : ℕ) (m : Machined) (asked : List Pulse) → All (λ (call : Call). IsSome call.pulse) (calls_of number m asked)
unfolding calls_of
calls_pulses number m [] = All-nil (λ (call : Call). IsSome call.pulse)
calls_pulses number m (pulse ∷ more) =
    All-cons (λ (call : Call). IsSome call.pulse)
    (record { by = number; answer = said_of m pulse.request; pulse = Some pulse.line })
    (calls_of number (after m pulse.request) more) refl (calls_pulses number (after m pulse.request) more)

-- what is done with a share, and then more
goes_on_both : (a b : List Call) (n m : ℕ) (old mid new : Holder) → GoesOnWith a n old mid → GoesOnWith b m mid new
    → GoesOnWith (a ++ b) (n + m) old new
goes_on_both a b n m old mid new before now = record {
  number = now.number ∙ before.number;
  heard = now.heard ∙ (ap (λ l. l ++ b) before.heard ∙ append_assoc old.heard a b);
  drains_are = omega (arith, before.drains_are, now.drains_are);
}

-- nobody attended
pub pulses_none : (share : Holder) → AsksPulses 0 share share
pulses_none share = record {
  calls = [];
  own = All-nil (λ (call : Call). IsSome call.pulse);
  with_it = record { number = refl; heard = sym (append-nil share.heard); drains_are = omega arith };
}

-- a desk is drained
pub drained_pulses : (old : Desked) (share : Holder) (result : Drained) (now : Desked) (new : Holder)
    → Drains old share result now new → AsksPulses 1 share new
drained_pulses old share result now new drains =
    let asked = drains.served ++ take 1 (left_by old.machine.plan now.lines) in
    record {
      calls = calls_of share.number old.machine asked;
      own = calls_pulses share.number old.machine asked;
      with_it = record {
        number = ap (λ (h : Holder). h.number) drains.asked.heard;
        heard = ap (λ (h : Holder). h.heard) drains.asked.heard;
        drains_are = ap (λ (h : Holder). h.drains) drains.asked.heard;
      };
    }

-- one who attends once more
pub pulses_more : (times : ℕ) (first : Machined) (latch : TableId) (old mid : Holder) (result : Drained) (new : Holder)
    → AsksPulses times old mid → Attends first latch mid result new → AsksPulses (times + 1) old new
pulses_more times first latch old mid result new before attends =
    let now : AsksPulses 1 mid new = drained_pulses attends.old mid result attends.now new attends.drains in
    record {
      calls = before.calls ++ now.calls;
      own = All-append (λ (call : Call). IsSome call.pulse) before.calls now.calls before.own now.own;
      with_it = goes_on_both before.calls now.calls times 1 old mid new before.with_it now.with_it;
    }
