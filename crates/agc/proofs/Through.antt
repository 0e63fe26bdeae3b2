-- How a run ends whose output goes through a buffer.
use Rattle.std.proofs.Common.{◌≡◌, ◌⊎◌, ℕ, List, Option, Some, None, Result, Ok, Err, IsErrAnd, IfErr, inl, inr, ap, sym, refl, subst, ◌∙◌}
use Rattle.std.specs.Io.KnownBytes.{Keeps}
use Rattle.agc.specs.declared.fault.ProgramFault.{ProgramFault}
use Rattle.agc.specs.declared.fault.ProgramFault.TheVariants as fault
use Rattle.agc.specs.Inputs.{CanEnd, EndsBy}
use Rattle.agc.specs.declared.mode.Mode.{Mode}
use Rattle.agc.specs.Program.{EndsFor, RunsText, RunsThrough}

keeps_same : (known : Option (List ℕ)) → Keeps known known
keeps_same None = tt
keeps_same (Some bytes) = refl

-- the input is refused, or a run of it fails
pub through_fault : (mode : Mode) (unread rest old new : Option (List ℕ)) (why : ProgramFault) (outcome : Result Unit ProgramFault) → EndsBy (RunsText mode) unread rest old new (Err why) → IsErrAnd outcome (λ e. e ≡ why) → RunsThrough mode unread rest old new outcome
through_fault mode unread rest old new why (Ok done) ends gives = absurd gives
through_fault mode unread rest old new why (Err e) ends gives =
    inr (new, subst (λ f. EndsBy (RunsText mode) unread rest old new (Err f)) (sym gives) ends, keeps_same new)

-- it ran well, and then the buffer is flushed
pub through_flush : (mode : Mode) (unread rest old written new : Option (List ℕ)) (ran outcome : Result Unit ProgramFault) (done : Unit) → EndsBy (RunsText mode) unread rest old written ran → ran ≡ Ok done → IfErr outcome (λ e. e ≡ fault.Output) → Keeps written new → RunsThrough mode unread rest old new outcome
through_flush mode unread rest old written new ran (Err e) done ends is failed keeps = inl (ap Err failed)
through_flush mode unread rest old written new ran (Ok end) done ends is failed keeps =
    inr (written, subst (EndsBy (RunsText mode) unread rest old written) is ends, keeps)

pub through_ends : (mode : Mode) (unread rest old new : Option (List ℕ)) (outcome : Result Unit ProgramFault) → RunsThrough mode unread rest old new outcome → CanEnd (RunsText mode) outcome
through_ends mode unread rest old new outcome (inl is) = inr (inl is)
through_ends mode unread rest old new outcome (inr r) = inr (inr (unread, rest, old, r.0, r.1))

pub ends_without_memory : (words : List (List ℕ)) (why : ProgramFault) (outcome : Result Unit ProgramFault) → IsErrAnd outcome (λ e. e ≡ why) → why ≡ fault.NoMemory → EndsFor words outcome
ends_without_memory words why (Ok done) gives is = absurd gives
ends_without_memory words why (Err e) gives is = inr (inl (ap Err (gives ∙ is)))
