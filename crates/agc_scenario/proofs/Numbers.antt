-- The numbers of a scenario: what names them, and what exchanging one changes.
use Rattle.std.proofs.Common.{◌≡◌, ◌∙◌, ℕ, zero, suc, ◌<◌, ◌≤◌, false, codes, List, [], ◌∷◌, ◌++◌, length, get_or, set, Option, Some, None, IfSome, IfNone, sym, ap, refl, arith}
use Rattle.std.specs.Str.{bytes_eq}
use Rattle.std.proofs.lemmas.List.{append_cancel_left, append_cancel_right}
use Rattle.std.proofs.lemmas.Slice.Eq.{bytes_eq-Decides}
use Rattle.agc_scenario.specs.declared.changing.Number.{Number}
use Rattle.agc_scenario.specs.declared.changing.Number.TheVariants.{Steal, Seconds, Seed, Cost, Moment, Every, Until}
use Rattle.agc_scenario.specs.Scenarios.{TimedJob, TimedEvent, Timed}
use Rattle.agc_scenario.specs.Numbers.{Names, NamesJob, NamesEvent, NamesNumber, job_called, event_called, nearest, change_at, job_with, event_with, FitsIn}

none_or : (k : ℕ) (o : Option ℕ) → None ≡ o → o ≡ Some k → ⊥
none_or k o e f = absurd (cc (e, f))

-- if what stands there calls nothing, the text names nothing
only_called : (find : List ℕ → Option ℕ) (front back text called : List ℕ) → text ≡ front ++ (called ++ back) → None ≡ find called → ((k : ℕ) → ¬ (Names find front back text k))
only_called find front back text called is read_named =
    λ k h. none_or k (find h.0) (read_named ∙ ap find (append_cancel_right called h.0 back (append_cancel_left front (called ++ back) (h.0 ++ back) (sym is ∙ h.1)))) h.2

-- what a text names by what stands there, and that it names nothing else
pub names_found : (find : List ℕ → Option ℕ) (front back text called : List ℕ) (found : Option ℕ) → text ≡ front ++ (called ++ back) → found ≡ find called → IfSome found (Names find front back text)
names_found find front back text called None is e = tt
names_found find front back text called (Some k) is e = (called, is, sym e)

names_only : (find : List ℕ → Option ℕ) (front back text called : List ℕ) (found : Option ℕ) → text ≡ front ++ (called ++ back) → found ≡ find called → IfNone found ((k : ℕ) → ¬ (Names find front back text k))
names_only find front back text called None is e = only_called find front back text called is e
names_only find front back text called (Some k) is e = tt

pub only_job : (jobs : List TimedJob) (text called : List ℕ) (found : Option ℕ) → text ≡ codes "job." ++ (called ++ codes ".cost") → found ≡ job_called called jobs → IfNone found ((k : ℕ) → ¬ (NamesJob jobs text k))
only_job jobs text called found is e = names_only (λ called. job_called called jobs) (codes "job.") (codes ".cost") text called found is e

pub only_event : (events : List TimedEvent) (back text called : List ℕ) (found : Option ℕ) → text ≡ codes "event." ++ (called ++ back) → found ≡ event_called called events → IfNone found ((k : ℕ) → ¬ (NamesEvent events back text k))
only_event events back text called found is e = names_only (λ called. event_called called events) (codes "event.") back text called found is e

pub nothing_named : (t : Timed) (text : List ℕ) → bytes_eq text (codes "steal") ≡ false → bytes_eq text (codes "seconds") ≡ false → bytes_eq text (codes "seed") ≡ false → ((k : ℕ) → ¬ (NamesJob t.jobs text k)) → ((k : ℕ) → ¬ (NamesEvent t.events (codes ".at") text k)) → ((k : ℕ) → ¬ (NamesEvent t.events (codes ".every") text k)) → ((k : ℕ) → ¬ (NamesEvent t.events (codes ".until") text k)) → (n : Number) → ¬ (NamesNumber t text n)
nothing_named t text steal seconds seed cost moment every until Steal = λ h. absurd (cc (steal, (bytes_eq-Decides text (codes "steal")).1 h))
nothing_named t text steal seconds seed cost moment every until Seconds = λ h. absurd (cc (seconds, (bytes_eq-Decides text (codes "seconds")).1 h))
nothing_named t text steal seconds seed cost moment every until Seed = λ h. absurd (cc (seed, (bytes_eq-Decides text (codes "seed")).1 h))
nothing_named t text steal seconds seed cost moment every until (Cost k) = cost k
nothing_named t text steal seconds seed cost moment every until (Moment k) = moment k
nothing_named t text steal seconds seed cost moment every until (Every k) = every k
nothing_named t text steal seconds seed cost moment every until (Until k) = until k

-- an element changed
changed_in : {X : Type 0} (f : X → X) (k : ℕ) (xs : List X) (x : X) → k < length xs → change_at f k xs ≡ set xs k (f (get_or xs k x))
changed_in f k [] x l = absurd (omega (arith, l))
changed_in f zero (y ∷ ys) x l = refl
changed_in f (suc k) (y ∷ ys) x l = ap (λ zs. y ∷ zs) (changed_in f k ys x (omega (arith, l)))

pub changed_out : {X : Type 0} (f : X → X) (k : ℕ) (xs : List X) → length xs ≤ k → change_at f k xs ≡ xs
changed_out f k [] l = refl
changed_out f zero (y ∷ ys) l = absurd (omega (arith, l))
changed_out f (suc k) (y ∷ ys) l = ap (λ zs. y ∷ zs) (changed_out f k ys (omega (arith, l)))

pub job_changed : (jobs : List TimedJob) (k value : ℕ) (was is : TimedJob) → k < length jobs → was ≡ get_or jobs k was → is ≡ job_with value was → set jobs k is ≡ change_at (job_with value) k jobs
job_changed jobs k value was is l at e = ap (set jobs k) (e ∙ ap (job_with value) at) ∙ sym (changed_in (job_with value) k jobs was l)

pub event_changed : (events : List TimedEvent) (k value : ℕ) (n : Number) (was is : TimedEvent) → k < length events → was ≡ get_or events k was → is ≡ event_with n value was → set events k is ≡ change_at (event_with n value) k events
event_changed events k value n was is l at e = ap (set events k) (e ∙ ap (event_with n value) at) ∙ sym (changed_in (event_with n value) k events was l)

-- a number in its range fits the types
pub fits_32 : (n : Number) (value : ℕ) → nearest n value ≤ 2147483646
fits_32 Steal value = omega arith
fits_32 Seconds value = omega arith
fits_32 Seed value = omega arith
fits_32 (Cost k) value = omega arith
fits_32 (Moment k) value = omega arith
fits_32 (Every k) value = omega arith
fits_32 (Until k) value = omega arith

pub nearest_fits : (n : Number) (value : ℕ) → FitsIn n (nearest n value)
nearest_fits Steal value = omega arith
nearest_fits Seconds value = omega arith
nearest_fits Seed value = tt
nearest_fits (Cost k) value = omega arith
nearest_fits (Moment k) value = tt
nearest_fits (Every k) value = omega arith
nearest_fits (Until k) value = tt
