-- Why a bench is refused, from why a part of it is.
use Rattle.std.proofs.Common.{◌≡◌, ◌≢◌, ◌⊎◌, inl, inr, Option, Some, sym, ap, subst}
use Rattle.std.specs.Option.{option_map}
use Rattle.agc_plan.specs.Plans.{fault_of}
use Rattle.agc_plan.specs.declared.plan.PlanFault.{PlanFault}
use Rattle.agc_plan.specs.declared.plan.PlanFault.TheVariants as plan
use Rattle.toml.specs.Data.{Members}
use Rattle.agc_document.specs.declared.fault.BenchFault.{BenchFault}
use Rattle.agc_document.specs.declared.fault.BenchFault.TheVariants.{NoMemory, NotToml, Key, Line, TaskTwice, PhaseTwice, TooManyAreas}
use Rattle.agc_document.specs.Texts.{Texts}
use Rattle.agc_document.specs.declared.rows.TheConstants as key
use Rattle.agc_document.specs.Keys.{texts_by}
use Rattle.agc_document.specs.Benches.{Benched, bench_texts, IsInRange}
use Rattle.agc_document.specs.Gives.{RefusedLine}
use Rattle.agc_document.specs.Faults.{bench_fault, HasTexts, RefusesTexts, RefusesBench}

pub refused_because : (why other : Type 0) (fault : BenchFault) → (why → other) → RefusedLine why fault → RefusedLine other fault
refused_because why other NoMemory f h = tt
refused_because why other Line f h = f h
refused_because why other NotToml f h = absurd h
refused_because why other Key f h = absurd h
refused_because why other TaskTwice f h = absurd h
refused_because why other PhaseTwice f h = absurd h
refused_because why other TooManyAreas f h = absurd h

-- texts that spell no bench
pub refused_line : (texts : Texts) (fault : BenchFault) → RefusedLine ((b : Benched) → IsInRange b → texts ≢ bench_texts b) fault → RefusesTexts texts fault
refused_line texts NoMemory h = tt
refused_line texts Line h = h
refused_line texts NotToml h = absurd h
refused_line texts Key h = absurd h
refused_line texts TaskTwice h = absurd h
refused_line texts PhaseTwice h = absurd h
refused_line texts TooManyAreas h = absurd h

-- texts of a bench whose rows and entries make no plan
plan_refused : (texts : Texts) (b : Benched) (f : PlanFault) → IsInRange b → texts ≡ bench_texts b → fault_of b.rows b.entries ≡ Some f → RefusesTexts texts (bench_fault f)
plan_refused texts b plan.NoMemory r t h = tt
plan_refused texts b plan.TaskTwice r t h = (b, r, t, ap (option_map bench_fault) h)
plan_refused texts b plan.PhaseTwice r t h = (b, r, t, ap (option_map bench_fault) h)
plan_refused texts b plan.TooManyAreas r t h = (b, r, t, ap (option_map bench_fault) h)

plan_or_none : (texts : Texts) (b : Benched) (f : PlanFault) → IsInRange b → texts ≡ bench_texts b → (f ≡ plan.NoMemory) ⊎ (fault_of b.rows b.entries ≡ Some f) → RefusesTexts texts (bench_fault f)
plan_or_none texts b f r t (inl is) = subst (λ x. RefusesTexts texts (bench_fault x)) (sym is) tt
plan_or_none texts b f r t (inr h) = plan_refused texts b f r t h

pub refused_plan : (texts : Texts) (b : Benched) (f : PlanFault) (fault : BenchFault) → IsInRange b → texts ≡ bench_texts b → (f ≡ plan.NoMemory) ⊎ (fault_of b.rows b.entries ≡ Some f) → (fault ≡ NoMemory) ⊎ (fault ≡ bench_fault f) → RefusesTexts texts fault
refused_plan texts b f fault r t h (inl is) = subst (RefusesTexts texts) (sym is) tt
refused_plan texts b f fault r t h (inr is) = subst (RefusesTexts texts) (sym is) (plan_or_none texts b f r t h)

-- a document whose texts spell none
pub refused_texts : (document : Option Members) (ms : Members) (texts : Texts) (fault : BenchFault) → document ≡ Some ms → texts_by key.WORKERS key.DEVICES ms ≡ Some texts → RefusesTexts texts fault → RefusesBench document fault
refused_texts document ms texts NoMemory d t h = tt
refused_texts document ms texts Line d t h = (texts, (ms, d, t), h)
refused_texts document ms texts NotToml d t h = absurd h
refused_texts document ms texts Key d t h = absurd h
refused_texts document ms texts TaskTwice d t h = (texts, (ms, d, t), h)
refused_texts document ms texts PhaseTwice d t h = (texts, (ms, d, t), h)
refused_texts document ms texts TooManyAreas d t h = (texts, (ms, d, t), h)

-- what a document's members are is what the document is
pub refused_in : (document : Option Members) (ms : Members) (fault : BenchFault) → document ≡ Some ms → RefusesBench (Some ms) fault → RefusesBench document fault
refused_in document ms fault is h = subst (λ d. RefusesBench d fault) (sym is) h

pub texts_of : (document : Option Members) (ms : Members) (texts : Texts) → document ≡ Some ms → HasTexts (Some ms) texts → HasTexts document texts
texts_of document ms texts is h = subst (λ d. HasTexts d texts) (sym is) h
