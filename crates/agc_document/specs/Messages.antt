-- The texts of faults.
use Rattle.std.specs.Prelude.{ℕ, List, codes}
use Rattle.agc_document.specs.declared.fault.BenchFault.{BenchFault}
use Rattle.agc_document.specs.declared.fault.BenchFault.TheVariants as bench

-- why a bench is refused
abbrev pub bench_fault_text : BenchFault → List ℕ
bench_fault_text bench.NoMemory = codes "no memory"
bench_fault_text bench.NotToml = codes "not toml"
bench_fault_text bench.Key = codes "key"
bench_fault_text bench.Line = codes "line"
bench_fault_text bench.TaskTwice = codes "task twice"
bench_fault_text bench.PhaseTwice = codes "phase twice"
bench_fault_text bench.TooManyAreas = codes "too many areas"
