use Rattle.std.specs.Prelude.{ℕ, List, Bool, drop}
use Rattle.outside.specs.FailingCalls.{fails_next}
use Rattle.outside.specs.declared.mem_source.MemSource.{MemSource}

-- what the source has left
abbrev pub source_left : MemSource → List ℕ
source_left s = drop s.place s.bytes

abbrev pub source_faults : MemSource → ℕ
source_faults s = s.failing.faults

-- how many calls there were
abbrev pub source_calls : MemSource → ℕ
source_calls s = s.failing.calls

-- the numbers of the calls that are to fail
abbrev pub source_failing : MemSource → List ℕ
source_failing s = s.failing.numbers

-- whether the next call is one of them
abbrev pub source_fails : MemSource → Bool
source_fails s = fails_next s.failing
