-- The count of a real source.
use Rattle.std.specs.Prelude.{ℕ}
use Rattle.outside_real.specs.declared.std_source.StdSource.{StdSource}

abbrev pub source_faults : {R Reader : Type 0} → StdSource R Reader → ℕ
source_faults s = s.faults
