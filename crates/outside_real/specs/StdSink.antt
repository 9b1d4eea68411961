use Rattle.std.specs.Prelude.{ℕ, List}
use Rattle.outside_real.specs.declared.std_sink.StdSink.{StdSink}

abbrev pub sink_faults : {R : Type 0} → StdSink R → ℕ
sink_faults s = s.faults

-- what was handed to the output and taken, in order
abbrev pub sink_taken : {R : Type 0} → StdSink R → List ℕ
sink_taken s = s.taken.noted
