use Rattle.std.specs.Prelude.{ℕ, List, Bool}
use Rattle.outside.specs.FailingCalls.{fails_next}
use Rattle.outside.specs.declared.mem_sink.MemSink.{MemSink}

-- what the sink has taken
abbrev pub sink_taken : MemSink → List ℕ
sink_taken s = s.taken

abbrev pub sink_faults : MemSink → ℕ
sink_faults s = s.failing.faults

-- how many calls failed for want of memory
abbrev pub sink_starved : MemSink → ℕ
sink_starved s = s.starved

-- how many calls there were
abbrev pub sink_calls : MemSink → ℕ
sink_calls s = s.failing.calls

-- the numbers of the calls that are to fail
abbrev pub sink_failing : MemSink → List ℕ
sink_failing s = s.failing.numbers

-- whether the next call is one of them
abbrev pub sink_fails : MemSink → Bool
sink_fails s = fails_next s.failing
