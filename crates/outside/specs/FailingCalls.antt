-- The calls of a device in memory, and which of them fail.
use Rattle.std.specs.Prelude.{◌+◌, ◌==◌, Bool, min}
use Rattle.std.specs.List.{list_any}
use Rattle.outside.specs.declared.failing_calls.FailingCalls.{FailingCalls}

-- whether the next call is to fail
abbrev pub fails_next : FailingCalls → Bool
fails_next c = list_any (λ n. n == min (c.calls + 1) 0xffff_ffff_ffff_ffff) c.numbers
