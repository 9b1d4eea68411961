use Rattle.std.proofs.Common.{drop}
use Rattle.identity.proofs.PrintedLemmas.{Carries}
use Rattle.identity.proofs.printed.past_bytes.Given as goal

abbrev pub invariant-loop-byte : goal.invariant-loop-byte
invariant-loop-byte l = Carries l.bytes l.text (drop l.byte-index l.bytes) l.rest
