use Rattle.std.proofs.Common.{All, take}
use Rattle.small_types.specs.Short.{IsShort}
use Rattle.table_check.proofs.parts.are_short.Given as goal

abbrev pub invariant-loop-text : goal.invariant-loop-text
invariant-loop-text l = All (IsShort l.limit) (take l.text-index l.texts)
