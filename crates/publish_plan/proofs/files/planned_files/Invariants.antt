use Rattle.std.proofs.Common.{string_bytes}
use Rattle.publish_plan.proofs.FileLoop.{Planned}
use Rattle.publish_plan.proofs.files.planned_files.Given as goal

abbrev pub invariant-loop-name : goal.invariant-loop-name
invariant-loop-name l = Planned l.options (string_bytes l.written.front) l.names l.files.items l.name-index
