use Rattle.std.proofs.Common.{take}
use Rattle.std.specs.Prelude.{All}
use Rattle.manifest_writer.specs.Held.{IsHeldFile}
use Rattle.manifest_writer.proofs.held.files_held.Given as goal

abbrev pub invariant-loop-entry : goal.invariant-loop-entry
invariant-loop-entry l = All IsHeldFile (take l.entry-index l.files)
