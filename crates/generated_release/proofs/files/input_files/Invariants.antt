use Rattle.std.proofs.Common.{◌≡◌}
use Rattle.std.specs.Prelude.{codes}
use Rattle.generated_release.specs.Files.{files_to}
use Rattle.generated_release.proofs.files.input_files.Given as goal

abbrev pub invariant-loop-file : goal.invariant-loop-file
invariant-loop-file l = l.files.items ≡ files_to (codes "in/") l.seed l.version l.file
