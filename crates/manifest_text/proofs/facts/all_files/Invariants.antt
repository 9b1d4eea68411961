use Rattle.std.proofs.Common.{◌≡◌, ◌++◌, drop}
use Rattle.std.specs.List.{flat_map}
use Rattle.manifest_text.specs.Lines as spec
use Rattle.manifest_text.proofs.facts.all_files.Given as goal

abbrev pub invariant-loop-entry : goal.invariant-loop-entry
invariant-loop-entry l = l.out ++ flat_map spec.file_lines (drop l.entry-index l.files) ≡ l.fn.out ++ flat_map spec.file_lines l.files
