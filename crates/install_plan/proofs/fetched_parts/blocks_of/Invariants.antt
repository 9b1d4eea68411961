use Rattle.std.proofs.Common.{◌≡◌, ◌++◌, drop}
use Rattle.table_files.specs.Held.{held_for_locals}
use Rattle.install_plan.proofs.fetched_parts.blocks_of.Given as goal

abbrev pub invariant-loop-file : goal.invariant-loop-file
invariant-loop-file l =
    l.blocks.items ++ held_for_locals (drop l.file-index l.files) ≡ held_for_locals l.files
