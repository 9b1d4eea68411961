use Rattle.std.proofs.Common.{◌≡◌, ◌++◌, drop}
use Rattle.std.specs.Prelude.{filter}
use Rattle.machine.specs.Groups.{is_in}
use Rattle.file_groups.proofs.group_plan.files_of.Given as goal

abbrev pub invariant-loop-entry : goal.invariant-loop-entry
invariant-loop-entry l =
    l.found.items ++ filter (is_in l.group) (drop l.entry-index l.files)
    ≡ filter (is_in l.group) l.files
