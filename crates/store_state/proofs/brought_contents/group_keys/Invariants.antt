use Rattle.std.proofs.Common.{◌≡◌, ◌++◌, drop, map}
use Rattle.std.specs.Prelude.{filter}
use Rattle.machine.specs.Groups.{is_in}
use Rattle.machine.specs.Views.{content_key}
use Rattle.store_state.proofs.brought_contents.group_keys.Given as goal

abbrev pub invariant-loop-entry : goal.invariant-loop-entry
invariant-loop-entry l =
    l.keys.items
    ++ map content_key (filter (is_in l.group) (drop l.entry-index l.view.application.files))
    ≡ map content_key (filter (is_in l.group) l.view.application.files)
