use Rattle.std.proofs.Common.{◌≡◌, ◌++◌, drop, map}
use Rattle.std.specs.Prelude.{filter}
use Rattle.store_state.proofs.NamedFiles.{is_standing}
use Rattle.table_files.proofs.needed_contents.add_standing.Given as goal

abbrev pub invariant-loop-entry : goal.invariant-loop-entry
invariant-loop-entry l =
    map (λ f. f.now) l.files.items
    ++ filter (is_standing l.view.groups) (drop l.entry-index l.view.application.files)
    ≡ map (λ f. f.now) l.initial.files.items
    ++ filter (is_standing l.view.groups) l.view.application.files
