use Rattle.std.proofs.Common.{◌≡◌, ◌++◌, ◌&&◌, not, drop, map}
use Rattle.std.specs.Prelude.{filter}
use Rattle.manifests.specs.declared.facts.FileEntry.{FileEntry}
use Rattle.machine.specs.Views.{content_key, stands_by}
use Rattle.store_state.proofs.brought_contents.standing_keys.Given as goal

abbrev pub invariant-loop-entry : goal.invariant-loop-entry
invariant-loop-entry l = l.keys.items ++ map content_key (filter (λ (e : FileEntry). not e.local && stands_by l.view.groups e.group) (drop l.entry-index l.view.application.files)) ≡ map content_key (filter (λ (e : FileEntry). not e.local && stands_by l.view.groups e.group) l.view.application.files)
