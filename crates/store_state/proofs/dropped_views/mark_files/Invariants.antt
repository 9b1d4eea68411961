use Rattle.std.proofs.Common.{◌≡◌, ◌++◌, List, length, map, take}
use Rattle.std.specs.Prelude.{filter}
use Rattle.manifests.specs.declared.facts.FileEntry.{FileEntry}
use Rattle.store_state.specs.Dropped.{is_needed}
use Rattle.store_state.proofs.NamedFiles.{is_standing}
use Rattle.store_state.proofs.dropped_views.mark_files.Given as goal

abbrev pub invariant-loop-entry : goal.invariant-loop-entry
invariant-loop-entry l = record {
  marked : (entries : List FileEntry) → l.initial.marks ≡ map (is_needed entries) l.contents
      → l.marks ≡ map (is_needed (entries
      ++ filter (is_standing l.view.groups) (take l.entry-index l.view.application.files)))
      l.contents;
  long : length l.marks ≡ length l.contents;
}
