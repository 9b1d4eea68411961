use Rattle.std.proofs.Common.{◌≡◌, ◌≤◌, drop, take}
use Rattle.small_types.specs.Outcome.{◌>>=◌}
use Rattle.publisher.specs.Publication.{read_entries}
use Rattle.publisher.specs.Readings.{ReadsEach}
use Rattle.publisher.proofs.EntryReads.{behind, AreBehind}
use Rattle.publisher.proofs.entries.read_entries.Given as goal

abbrev pub invariant-loop-file : goal.invariant-loop-file
invariant-loop-file g l = record {
  told : g.F.Folder.tells → read_entries (g.F.Folder.held l.initial.folder) l.files ≡ (read_entries (g.F.Folder.held l.initial.folder) (drop l.file-index l.files) >>= behind l.entries.items);
  kept : g.F.Folder.tells → g.F.Folder.held l.folder ≡ g.F.Folder.held l.initial.folder;
  given : g.F.Folder.records → ReadsEach (take l.file-index l.files) l.entries.items (g.F.Folder.answers l.initial.folder) (g.F.Folder.answers l.folder);
  fit : AreBehind l.files l.file-index l.entries.items;
  later : g.F.Folder.count l.initial.folder ≤ g.F.Folder.count l.folder;
  still : g.F.Folder.count l.folder ≡ g.F.Folder.count l.initial.folder;
}
