use Rattle.std.proofs.Common.{◌≡◌, ◌≤◌, ℕ, List, true, map, take}
use Rattle.std.specs.List.{list_all}
use Rattle.publisher.specs.Publication.{copy_in}
use Rattle.publisher.specs.Puts.{PutsEach, is_apart}
use Rattle.publisher.proofs.TwoReadings.{PutsBelow}
use Rattle.publisher.proofs.copies.copy_files.Given as goal

abbrev pub invariant-loop-i : goal.invariant-loop-i
invariant-loop-i g l = record {
  puts : g.F.Folder.tells → PutsEach (take l.i (map (copy_in (g.F.Folder.held l.initial.folder)) l.files)) (g.F.Folder.held l.initial.folder) (g.F.Folder.held l.folder);
  below : g.F.Folder.records → (folder : List ℕ) → list_all (is_apart folder) l.files ≡ true → PutsBelow folder (g.F.Folder.answers l.initial.folder) (g.F.Folder.answers l.folder);
  later : g.F.Folder.count l.initial.folder ≤ g.F.Folder.count l.folder;
  still : g.F.Folder.count l.folder ≡ g.F.Folder.count l.initial.folder;
}
