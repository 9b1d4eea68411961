use Rattle.std.proofs.Common.{◌≡◌, ◌+◌, ◌≤◌, length}
use Rattle.host_cli.specs.Run.{HostsBut, IsBelowEnd, rises}
use Rattle.host_cli.proofs.run.host_many.Given as goal

abbrev pub invariant-loop-made : goal.invariant-loop-made
invariant-loop-made g l = record {
  length : g.G.Door.tells → length (g.G.Door.accepted l.door) ≡ length (g.G.Door.accepted l.initial.door) + l._made;
  served : g.G.Door.tells → g.F.Folder.tells → IsBelowEnd (g.G.Door.count l.door) → IsBelowEnd (g.F.Folder.count l.folder)
      → HostsBut (g.F.Folder.held l.initial.folder) (g.G.Door.accepted l.initial.door) (g.G.Door.accepted l.door)
      (rises (g.G.Door.count l.initial.door) (g.G.Door.count l.door) (g.F.Folder.count l.initial.folder) (g.F.Folder.count l.folder));
  door_still : l._made ≡ 0 → l.door ≡ l.initial.door;
  folder_still : l._made ≡ 0 → l.folder ≡ l.initial.folder;
  door_later : g.G.Door.count l.initial.door ≤ g.G.Door.count l.door;
  folder_later : g.F.Folder.count l.initial.folder ≤ g.F.Folder.count l.folder;
  misses_later : g.G.Door.misses l.initial.door ≤ g.G.Door.misses l.door;
  quiet_misses : g.G.Door.misses l.door ≡ g.G.Door.misses l.initial.door;
  held : g.F.Folder.tells → g.F.Folder.held l.folder ≡ g.F.Folder.held l.initial.folder;
}
