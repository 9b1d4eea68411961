-- When a group has no plan.
use Rattle.std.specs.Prelude.{◌≡◌, ◌≢◌, ℕ, List, []}
use Rattle.manifests.specs.declared.facts.Application.{Application}
use Rattle.manifests.specs.declared.facts.FileEntry.{FileEntry}
use Rattle.machine.specs.Groups.{group_files}
use Rattle.file_groups.specs.declared.fault.GroupFault.{GroupFault}
use Rattle.file_groups.specs.declared.fault.GroupFault.TheVariants.{NoGroup, Memory}

-- the application lists program files of the group
abbrev pub HasGroup : List ℕ → Application → Type 0
HasGroup group application = ◌≢◌ {A = List FileEntry} (group_files group application) []

-- it lists none; or there was no memory for those that it lists
abbrev pub IsRefused : List ℕ → Application → GroupFault → Type 0
IsRefused group application NoGroup = group_files group application ≡ []
IsRefused group application Memory = HasGroup group application
