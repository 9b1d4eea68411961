-- The files of a group: which an application has, which of them are fetched, and the blocks that
-- they need.
use Rattle.std.specs.Prelude.{ℕ, Bool, false, not, ◌&&◌, List, [], ◌∷◌, filter, sum_by, Option, Some, None, bytes_eq, if◌then◌else◌}
use Rattle.std.specs.List.{list_any}
use Rattle.manifests.specs.declared.facts.Application.{Application}
use Rattle.manifests.specs.declared.facts.FileEntry.{FileEntry}
use Rattle.machine.specs.Blocks.{blocks_of, standing_files}
use Rattle.machine.specs.Shape.{BareView}
use Rattle.machine.specs.Wanted.{is_held, new_contents}

-- ---- its files

abbrev pub is_group : List ℕ → Option (List ℕ) → Bool
is_group group None = false
is_group group (Some other) = bytes_eq other group

-- a program file of the group
abbrev pub is_in : List ℕ → FileEntry → Bool
is_in group entry = not entry.local && is_group group entry.group

-- those of an application, in the manifest's order
abbrev pub group_files : List ℕ → Application → List FileEntry
group_files group application = filter (is_in group) application.files

-- the group is one of those that stand
abbrev pub group_stands : List ℕ → List (List ℕ) → Bool
group_stands group groups = list_any (bytes_eq group) groups

-- ---- wanted files

-- in their order each whose content is not held and was not wanted before
abbrev pub missing_beside : List FileEntry → List FileEntry → List FileEntry
missing_beside held [] = []
missing_beside held (entry ∷ entries) =
    if is_held held entry then missing_beside held entries
    else entry ∷ missing_beside (entry ∷ held) entries

-- the program files that stand in kept views hold their contents
abbrev pub group_wanted : List BareView → List ℕ → Application → List FileEntry
group_wanted views group application =
    missing_beside (standing_files views) (group_files group application)

-- ---- the blocks that are needed

-- the contents of the group that no kept view has
abbrev pub group_need : List BareView → List ℕ → Application → ℕ
group_need views group application =
    sum_by (λ entry. blocks_of entry.size)
    (new_contents (standing_files views) (group_files group application))
