-- What an installation fetches, and the blocks that it needs.
use Rattle.std.specs.Prelude.{ℕ, ◌+◌, Bool, not, ◌&&◌, List, [], ◌∷◌, filter, sum_by, if◌then◌else◌}
use Rattle.std.specs.List.{list_any}
use Rattle.manifests.specs.declared.facts.Application.{Application}
use Rattle.manifests.specs.declared.facts.Deployment.{Deployment}
use Rattle.manifests.specs.declared.facts.FileEntry.{FileEntry}
use Rattle.manifests.specs.Applications.{is_below_pre}
use Rattle.machine.specs.Blocks.{blocks_of, distinct, standing_files}
use Rattle.machine.specs.Current.{bare_data_of, current_bare}
use Rattle.machine.specs.Shape.{BareData, BareView, Shape}
use Rattle.machine.specs.Views.{is_required, same_content}

-- one of these files has the content
abbrev pub is_held : List FileEntry → FileEntry → Bool
is_held held entry = list_any (same_content entry) held

-- ---- wanted files

-- in the manifest's order each data file, and each required program file whose content is not held
-- and was not wanted before
abbrev pub wanted_beside : List FileEntry → List FileEntry → List FileEntry
wanted_beside held [] = []
wanted_beside held (entry ∷ entries) =
    if entry.local then entry ∷ wanted_beside held entries
    else if is_required entry && not (is_held held entry) then
    entry ∷ wanted_beside (entry ∷ held) entries
    else wanted_beside held entries

-- the program files that stand in kept views hold their contents
abbrev pub wanted : List BareView → Application → List FileEntry
wanted views application = wanted_beside (standing_files views) application.files

-- ---- the blocks that are needed

-- of the files with one content key one, where none of the used ones has it
abbrev pub new_contents : List FileEntry → List FileEntry → List FileEntry
new_contents used entries = filter (λ entry. not (is_held used entry)) (distinct entries)

-- the contents of the required program files that no kept view has
abbrev pub program_need : List BareView → Application → ℕ
program_need views application =
    sum_by (λ entry. blocks_of entry.size)
    (new_contents (standing_files views) (filter is_required application.files))

-- the data files that the release deploys
abbrev pub deployed_need : Application → ℕ
deployed_need application =
    sum_by (λ entry. blocks_of entry.size) (filter (λ entry. entry.local) application.files)

-- the old data files that stay or are kept aside: those outside `.pre`
abbrev pub copied_need : List BareData → ℕ
copied_need old =
    sum_by (λ file. blocks_of file.length) (filter (λ file. not (is_below_pre file.name)) old)

abbrev pub install_need : Shape → Deployment → Application → ℕ
install_need shape d a =
    program_need shape.views a + deployed_need a
    + copied_need (bare_data_of (current_bare d.identity.key shape))
