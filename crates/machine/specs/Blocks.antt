-- How many blocks files take.
use Rattle.std.specs.Prelude.{ℕ, ◌+◌, ◌-◌, ◌/◌, List, [], ◌∷◌, ◌++◌, filter, flat_map, map, sum_by, if◌then◌else◌}
use Rattle.std.specs.List.{list_any}
use Rattle.small_types.specs.declared.limits.TheConstants.{BLOCK_SIZE}
use Rattle.manifests.specs.declared.facts.Application.{Application}
use Rattle.manifests.specs.declared.facts.FileEntry.{FileEntry}
use Rattle.machine.specs.Shape.{BareData, BareView, Shape}
use Rattle.machine.specs.Views.{is_required, same_content, standing_entries}

-- the blocks of so many bytes
abbrev pub blocks_of : ℕ → ℕ
blocks_of bytes = (bytes + BLOCK_SIZE - 1) / BLOCK_SIZE

-- of the files with one content key, the last one
abbrev pub distinct : List FileEntry → List FileEntry
distinct [] = []
distinct (entry ∷ entries) =
    if list_any (same_content entry) entries then distinct entries else entry ∷ distinct entries

-- the program files of all these views that stand
abbrev pub standing_files : List BareView → List FileEntry
standing_files views = flat_map (λ view. standing_entries view.groups view.application) views

-- program files that share their bytes share their blocks; each data file has its own
abbrev pub used_blocks : List BareView → ℕ
used_blocks views =
    sum_by (λ entry. blocks_of entry.size) (distinct (standing_files views))
    + sum_by (λ file. blocks_of file.length) (flat_map (λ view. view.data_files) views)

-- the program files of these applications that stand in each view
abbrev pub required_files : List Application → List FileEntry
required_files applications =
    flat_map (λ application. filter is_required application.files) applications

-- a data file as it is deployed
abbrev pub deployed_data : FileEntry → BareData
deployed_data entry = record { name = entry.name; length = entry.size }

-- the data files that these applications deploy
abbrev pub deployed_files : List Application → List BareData
deployed_files applications =
    flat_map
    (λ application. map deployed_data (filter (λ entry. entry.local) application.files))
    applications

-- The blocks of views, and of jobs that fetch these applications. A job counts whole from its
-- beginning on: program files that share their bytes share their blocks, also with those of views;
-- each data file has its own.
abbrev pub blocks_with : List BareView → List Application → ℕ
blocks_with views jobs =
    sum_by (λ entry. blocks_of entry.size) (distinct (required_files jobs ++ standing_files views))
    + sum_by (λ file. blocks_of file.length)
    (deployed_files jobs ++ flat_map (λ view. view.data_files) views)

-- the blocks that files take, or that open jobs count
abbrev pub counted_blocks : Shape → ℕ
counted_blocks shape = blocks_with shape.views shape.jobs

-- all other ones
abbrev pub free_blocks : Shape → ℕ
free_blocks shape = shape.room.blocks - counted_blocks shape
