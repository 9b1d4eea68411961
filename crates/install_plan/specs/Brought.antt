-- The files that an install fetched.
use Rattle.std.specs.Prelude.{◌≡◌, ◌⊎◌, ℕ, List, [], ◌∷◌, true, All, Any, Ok}
use Rattle.small_types.specs.declared.room.Room.{Room}
use Rattle.small_types.specs.declared.target.Target.{Target}
use Rattle.addresses.specs.Join.{file_target_of}
use Rattle.digest_list.specs.Matches.{Matches}
use Rattle.manifests.specs.declared.facts.FileEntry.{FileEntry}
use Rattle.machine.specs.Blocks.{standing_files}
use Rattle.machine.specs.Current.{current_view, data_of, listed_by}
use Rattle.machine.specs.Migrated.{IsAside, IsKept}
use Rattle.machine.specs.Shape.{Shape, shape_of}
use Rattle.machine.specs.Store.{Session, Store}
use Rattle.machine.specs.Views.{DataFile, ListedFile, View, key_of, same_content}
use Rattle.machine.specs.Wanted.{is_held, wanted}
use Rattle.store_state.specs.declared.view.Content.{Content}
use Rattle.store_state.specs.Stored.{content_bytes}
use Rattle.links.specs.Links.{LinksState}
use Rattle.install_plan.specs.Given.{IsFromLeft}

-- ---- contents

-- the content of a file, whose bytes in the image were got at the target and match
pub record IsContentFor (room : Room) (image : List ℕ) (before after : LinksState)
    (entry : FileEntry) (target : Target) (content : Content) : Type 0 where
  pub size : content.size ≡ entry.size
  pub list : content.list ≡ entry.list
  pub from : IsFromLeft (Matches entry.list entry.size) target before after
      (content_bytes room image content)

-- one for each file, in order
abbrev pub AreContentsFor : Room → List ℕ → LinksState → LinksState → List FileEntry
    → List Target → List Content → Type 0
AreContentsFor room image before after [] [] [] = Unit {0}
AreContentsFor room image before after (entry ∷ entries) (target ∷ targets)
    (content ∷ contents) =
    IsContentFor room image before after entry target content
    × AreContentsFor room image before after entries targets contents
AreContentsFor room image before after entries targets contents = ⊥

-- ---- the files of the view

-- A kept view has the content of a program file, or its bytes came from the address of a wanted
-- file of that content. `Came` says how bytes come for a file from an address.
abbrev pub IsHeldOrCame : (FileEntry → Target → List ℕ → Type 0)
    → Shape → List FileEntry → View → ListedFile → Type 0
IsHeldOrCame Came shape wants view file =
    (is_held (standing_files shape.views) file.entry ≡ true)
    ⊎ Any (λ entry. (target : Target)
    × (file_target_of view.base view.deployment.mapped entry.name ≡ Ok target)
    × (same_content entry file.entry ≡ true)
    × Came entry target file.bytes)
    wants

-- Bytes that match the file were got at the target.
abbrev pub IsFileFrom : LinksState → LinksState → FileEntry → Target → List ℕ → Type 0
IsFileFrom before after entry target bytes =
    IsFromLeft (Matches entry.list entry.size) target before after bytes

-- It is a data file of the view that was current, which stays or is kept aside; or its bytes were
-- got at the address of a data file that the release deploys under the name.
abbrev pub IsCarriedOrFetched : Store → LinksState → LinksState → View → DataFile → Type 0
IsCarriedOrFetched old before after view file =
    IsKept (data_of (current_view (key_of view) old)) (listed_by (current_view (key_of view) old))
    view.application.files file
    ⊎ IsAside (data_of (current_view (key_of view) old))
    (listed_by (current_view (key_of view) old)) view.application.files file
    ⊎ Any (λ (entry : FileEntry). (target : Target) × (entry.local ≡ true)
    × (entry.name ≡ file.name)
    × (file_target_of view.base view.deployment.mapped entry.name ≡ Ok target)
    × IsFromLeft (Matches entry.list entry.size) target before after file.bytes)
    view.application.files

-- so are all files of a view that an install brings to a session
pub record IsBrought (old : Session) (before after : LinksState) (view : View) : Type 0 where
  pub files : All (IsHeldOrCame (IsFileFrom before after) (shape_of old)
      (wanted (shape_of old).views view.application) view) view.program_files
  pub data_files : All (IsCarriedOrFetched old.store before after view) view.data_files
