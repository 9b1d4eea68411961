-- The contents of program files that are found by their names.
use Rattle.std.proofs.Common.{◌≡◌, refl, ℕ, List, Option, Some, None, true}
use Rattle.std.specs.Prelude.{IsSome, is_some, option_and_then, option_map}
use Rattle.small_types.specs.declared.room.Room.{Room}
use Rattle.manifests.specs.declared.facts.FileEntry.{FileEntry}
use Rattle.store_state.specs.declared.view.Content.{Content}
use Rattle.store_state.specs.Contents.{content_of}
use Rattle.store_state.specs.Kept.{AreTables}
use Rattle.store_state.specs.Named.{content_at, file_at, named_at}
use Rattle.store_state.specs.Shows.{bytes_in}
use Rattle.store_state.specs.Stored.{content_bytes}
use Rattle.store_state.specs.Tables.{Tables}
use Rattle.store_state.proofs.NamedFiles.{named_held}

module _ (contents : List Content) where
  bytes_of : (room : Room) (image : List ℕ) (content : Option Content) → IsSome content
      → ◌≡◌ {A = Option (List ℕ)} (Some (bytes_in room image content))
      (option_map (content_bytes room image) content)
  bytes_of room image None some = absurd cc
  bytes_of room image (Some content) some = refl

  found_bytes : (room : Room) (image : List ℕ) (o : Option FileEntry)
      → ((entry : FileEntry) → o ≡ Some entry → IsSome (content_of contents entry))
      → option_map (λ (entry : FileEntry). bytes_in room image (content_of contents entry)) o
      ≡ option_map (content_bytes room image) (option_and_then (content_of contents) o)
  found_bytes room image None held = refl
  found_bytes room image (Some entry) held =
      bytes_of room image (content_of contents entry) (held entry refl)

  some_there : (content : Option Content) → IsSome content → is_some content ≡ true
  some_there None some = absurd cc
  some_there (Some content) some = refl

  found_some : (o : Option FileEntry)
      → ((entry : FileEntry) → o ≡ Some entry → IsSome (content_of contents entry))
      → is_some (option_and_then (content_of contents) o) ≡ is_some o
  found_some None held = refl
  found_some (Some entry) held = some_there (content_of contents entry) (held entry refl)

-- its bytes are those of its content
pub files_of_contents : (room : Room) (tables : Tables) (number : ℕ) (name image : List ℕ)
    → AreTables tables
    → file_at room image number name tables
    ≡ option_map (content_bytes room image) (content_at number name tables)
files_of_contents room tables number name image are =
    found_bytes tables.contents room image (named_at number name tables)
    (λ entry is. named_held number name tables entry are is)

-- each has one
pub contents_named : (tables : Tables) (number : ℕ) (name : List ℕ) → AreTables tables
    → is_some (content_at number name tables) ≡ is_some (named_at number name tables)
contents_named tables number name are =
    found_some tables.contents (named_at number name tables)
    (λ entry is. named_held number name tables entry are is)
