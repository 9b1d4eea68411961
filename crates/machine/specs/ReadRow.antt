-- read L NAME FROM COUNT: bytes of a program file of the leased view.
use Rattle.std.specs.Prelude.{◌≡◌, ℕ, List, [], ◌∷◌, drop, find, length, take, bytes_eq, Option, Some, None}
use Rattle.manifests.specs.declared.facts.FileEntry.{FileEntry}
use Rattle.machine.specs.declared.reply.Reply.{Reply}
use Rattle.machine.specs.declared.reply.Reply.TheVariants as says
use Rattle.machine.specs.Leases.{lease_of, leased_bare, leased_view}
use Rattle.machine.specs.Rows.{Refusal, exactly}
use Rattle.machine.specs.Shape.{BareView, Shape}
use Rattle.machine.specs.Store.{Session}
use Rattle.machine.specs.Views.{ListedFile, View, standing_entries}

-- the file of that name, among entries and among files
abbrev pub entry_named : List ℕ → List FileEntry → Option FileEntry
entry_named name entries = find (λ entry. bytes_eq entry.name name) entries

abbrev pub file_named : List ℕ → List ListedFile → Option ListedFile
file_named name files = find (λ file. bytes_eq file.entry.name name) files

-- in the leased view no program file of that name stands
abbrev pub LacksFile : ℕ → List ℕ → Shape → Type 0
LacksFile lease name shape =
    (view : BareView) × (leased_bare lease shape ≡ Some view)
    × (entry_named name (standing_entries view.groups view.application) ≡ None)

-- refused where no lease has the number, and where its view has no such file
abbrev pub read_refusals : ℕ → List ℕ → Shape → List (Refusal Reply Session)
read_refusals lease name shape =
    exactly (lease_of lease shape.leases ≡ None) says.NoLease
    ∷ exactly (LacksFile lease name shape) says.NoFile
    ∷ []

-- the bytes from a place on, at most so many
abbrev pub part : ℕ → ℕ → List ℕ → List ℕ
part from count bytes = take count (drop from bytes)

-- the reply shows the file's length and its bytes, and nothing of the store changes
pub record ReadEffect (lease : ℕ) (name : List ℕ) (from count : ℕ) (old : Session) (reply : Reply)
    (new : Session)
    : Type 0 where
  pub view : View
  pub leased : leased_view lease old.store ≡ Some view
  pub file : ListedFile
  pub found : file_named name view.program_files ≡ Some file
  pub replied : reply ≡ says.Read (length file.bytes) (part from count file.bytes)
  pub is : new ≡ old
