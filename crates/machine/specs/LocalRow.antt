-- data L NAME FROM COUNT: bytes of a data file of the leased view.
use Rattle.std.specs.Prelude.{◌≡◌, ℕ, List, [], ◌∷◌, length, Some, None}
use Rattle.machine.specs.declared.reply.Reply.{Reply}
use Rattle.machine.specs.declared.reply.Reply.TheVariants as says
use Rattle.machine.specs.DataFiles.{bare_data_named, data_named}
use Rattle.machine.specs.Leases.{lease_of, leased_bare, leased_view}
use Rattle.machine.specs.ReadRow.{part}
use Rattle.machine.specs.Rows.{Refusal, exactly}
use Rattle.machine.specs.Shape.{BareView, Shape}
use Rattle.machine.specs.Store.{Session}
use Rattle.machine.specs.Views.{DataFile, View}

-- the leased view has no data file of that name
abbrev pub LacksData : ℕ → List ℕ → Shape → Type 0
LacksData lease name shape =
    (view : BareView) × (leased_bare lease shape ≡ Some view)
    × (bare_data_named name view.data_files ≡ None)

-- refused where no lease has the number, and where its view has no such file
abbrev pub local_refusals : ℕ → List ℕ → Shape → List (Refusal Reply Session)
local_refusals lease name shape =
    exactly (lease_of lease shape.leases ≡ None) says.NoLease
    ∷ exactly (LacksData lease name shape) says.NoFile
    ∷ []

-- the reply shows the file's length and its bytes, and nothing of the store changes
pub record LocalEffect (lease : ℕ) (name : List ℕ) (from count : ℕ) (old : Session) (reply : Reply)
    (new : Session)
    : Type 0 where
  pub view : View
  pub leased : leased_view lease old.store ≡ Some view
  pub file : DataFile
  pub found : data_named name view.data_files ≡ Some file
  pub replied : reply ≡ says.Read (length file.bytes) (part from count file.bytes)
  pub is : new ≡ old
