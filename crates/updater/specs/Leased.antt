-- What is read of a leased view.
use Rattle.std.specs.Prelude.{◌≡◌, ℕ, List, Some, IsSome}
use Rattle.manifests.specs.declared.facts.FileEntry.{FileEntry}
use Rattle.machine.specs.Leases.{lease_of}
use Rattle.store_state.specs.declared.view.Content.{Content}
use Rattle.store_state.specs.declared.view.View.{View}
use Rattle.store_state.specs.Contents.{content_of}
use Rattle.store_state.specs.Named.{named_in}
use Rattle.store_state.specs.Rows.{leased_row}
use Rattle.store_state.specs.Tables.{Tables}

-- the view that the lease names is among the views, as in each valid store
abbrev pub KeepsView : ℕ → Tables → Type 0
KeepsView number tables = IsSome (lease_of number tables.leases) → IsSome (leased_row number tables)

-- the content is that of the program file of that name that stands in the leased view
pub record IsLeasedFile (number : ℕ) (name : List ℕ) (tables : Tables) (content : Content)
    : Type 0 where
  pub row : View
  pub leased : leased_row number tables ≡ Some row
  pub entry : FileEntry
  pub named : named_in name row ≡ Some entry
  pub is : content_of tables.contents entry ≡ Some content
