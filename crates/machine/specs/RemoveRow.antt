-- remove L NAME: the data file of the leased view is gone.
use Rattle.std.specs.Prelude.{◌≡◌, ℕ, List, Some}
use Rattle.machine.specs.declared.reply.Reply.{Reply}
use Rattle.machine.specs.declared.reply.Reply.TheVariants as says
use Rattle.machine.specs.DataFiles.{removed_in}
use Rattle.machine.specs.Leases.{leased_view}
use Rattle.machine.specs.LocalRow.{local_refusals}
use Rattle.machine.specs.Rows.{Refusal}
use Rattle.machine.specs.Shape.{Shape}
use Rattle.machine.specs.Store.{Session}
use Rattle.machine.specs.Views.{View}

-- refused as `data` is: where no lease has the number, and where its view has no such file
abbrev pub remove_refusals : ℕ → List ℕ → Shape → List (Refusal Reply Session)
remove_refusals lease name shape = local_refusals lease name shape

pub record RemoveEffect (lease : ℕ) (name : List ℕ) (old : Session) (reply : Reply) (new : Session)
    : Type 0 where
  pub view : View
  pub leased : leased_view lease old.store ≡ Some view
  pub replied : reply ≡ says.Removed
  pub is : new ≡ record old { store = removed_in view.number name old.store }
