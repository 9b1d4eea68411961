-- Whether each file has as many blocks as its length needs. No change is judged by it: the tables are,
-- to which changes lead.
use Rattle.std.specs.Prelude.{All}
use Rattle.store_state.specs.declared.change.Change.{Change}
use Rattle.store_state.specs.declared.change.Change.TheVariants.{Install, Group, Put}
use Rattle.store_state.specs.declared.view.LocalFile.{LocalFile}
use Rattle.store_state.specs.Contents.{IsMeasured}
use Rattle.store_state.specs.Stored.{IsHeldFor}
use Rattle.store_state.specs.Tables.{Tables}

-- the data file has as many blocks as its length needs
abbrev pub IsMeasuredLocal : LocalFile → Type 0
IsMeasuredLocal file = IsHeldFor file.length file.held

-- so has each content, and each data file of each view
pub record AreMeasured (tables : Tables) : Type 0 where
  pub contents : All IsMeasured tables.contents
  pub locals : All (λ view. All IsMeasuredLocal view.locals) tables.views

-- so has each file that the change brings
abbrev pub BringsMeasured : Change → Type 0
BringsMeasured (Install view contents provider now) =
    All IsMeasured contents × All IsMeasuredLocal view.locals
BringsMeasured (Group number group contents) = All IsMeasured contents
BringsMeasured (Put number file) = IsMeasuredLocal file
BringsMeasured _ = Unit {0}
