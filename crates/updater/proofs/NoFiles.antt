-- Changes by which nothing comes bring no file.
use Rattle.std.proofs.Common.{◌≡◌, [], refl}
use Rattle.store_state.specs.declared.change.Change.{Change}
use Rattle.store_state.specs.declared.change.Change.TheVariants.{Group, Install, Put}
use Rattle.store_state.specs.Measured.{BringsMeasured}
use Rattle.store_state.specs.Tables.{Tables}
use Rattle.table_files.specs.Freed.{brought}
use Rattle.table_weight.specs.Laws.{BringsNothing}

pub nothing_measured : (tables : Tables) (change : Change) → BringsNothing tables change → BringsMeasured change
nothing_measured tables (Install view contents provider now) nothing = absurd nothing
nothing_measured tables (Group view group contents) nothing = absurd nothing
nothing_measured tables (Put view file) nothing = absurd nothing
nothing_measured tables _ nothing = tt

pub nothing_brought : (tables : Tables) (change : Change) → BringsNothing tables change → brought change ≡ []
nothing_brought tables (Install view contents provider now) nothing = absurd nothing
nothing_brought tables (Group view group contents) nothing = absurd nothing
nothing_brought tables (Put view file) nothing = absurd nothing
nothing_brought tables _ nothing = refl
