use Rattle.std.proofs.Common.{◌∙◌, ap}
use Rattle.std.specs.Prelude.{option_map}
use Rattle.machine.specs.Previous.{previous_of}
use Rattle.store_state.specs.Tables.{bare_row}
use Rattle.store_state.proofs.Current.{bare_then}
use Rattle.store_state.proofs.state.StoreState.previous.Goals as goal

pub returns-clause-bare : goal.returns-clause-bare
returns-clause-bare c =
    λ room. ap (option_map bare_row) c.previous_row.ensures
    ∙ bare_then (previous_of c.args.key.now c.args.self.now.apps) c.args.self.now.views
