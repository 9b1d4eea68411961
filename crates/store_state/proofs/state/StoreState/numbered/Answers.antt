use Rattle.std.proofs.Common.{◌∙◌, ap}
use Rattle.std.specs.Prelude.{option_map}
use Rattle.store_state.specs.Tables.{bare_row}
use Rattle.store_state.proofs.Current.{bare_then}
use Rattle.store_state.proofs.state.StoreState.numbered.Goals as goal

pub returns-clause-bare : goal.returns-clause-bare
returns-clause-bare c =
    λ room. ap (option_map bare_row) c.numbered_row.ensures
    ∙ bare_then c.args.number c.args.self.now.views
