use Rattle.std.proofs.Common.{◌∙◌, ap}
use Rattle.std.specs.Prelude.{option_map}
use Rattle.store_state.specs.Tables.{bare_row}
use Rattle.store_state.proofs.Current.{bare_leased}
use Rattle.store_state.proofs.state.StoreState.leased.Goals as goal

pub returns-clause-bare : goal.returns-clause-bare
returns-clause-bare c =
    λ room. ap (option_map bare_row) c.leased_row.ensures
    ∙ bare_leased c.args.number c.args.self.now room
