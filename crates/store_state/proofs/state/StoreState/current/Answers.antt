use Rattle.std.proofs.Common.{ap, ◌∙◌}
use Rattle.std.specs.Prelude.{Option, option_map}
use Rattle.store_state.specs.declared.view.View.{View}
use Rattle.store_state.specs.Tables.{bare_row}
use Rattle.store_state.proofs.Current.{bare_current}
use Rattle.store_state.proofs.state.StoreState.current.Goals as goal

pub returns-clause-bare : goal.returns-clause-bare
returns-clause-bare c = λ room. ap (λ (view : Option View). option_map bare_row view) c.current_row.ensures ∙ bare_current c.args.key.now c.args.self.now room
