use Rattle.machine.specs.Current.{current_bare}
use Rattle.store_state.specs.Tables.{table_shape}
use Rattle.table_weight.proofs.MovedData.{some_moves}
use Rattle.table_weight.proofs.moves.weigh_moves.Goals as goal

pub returns : goal.returns
returns c = λ room.
    some_moves (current_bare c.args.key.now (table_shape room c.args.state.now)) c.current.result
    c.args.files.now (c.current.ensures.bare room) c.in_ok-some.some 18446744073709551615
    c.in-Some.view c.as_slice-old.result.now c.as_slice.result.now c.in-Some.is
    c.as_slice-old.ensures c.as_slice.ensures c.in_ok-some.ensures
