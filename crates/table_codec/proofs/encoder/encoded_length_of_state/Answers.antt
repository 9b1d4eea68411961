use Rattle.std.proofs.Common.{arith}
use Rattle.table_codec.proofs.Lengths.{length-state_text}
use Rattle.table_codec.proofs.encoder.encoded_length_of_state.Goals as goal

pub lists_length-requires : goal.lists_length-requires
lists_length-requires c = omega (arith, length-state_text c.args.state.now)

pub overflow_add-result : goal.overflow_add-result
overflow_add-result c = omega (arith, length-state_text c.args.state.now)

pub returns : goal.returns
returns c = omega (arith, length-state_text c.args.state.now)
