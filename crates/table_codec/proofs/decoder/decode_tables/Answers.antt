use Rattle.std.proofs.Common.{arith}
use Rattle.table_codec.proofs.Whole.{found, only}
use Rattle.table_codec.proofs.decoder.decode_tables.Goals as goal

pub returns-clause-found : goal.returns-clause-found
returns-clause-found c =
    found c.args.bytes.now c.read_all.result (λ i. omega (arith, c.type_inv.bytes i))
    c.read_all.ensures.exact

pub returns-clause-only : goal.returns-clause-only
returns-clause-only c = only c.args.bytes.now c.read_all.result c.read_all.ensures.exact
