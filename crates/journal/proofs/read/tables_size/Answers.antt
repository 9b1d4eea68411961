use Rattle.std.proofs.Common.{◌<◌, ◌^◌, arith}
use Rattle.journal.proofs.Halves.{size_read}
use Rattle.journal.proofs.read.tables_size.Goals as goal

pub returns-clause-some : goal.returns-clause-some
returns-clause-some c =
    let fits : c.from_be_bytes.result < 2 ^ 64 = omega arith in
    (c.if-bytes-lt-BEFORE_TABLES.false, size_read c.args.bytes.now c.from_be_bytes.result c.if-bytes-lt-BEFORE_TABLES.false (λ i. let fits = c.type_inv.bytes i in omega arith) c.from_be_bytes.ensures, fits)
