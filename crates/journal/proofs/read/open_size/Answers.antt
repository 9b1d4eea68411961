use Rattle.std.proofs.Common.{arith, rules, ◌≡◌, slice_index}
use Rattle.journal.proofs.Parse.{opens_size}
use Rattle.journal.proofs.read.open_size.Goals as goal

pub returns-clause-some : goal.returns-clause-some
returns-clause-some c =
    let gate : slice_index c.args.bytes.now 0 ≡ 1 = search rules in
    opens_size c.args.bytes.now c.from_be_bytes-size.result c.if-bytes-lt-BEFORE.false gate (λ i. let fits = c.type_inv.bytes i in omega arith) c.from_be_bytes-size.ensures
