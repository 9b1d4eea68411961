use Rattle.std.proofs.Common.{arith}
use Rattle.small_types.specs.declared.limits.TheConstants.{HASH_LIMIT}
use Rattle.record_fields.proofs.Digests.{digest_reads}
use Rattle.record_fields.proofs.Lists.{list_reads}
use Rattle.record_fields.proofs.digest_readers.digests_here.Goals as goal

pub some_digests-requires-clause-few : goal.some_digests-requires-clause-few
some_digests-requires-clause-few c =
    let t = (list_reads digest_reads HASH_LIMIT (omega arith)).takes c.args.bytes.now c.args.place (c.in_ok-digests.digests, c.in_ok-digests.next) (λ i. omega (arith, c.type_inv.bytes i)) c.requires c.in_ok-digests.ensures.exact in
    t.1.0
