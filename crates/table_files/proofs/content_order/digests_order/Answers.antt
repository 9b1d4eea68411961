use Rattle.std.proofs.Common.{◌∙◌, sym, arith}
use Rattle.store_state.specs.ContentKeys.{digest_cmp}
use Rattle.store_state.proofs.KeyOrder.{ended}
use Rattle.table_files.proofs.content_order.digests_order.Goals as goal

pub returns : goal.returns
returns c =
    c.cmp.ensures
    ∙ sym (ended digest_cmp c.args.a.now c.args.b.now c.loop-place.place (omega arith))
    ∙ c.loop-place.invariant
