use Rattle.std.proofs.Common.{◌≡◌, ◌∙◌}
use Rattle.journal.specs.Layout.{AreLimits}
use Rattle.journal.proofs.HeadBlock.{no_head, wrong_limits, other_head, is_head_of}
use Rattle.journal.proofs.head.read_head.Goals as goal

pub returns-then-bytes-ne-HEAD_BLOCK_SIZE-clause-none : goal.returns-then-bytes-ne-HEAD_BLOCK_SIZE-clause-none
returns-then-bytes-ne-HEAD_BLOCK_SIZE-clause-none c = no_head c.args.bytes.now (λ size. c.if-bytes-ne-HEAD_BLOCK_SIZE.true size)

pub returns-then-not-are_limits-clause-none : goal.returns-then-not-are_limits-clause-none
returns-then-not-are_limits-clause-none c =
    wrong_limits c.args.bytes.now c.from_be_bytes-blocks.result c.from_be_bytes-half.result c.from_be_bytes-blocks.ensures c.from_be_bytes-half.ensures
    (λ limits. let yes = c.are_limits.ensures.1 limits in cc (c.if-not-are_limits.true, yes))

pub returns-then-is_same-clause-found : goal.returns-then-is_same-clause-found
returns-then-is_same-clause-found c =
    let limits : AreLimits c.from_be_bytes-blocks.result c.from_be_bytes-half.result = c.are_limits.ensures.0 (cc (c.if-not-are_limits.false)) in
    let same : c.args.bytes.now ≡ c.as_slice.result.now = c.is_same.ensures.0 c.if-is_same.true in
    (limits, same ∙ c.as_slice.ensures.value ∙ is_head_of c.from_be_bytes-blocks.result c.from_be_bytes-half.result _ c.in_ok-head.ensures)

pub returns-clause-none : goal.returns-clause-none
returns-clause-none c =
    other_head c.args.bytes.now c.as_slice.result.now c.from_be_bytes-blocks.result c.from_be_bytes-half.result c.from_be_bytes-blocks.ensures c.from_be_bytes-half.ensures
    (c.as_slice.ensures.value ∙ is_head_of c.from_be_bytes-blocks.result c.from_be_bytes-half.result _ c.in_ok-head.ensures)
    (λ same. let yes = c.is_same.ensures.1 same in cc (c.if-is_same.false, yes))
