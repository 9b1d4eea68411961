use Rattle.std.proofs.Common.{map}
use Rattle.store_state.specs.ContentKeys.{content_key_cmp}
use Rattle.store_state.specs.Contents.{held_key}
use Rattle.store_state.proofs.Inserted.{sorted_at, sorted_between}
use Rattle.store_state.proofs.KeyOrder.{content_key_total}
use Rattle.store_state.proofs.content_key.slot_of.Goals as goal

pub returns-in-Ok-clause-sorted : goal.returns-in-Ok-clause-sorted
returns-in-Ok-clause-sorted c =
    sorted_at content_key_cmp content_key_total (map held_key c.args.contents.now) c.args.index.now c.requires
    c.args.place c.in-Ok.at c.in-Ok.ensures.range c.in-Ok.ensures.found

pub returns-in-Err-clause-sorted : goal.returns-in-Err-clause-sorted
returns-in-Err-clause-sorted c =
    sorted_between content_key_cmp content_key_total (map held_key c.args.contents.now) c.args.index.now
    c.requires c.args.place c.in-Err.at c.in-Err.ensures.range c.in-Err.ensures.found
