use Rattle.std.proofs.Common.{arith, map}
use Rattle.std.proofs.lemmas.List.{length-map}
use Rattle.store_state.specs.ContentKeys.{content_key_cmp}
use Rattle.store_state.specs.Contents.{held_key}
use Rattle.store_state.proofs.Places.{stands_at, stands_nowhere, stands_within}
use Rattle.store_state.proofs.KeyOrder.{one_key, content_key_total}
use Rattle.store_state.proofs.content_key.place_of_content.Goals as goal

pub returns-in-Ok-clause-found : goal.returns-in-Ok-clause-found
returns-in-Ok-clause-found c =
    stands_at content_key_cmp content_key_total one_key (map held_key c.args.contents.now) c.args.index.now
    c.requires (record { size = c.args.size; list = c.args.list.now }) c.in-Ok.at 0
    c.in-Ok.ensures.found

pub returns-in-Ok-clause-within : goal.returns-in-Ok-clause-within
returns-in-Ok-clause-within c =
    omega (
      arith,
      length-map c.args.contents.now held_key,
      stands_within content_key_cmp content_key_total
          one_key (map held_key c.args.contents.now) c.args.index.now c.requires
          (record { size = c.args.size; list = c.args.list.now }) c.in-Ok.at 0 c.in-Ok.ensures.found,
    )

pub returns-in-Err-clause-found : goal.returns-in-Err-clause-found
returns-in-Err-clause-found c =
    stands_nowhere content_key_cmp content_key_total one_key (map held_key c.args.contents.now)
    c.args.index.now c.requires (record { size = c.args.size; list = c.args.list.now })
    c.in-Err.field-0 c.in-Err.ensures.found
