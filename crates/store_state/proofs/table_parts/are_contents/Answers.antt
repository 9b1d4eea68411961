use Rattle.std.proofs.Common.{List, map, sym, subst}
use Rattle.machine.specs.Blocks.{standing_files}
use Rattle.machine.specs.Views.{ContentKey, content_key}
use Rattle.store_state.specs.ContentKeys.{IsIndex}
use Rattle.store_state.specs.Contents.{held_key}
use Rattle.store_state.specs.Tables.{bare_row}
use Rattle.store_state.proofs.FromParts.{contents_judged}
use Rattle.store_state.proofs.table_parts.are_contents.Goals as goal

pub returns : goal.returns
returns c =
    let entries = standing_files (map bare_row c.args.views.now) in
    let stand = subst (λ (keys : List ContentKey). IsIndex (map content_key entries) keys)
    (sym c.as_slice.ensures.value)
    (subst (λ (keys : List ContentKey). IsIndex keys c.sort_keys.new.keys.items)
    c.in_ok-standing.ensures c.sort_keys.ensures) in
    let held = subst (λ (keys : List ContentKey). IsIndex (map held_key c.args.contents.now) keys)
    (sym c.as_slice-2.ensures.value)
    (subst (λ (keys : List ContentKey). IsIndex keys c.sort_keys-2.new.keys.items)
    c.in_ok-there.ensures c.sort_keys-2.ensures) in
    contents_judged c.args.contents.now entries c.as_slice.result.now c.as_slice-2.result.now stand
    held c.agree_alone.result c.agree_alone.ensures
