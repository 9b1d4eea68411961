use Rattle.std.proofs.Common.{List, map, sym, subst}
use Rattle.machine.specs.Views.{ContentKey, content_key}
use Rattle.store_state.specs.ContentKeys.{IsIndex}
use Rattle.store_state.specs.Contents.{held_key}
use Rattle.store_state.proofs.Indexed.{brings_is}
use Rattle.store_state.proofs.state.StoreState.is_brought.Goals as goal

pub returns : goal.returns
returns c = λ entries same. (
    let stand = subst (λ (keys : List ContentKey). IsIndex (map content_key entries) keys)
    (sym c.as_slice.ensures.value)
    (subst (λ (keys : List ContentKey). IsIndex keys c.sort_keys.new.keys.items) same
    c.sort_keys.ensures) in
    let news = subst (λ (keys : List ContentKey). IsIndex (map held_key c.args.contents.now) keys)
    (sym c.as_slice-2.ensures.value)
    (subst (λ (keys : List ContentKey). IsIndex keys c.sort_keys-2.new.keys.items)
    c.in_ok-brought.ensures c.sort_keys-2.ensures) in
    brings_is c.args.self.now.contents c.args.contents.now entries c.as_slice.result.now
    c.as_slice-2.result.now stand news c.agree.result c.agree.ensures
    )
