use Rattle.std.proofs.Common.{◌∙◌, ◌+◌, ◌++◌, ◌∷◌, [], List, ap, subst, sym, take}
use Rattle.std.proofs.lemmas.List.{take_more}
use Rattle.manifests.specs.declared.facts.FileEntry.{FileEntry}
use Rattle.store_state.specs.declared.view.View.{View}
use Rattle.store_state.specs.Named.{IsNameIndex}
use Rattle.store_state.proofs.NamedFiles.{one_index_more, same_indexes}
use Rattle.store_state.proofs.table_parts.name_indexes.Goals as goal

pub loop-view-preserved : goal.loop-view-preserved
loop-view-preserved c =
    let views = c.args.views.now in
    let i = c.loop-view.view-index in
    let view = c.view-item.result in
    let index = c.in_ok-index_names.field-0 in
    let is = subst (λ (files : List FileEntry). IsNameIndex files index) c.as_slice.ensures
    c.in_ok-index_names.ensures in
    same_indexes (take i views ++ view ∷ []) (take (i + 1) views)
    (c.loop-view.indexes.items ++ index ∷ []) c.push.new.self.items
    (one_index_more (take i views) c.loop-view.indexes.items view index c.loop-view.invariant is)
    (take_more views i view c.loop-view-test.true
    ∙ ap (λ (v : View). take i views ++ v ∷ []) (sym c.view-item.is)) c.in_ok-push.ensures.items
