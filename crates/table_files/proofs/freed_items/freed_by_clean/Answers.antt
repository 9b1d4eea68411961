use Rattle.std.proofs.Common.{◌∙◌, ◌++◌, Bor, List, ℕ, ap, map}
use Rattle.manifests.specs.declared.facts.FileEntry.{FileEntry}
use Rattle.store_state.specs.Dropped.{is_needed}
use Rattle.store_state.specs.Tables.{Tables}
use Rattle.table_files.specs.Freed.{rows_among}
use Rattle.table_files.specs.Held.{held_for_contents, held_for_views}
use Rattle.table_files.proofs.CleanItems.{freed_is, lacked}
use Rattle.table_files.proofs.freed_items.freed_by_clean.Goals as goal

pub returns : goal.returns
returns c =
    let views = ap (λ (t : Tables). t.views) c.state.view_is in
    let now = map (λ (file : Bor FileEntry). file.now) in
    let gone = held_for_views (rows_among c.as_slice-6.result.now c.as_slice-5.result.now) in
    let lost = held_for_contents (lacked (now c.as_slice-4.result.now) c.as_slice-3.result.now) in
    c.from_vec.ensures ∙ c.in_ok-add_gone.ensures
    ∙ ap (λ (items : List ℕ). items ++ gone)
    (c.in_ok-add_unneeded.ensures
    ∙ ap (λ (items : List ℕ). items ++ lost) c.new-items.ensures.items)
    ∙ freed_is c.args.state.now (now c.as_slice-4.result.now) c.as_slice-2.result.now
    c.as_slice.result.now c.as_slice-3.result.now c.as_slice-6.result.now c.as_slice-5.result.now
    (λ content. ap (λ (files : List (Bor FileEntry)). is_needed (now files) content)
    c.as_slice-4.ensures.value ∙ c.in_ok-files.ensures.needed content)
    (c.as_slice-2.ensures ∙ c.in_ok-numbers.ensures.numbers) (c.as_slice.ensures ∙ views)
    (c.as_slice-3.ensures ∙ ap (λ (t : Tables). t.contents) c.state.view_is)
    (c.as_slice-6.ensures ∙ c.in_ok-numbers.ensures.numbers) (c.as_slice-5.ensures ∙ views)
