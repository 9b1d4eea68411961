use Rattle.std.proofs.Common.{◌≡◌, ◌++◌, drop, map, not}
use Rattle.std.specs.Prelude.{filter}
use Rattle.store_state.specs.declared.view.Content.{Content}
use Rattle.store_state.specs.Dropped.{is_needed}
use Rattle.table_files.specs.Held.{held_for_contents}
use Rattle.table_files.proofs.freed_items.add_unneeded.Given as goal

abbrev pub invariant-loop-content : goal.invariant-loop-content
invariant-loop-content l =
    l.items.items ++ held_for_contents
    (filter (λ (c : Content). not (is_needed (map (λ f. f.now) l.files) c))
    (drop l.content-index l.contents))
    ≡ l.initial.items.items ++ held_for_contents
    (filter (λ (c : Content). not (is_needed (map (λ f. f.now) l.files) c)) l.contents)
