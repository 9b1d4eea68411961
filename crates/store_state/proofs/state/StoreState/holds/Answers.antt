use Rattle.std.proofs.Common.{◌∙◌, ◌↔◌, Contains, IsTrue, List, map, subst}
use Rattle.digest_list.specs.declared.digest.Digest.{Digest}
use Rattle.machine.specs.Blocks.{standing_files}
use Rattle.store_state.specs.Contents.{held_key}
use Rattle.store_state.specs.Tables.{bare_row}
use Rattle.store_state.proofs.Indexed.{is_there}
use Rattle.store_state.proofs.Keyed.{held_by}
use Rattle.store_state.proofs.state.StoreState.holds.Goals as goal

-- the contents are those of the standing files
pub returns : goal.returns
returns c =
    let contents = c.args.self.now.contents in
    is_there contents c.args.entry.now c.has_content.result
    (subst (λ (list : List Digest). IsTrue c.has_content.result ↔ Contains
    (map held_key contents) (record { size = c.args.entry.now.size; list = list }))
    c.as_slice.ensures.value c.has_content.ensures)
    ∙ held_by (standing_files (map bare_row c.args.self.now.views)) contents
    c.are_tables.ensures.contents c.args.entry.now
