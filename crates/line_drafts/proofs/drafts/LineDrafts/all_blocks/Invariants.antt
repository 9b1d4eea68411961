use Rattle.std.proofs.Common.{◌≡◌, ◌++◌, drop}
use Rattle.file_store.specs.Stores.{blocks_of_all}
use Rattle.line_drafts.proofs.drafts.LineDrafts.all_blocks.Given as goal

abbrev pub invariant-loop-draft : goal.invariant-loop-draft
invariant-loop-draft l =
    l.blocks.items ++ blocks_of_all (drop l.draft-index l.draft-items)
    ≡ blocks_of_all l.draft-items
