use Rattle.std.proofs.Common.{◌≡◌, ◌+◌, ◌≤◌, ◌++◌, map, reverse, vec_capacity, vec_len}
use Rattle.file_store.specs.Stores.{draft_blocks}
use Rattle.line_drafts.proofs.drafts.lists_of.Given as goal

abbrev pub invariant-loop-draft : goal.invariant-loop-draft
invariant-loop-draft l = record {
  lists : map draft_blocks l.left.items ++ reverse l.lists.items ≡ map draft_blocks l.fn.drafts;
  room : vec_len l.lists + vec_len l.left ≤ vec_capacity l.lists;
}

abbrev pub decreases-loop-draft : goal.decreases-loop-draft
decreases-loop-draft l = vec_len l.left
