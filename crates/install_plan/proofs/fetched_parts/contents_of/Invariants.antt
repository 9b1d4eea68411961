use Rattle.std.proofs.Common.{◌≡◌, ◌++◌, drop}
use Rattle.install_plan.specs.Changes.{contents_for, listed_at}
use Rattle.install_plan.proofs.fetched_parts.contents_of.Given as goal

abbrev pub invariant-loop-place : goal.invariant-loop-place
invariant-loop-place l =
    l.contents.items ++ contents_for (drop l.place (listed_at l.files l.wanted)) (drop l.place l.drafts)
    ≡ contents_for (listed_at l.files l.wanted) l.drafts
