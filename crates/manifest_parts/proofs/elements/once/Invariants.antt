use Rattle.std.proofs.Common.{◌≡◌, drop, map}
use Rattle.std.specs.Prelude.{filter}
use Rattle.manifest_tree.specs.Tree.{tree_of}
use Rattle.manifest_parts.specs.Elements.{called, one_of}
use Rattle.manifest_parts.specs.Outcome.{maybe_tree}
use Rattle.manifest_parts.proofs.Lookups.{one_behind}
use Rattle.manifest_parts.proofs.elements.once.Given as goal

abbrev pub invariant-loop-child : goal.invariant-loop-child
invariant-loop-child l =
    one_behind l.wanted (maybe_tree l.found) (filter (called l.wanted) (map tree_of (drop l.child-index l.nodes)))
    ≡ one_of l.wanted (filter (called l.wanted) (map tree_of l.nodes))
