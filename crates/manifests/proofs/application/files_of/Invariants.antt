use Rattle.std.proofs.Common.{◌≡◌, [], drop, map}
use Rattle.manifest_tree.specs.Tree.{tree_of}
use Rattle.manifests.specs.Applications.{files_from}
use Rattle.manifests.proofs.application.files_of.Given as goal

abbrev pub invariant-loop-child : goal.invariant-loop-child
invariant-loop-child l = files_from [] (map tree_of l.nodes) ≡ files_from l.files (map tree_of (drop l.child-index l.nodes))
