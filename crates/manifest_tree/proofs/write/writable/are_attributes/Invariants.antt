use Rattle.std.proofs.Common.{◌≡◌, [], take, drop}
use Rattle.manifest_tree.specs.Spots.{names_of}
use Rattle.manifest_tree.specs.WrittenText.{are_attributes}
use Rattle.manifest_tree.proofs.write.writable.are_attributes.Given as goal

abbrev pub invariant-loop-index : goal.invariant-loop-index
invariant-loop-index l = are_attributes (names_of (take l.index l.attributes)) (drop l.index l.attributes) ≡ are_attributes [] l.attributes
