use Rattle.std.proofs.Common.{◌≡◌, drop}
use Rattle.manifest_tree.specs.Lexis.{is_among}
use Rattle.manifest_tree.specs.Spots.{names_of}
use Rattle.manifest_tree.proofs.tag.is_one_of.Given as goal

abbrev pub invariant-loop-attribute : goal.invariant-loop-attribute
invariant-loop-attribute l = is_among (names_of (drop l.attribute-index l.seen)) l.name ≡ is_among (names_of l.seen) l.name
