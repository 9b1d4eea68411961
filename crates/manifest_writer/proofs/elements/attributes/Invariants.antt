use Rattle.std.proofs.Common.{◌≡◌, map, take}
use Rattle.manifest_writer.specs.Elements.{pair_named}
use Rattle.manifest_writer.proofs.elements.attributes.Given as goal

abbrev pub invariant-loop-pair : goal.invariant-loop-pair
invariant-loop-pair l = l.made.items ≡ map pair_named (take l.pair-index l.pairs)
