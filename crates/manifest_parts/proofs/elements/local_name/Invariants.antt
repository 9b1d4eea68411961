use Rattle.std.proofs.Common.{◌≡◌, length}
use Rattle.manifest_parts.specs.Elements.{local_from}
use Rattle.manifest_parts.proofs.elements.local_name.Given as goal

abbrev pub invariant-loop-first : goal.invariant-loop-first
invariant-loop-first l = local_from l.found l.rest ≡ local_from l.name l.name

abbrev pub decreases-loop-first : goal.decreases-loop-first
decreases-loop-first l = length l.rest
