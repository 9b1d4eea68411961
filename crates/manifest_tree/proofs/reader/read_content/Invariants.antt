use Rattle.std.proofs.Common.{◌≤◌, length}
use Rattle.manifest_tree.specs.Spots.{Reads}
use Rattle.manifest_tree.specs.Pieces.{spot_of}
use Rattle.manifest_tree.proofs.reader.read_content.Given as goal

abbrev pub invariant-turns : goal.invariant-turns
invariant-turns l = record { reads : Reads (spot_of l.fn.position) l.bytes (spot_of l.spot) l.rest; shorter : length l.rest ≤ length l.bytes }

abbrev pub decreases-turns : goal.decreases-turns
decreases-turns l = length l.rest
