use Rattle.std.proofs.Common.{◌≤◌, List, [], length}
use Rattle.manifest_tree.specs.Lexis.{name_byte, past, name_at}
use Rattle.manifest_tree.specs.Spots.{OpenTree, Reads, in_tag}
use Rattle.manifest_tree.specs.Pieces.{HasLate}
use Rattle.manifest_tree.proofs.tag.read_tag.Given as goal

abbrev pub invariant-attributes : goal.invariant-attributes
invariant-attributes l = record {
  reads : (around : List OpenTree) → Reads (in_tag (name_at l.bytes) [] around) (past name_byte l.bytes) (in_tag l.name l.attributes.items around) l.rest;
  late : HasLate l.late l.attributes.items;
  shorter : length l.rest ≤ length l.bytes;
}

abbrev pub decreases-attributes : goal.decreases-attributes
decreases-attributes l = length l.rest
