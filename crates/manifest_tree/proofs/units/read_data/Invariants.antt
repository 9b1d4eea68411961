use Rattle.std.proofs.Common.{◌≤◌, List, length}
use Rattle.manifest_tree.specs.Spots.{OpenTree, Reads, inside, with_text}
use Rattle.manifest_tree.proofs.units.read_data.Given as goal

abbrev pub invariant-loop-first : goal.invariant-loop-first
invariant-loop-first l = record {
  reads : (top : OpenTree) (around : List OpenTree) → Reads (inside top around) l.bytes (inside (with_text top l.made.items) around) l.rest;
  shorter : length l.rest ≤ length l.bytes;
}

abbrev pub decreases-loop-first : goal.decreases-loop-first
decreases-loop-first l = length l.rest
