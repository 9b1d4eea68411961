use Rattle.std.proofs.Common.{◌≤◌, ℕ, List, [], length}
use Rattle.manifest_tree.specs.declared.node.Attribute.{Attribute}
use Rattle.manifest_tree.specs.Spots.{OpenTree, Reads, in_value}
use Rattle.manifest_tree.proofs.units.read_value.Given as goal

abbrev pub invariant-loop-first : goal.invariant-loop-first
invariant-loop-first l = record {
  reads : (name : List ℕ) (attributes : List Attribute) (a : List ℕ) (around : List OpenTree)
      → Reads (in_value name attributes a l.quote [] around) l.bytes (in_value name attributes a l.quote l.made.items around) l.rest;
  shorter : length l.rest ≤ length l.bytes;
}

abbrev pub decreases-loop-first : goal.decreases-loop-first
decreases-loop-first l = length l.rest
