use Rattle.std.proofs.Common.{subst}
use Rattle.manifest_tree.specs.Tree.{tree_of}
use Rattle.manifest_tree.proofs.Faults.{refused_at, refuses, stops_of}
use Rattle.manifest_tree.proofs.Flat.{spelled_read, one_tree_read, read_stops}
use Rattle.manifest_tree.proofs.Nested.{read_spells}
use Rattle.manifest_tree.proofs.Texts.{texts_are}
use Rattle.manifest_tree.specs.Outcome.{StopsBy}
use Rattle.manifest_tree.specs.Spots.{start}
use Rattle.manifest_tree.proofs.reader.tree_in.Goals as goal

pub returns-in-Ok-clause-spelled : goal.returns-in-Ok-clause-spelled
returns-in-Ok-clause-spelled c = read_spells c.args.bytes.now (tree_of c.in-Ok.root) c.requires.short c.requires.utf8 c.in-Ok.ensures

pub returns-in-Ok-clause-only : goal.returns-in-Ok-clause-only
returns-in-Ok-clause-only c = λ t p. one_tree_read c.args.bytes.now (tree_of c.in-Ok.root) t c.in-Ok.ensures (spelled_read c.args.bytes.now t p)

pub returns-in-Err-Fault-clause-only : goal.returns-in-Err-Fault-clause-only
returns-in-Err-Fault-clause-only c = λ t p. absurd (read_stops c.args.bytes.now t (c.in-Err-Fault.kind, c.in-Err-Fault.left) (spelled_read c.args.bytes.now t p) (stops_of _ _ c.in-Err-Fault.field-0 c.in-Err-Fault.kind c.in-Err-Fault.left c.in-Err-Fault.field-0-is c.in-Err-Fault.ensures))

pub returns-in-Err-Fault-clause-refused : goal.returns-in-Err-Fault-clause-refused
returns-in-Err-Fault-clause-refused c =
    refuses c.args.bytes.now c.refusal.result c.in-Err-Fault.kind c.saturating_sub.result c.refusal.ensures
    (refused_at c.args.bytes.now c.in-Err-Fault.kind c.in-Err-Fault.left c.saturating_sub.result c.requires.short c.requires.utf8 (stops_of _ _ c.in-Err-Fault.field-0 c.in-Err-Fault.kind c.in-Err-Fault.left c.in-Err-Fault.field-0-is c.in-Err-Fault.ensures) c.saturating_sub.ensures)

pub unreachable-requires : goal.unreachable-requires
unreachable-requires c = texts_are c.args.bytes.now c.requires.utf8 (subst (StopsBy start c.args.bytes.now) c.in-Err-NotText.field-0-is c.in-Err-NotText.ensures)
