use Rattle.std.proofs.Common.{sym, ap, ◌∙◌, arith}
use Rattle.std.specs.Prelude.{codes}
use Rattle.manifest_tree.specs.Tree.{tree_of}
use Rattle.manifest_parts.specs.Elements.{children_called}
use Rattle.manifest_parts.proofs.Hashes.{counted_all, counted_over, few_of}
use Rattle.manifest_parts.proofs.Readings.{gives_same}
use Rattle.manifest_parts.proofs.digests.counted.Goals as goal

pub returns-then-count_hashes-gt-HASH_LIMIT-clause-digests : goal.returns-then-count_hashes-gt-HASH_LIMIT-clause-digests
returns-then-count_hashes-gt-HASH_LIMIT-clause-digests c = counted_over (children_called (codes "hash") (tree_of c.args.node.now)) (omega (arith, c.count_hashes.ensures, c.if-count_hashes-gt-HASH_LIMIT.true))

pub returns-clause-digests : goal.returns-clause-digests
returns-clause-digests c =
    gives_same (λ v. v.items) c.hashes_of.result _ _ (counted_all (children_called (codes "hash") (tree_of c.args.node.now)) (omega (arith, c.count_hashes.ensures, c.if-count_hashes-gt-HASH_LIMIT.false))) c.hashes_of.ensures

pub returns-clause-few : goal.returns-clause-few
returns-clause-few c =
    few_of c.hashes_of.result (children_called (codes "hash") (tree_of c.args.node.now)) c.hashes_of.ensures (omega (arith, c.count_hashes.ensures, c.if-count_hashes-gt-HASH_LIMIT.false))
