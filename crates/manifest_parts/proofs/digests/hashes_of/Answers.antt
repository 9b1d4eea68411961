use Rattle.std.proofs.Common.{◌≡◌, ◌+◌, List, ◌∷◌, Err, drop, map, sym, ap, ◌∙◌, arith}
use Rattle.std.proofs.lemmas.Result.{err_from_is_err_and}
use Rattle.std.proofs.lemmas.List.{append-nil}
use Rattle.std.specs.Prelude.{codes, filter}
use Rattle.digest_list.specs.declared.digest.Digest.{Digest}
use Rattle.manifest_tree.specs.Tree.{Tree, tree_of}
use Rattle.manifest_parts.specs.Elements.{called, children_called}
use Rattle.manifest_parts.specs.Parts.{hashes}
use Rattle.manifest_parts.proofs.Lookups.{filter_hits, filter_ends}
use Rattle.manifest_parts.proofs.Hashes.{behind, behind_fails, behind_end}
use Rattle.manifest_parts.proofs.Readings.{exits, fails_same}
use Rattle.manifest_parts.proofs.digests.hashes_of.Goals as goal

pub returns-in_err-add_hash : goal.returns-in_err-add_hash
unfolding children_called
returns-in_err-add_hash c =
    let p = err_from_is_err_and c.from_residual.result c.from_residual.ensures.1 in
    let ns = c.children-nodes.result.now in
    let i = c.loop-child.child-index in
    let rest = filter (called (codes "hash")) (map tree_of (drop (i + 1) ns)) in
    exits (λ v. v.items) c.from_residual.result c.in_err-add_hash.field-0.0 _ (p.1 ∙ ap Err p.2)
    (fails_same c.in_err-add_hash.field-0.0 (behind c.loop-child.digests.items (hashes (tree_of c.child-item.result ∷ rest))) _
    (ap (λ (ts : List Tree). hashes (filter (called (codes "hash")) ts)) (sym c.children-nodes.ensures) ∙ sym c.loop-child.invariant
    ∙ ap (λ (ts : List Tree). behind c.loop-child.digests.items (hashes ts)) (filter_hits (called (codes "hash")) tree_of ns i c.child-item.result (omega arith) c.child-item.is (sym c.is_called.ensures ∙ c.if-not-is_called.false)))
    (behind_fails c.in_err-add_hash.field-0.0 c.loop-child.digests.items (tree_of c.child-item.result) rest c.in_err-add_hash.ensures))

pub returns : goal.returns
unfolding children_called
returns c =
    ap (λ (ts : List Tree). hashes (filter (called (codes "hash")) ts)) (sym c.children-nodes.ensures) ∙ sym c.loop-child.invariant
    ∙ ap (λ (ts : List Tree). behind c.loop-child.digests.items (hashes ts)) (filter_ends (called (codes "hash")) tree_of c.children-nodes.result.now c.loop-child.child-index (omega arith))
    ∙ behind_end c.loop-child.digests.items
