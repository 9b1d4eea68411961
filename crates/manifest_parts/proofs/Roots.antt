-- The root of a manifest, where its text is read.
use Rattle.std.proofs.Common.{◌≡◌, ℕ, Bool, true, false, List, Result, Ok, Err, refl, sym, ap, subst, ◌∙◌}
use Rattle.std.specs.Prelude.{IfOk, IfErr, codes, if◌then◌else◌}
use Rattle.manifest_tree.specs.declared.node.Node.{Node}
use Rattle.manifest_tree.specs.Tree.{Tree, tree_of}
use Rattle.manifest_tree.specs.Grammar.{Spells, SpellsTree}
use Rattle.manifest_parts.specs.declared.fault.ManifestFault.{ManifestFault}
use Rattle.manifest_parts.specs.declared.fault.ManifestFault.TheVariants as fault
use Rattle.manifest_parts.specs.Elements.{Read, has_called, called}
use Rattle.manifest_parts.specs.Outcome.{Fails, Gives}
use Rattle.manifest_parts.specs.Parts.{root_of, Tells, RefusesBytes}
use Rattle.manifest_parts.proofs.Readings.{ok_at}

-- what is read has no refusal
pub never_fails : {A B : Type 0} (e : ManifestFault) (x : A) (read : Read B) → Fails e (ok_at x) → Fails e read
never_fails fault.Memory x read h = tt
never_fails (fault.Tree error) x read h = absurd h
never_fails e x read h = absurd cc

same_ok : (t u : Tree) → ok_at t ≡ ok_at u → t ≡ u
same_ok t u h = cc

kept : (t u : Tree) (signed named : Bool) → (if signed then Err fault.Signed else (if named then ok_at t else Err (fault.Missing (codes "assembly")))) ≡ ok_at u → t ≡ u
kept t u true named h = absurd cc
kept t u false true h = same_ok t u h
kept t u false false h = absurd cc

-- the root of a manifest is the tree itself
root_kept : (t u : Tree) → root_of t ≡ Ok u → t ≡ u
unfolding root_of
root_kept t u h = kept t u (has_called (codes "Signature") t) (called (codes "assembly") t) h

pub root_spelled : (bytes : List ℕ) (root : Node) (r : Read Node) → Spells bytes root → Gives tree_of r (root_of (tree_of root)) → IfOk r (λ node. Spells bytes node)
root_spelled bytes root (Ok node) spelled h = subst (λ (t : Tree). SpellsTree bytes t) (root_kept (tree_of root) (tree_of node) h) spelled
root_spelled bytes root (Err e) spelled h = tt

pub root_again : (root : Node) (r : Read Node) → Gives tree_of r (root_of (tree_of root)) → IfOk r (λ node. root_of (tree_of node) ≡ Ok (tree_of node))
root_again root (Ok node) h = subst (λ (t : Tree). root_of t ≡ Ok (tree_of node)) (root_kept (tree_of root) (tree_of node) h) h
root_again root (Err e) h = tt

pub root_only : (t : Tree) (root : Node) (r : Read Node) → ok_at t ≡ Ok (tree_of root) → Gives tree_of r (root_of (tree_of root)) → Gives tree_of r (root_of t)
root_only t root r is h = subst (λ (u : Tree). Gives tree_of r (root_of u)) (sym (same_ok t (tree_of root) is)) h

refuses : (bytes : List ℕ) (root : Node) (e : ManifestFault) → Spells bytes root → Fails e (root_of (tree_of root)) → RefusesBytes root_of bytes e
refuses bytes root fault.Memory spelled h = tt
refuses bytes root (fault.Tree error) spelled h = absurd h
refuses bytes root e spelled h = record { tree = tree_of root; spelled = spelled; facts_are = h }

pub root_refuses : (bytes : List ℕ) (root : Node) (r : Read Node) → Spells bytes root → Gives tree_of r (root_of (tree_of root)) → IfErr r (λ e. RefusesBytes root_of bytes e)
root_refuses bytes root (Ok node) spelled h = tt
root_refuses bytes root (Err e) spelled h = refuses bytes root e spelled h

no_root : (t : Tree) (e : ManifestFault) → ok_at t ≡ Err e → ⊥
no_root t e h = cc

-- a refusal of the tree is one of the root
pub tree_refuses : (bytes : List ℕ) (e : ManifestFault) → RefusesBytes {A = Tree} Ok bytes e → RefusesBytes root_of bytes e
tree_refuses bytes fault.Memory h = tt
tree_refuses bytes (fault.Tree error) h = h
tree_refuses bytes e h = absurd (no_root h.tree e h.facts_are)
