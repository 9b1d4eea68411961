-- What reading the bytes of a manifest answers, from its root and what is read of that.
use Rattle.std.proofs.Common.{◌≡◌, ℕ, Bool, true, false, List, [], ◌∷◌, Option, Some, None, Result, Ok, Err, refl, sym, ap, subst, ◌∙◌, arith}
use Rattle.manifest_tree.specs.declared.node.Node.{Node}
use Rattle.manifest_tree.specs.Tree.{Tree, tree_of}
use Rattle.manifest_tree.specs.Grammar.{Spells, SpellsTree}
use Rattle.manifest_parts.specs.declared.fault.ManifestFault.{ManifestFault}
use Rattle.manifest_parts.specs.declared.fault.ManifestFault.TheVariants as fault
use Rattle.manifest_parts.specs.Elements.{Read}
use Rattle.small_types.specs.Outcome.{◌>>=◌}
use Rattle.manifest_parts.specs.Outcome.{Fails, Gives}
use Rattle.manifest_parts.specs.Parts.{root_of, manifest_of, Tells, RefusesBytes, Answers}
use Rattle.manifest_parts.proofs.Readings.{fails_then}

module _ {A : Type 0} (facts : Tree → Read A) where
  -- a refusal of the root is one of the manifest
  pub refused_root : (bytes : List ℕ) (e : ManifestFault) → RefusesBytes root_of bytes e → RefusesBytes (manifest_of facts) bytes e
  unfolding manifest_of
  refused_root bytes fault.Memory h = tt
  refused_root bytes (fault.Tree error) h = h
  refused_root bytes e h = record { tree = h.tree; spelled = h.spelled; facts_are = ap (λ (r : Read Tree). r >>= facts) h.facts_are }

  facts_of_root : (t : Tree) → root_of t ≡ Ok t → manifest_of facts t ≡ facts t
  unfolding manifest_of
  facts_of_root t h = ap (λ (r : Read Tree). r >>= facts) h

  fails_answer : (bytes : List ℕ) (node : Node) (e : ManifestFault) → Spells bytes node → root_of (tree_of node) ≡ Ok (tree_of node)
      → Fails e (facts (tree_of node)) → RefusesBytes (manifest_of facts) bytes e
  fails_answer bytes node fault.Memory spelled root h = tt
  fails_answer bytes node (fault.Tree error) spelled root h = absurd h
  fails_answer bytes node e spelled root h = record { tree = tree_of node; spelled = spelled; facts_are = facts_of_root (tree_of node) root ∙ h }

  -- what is read of a root that the bytes spell is what they say
  pub answered : (bytes : List ℕ) (node : Node) (r : Read A) → Spells bytes node → root_of (tree_of node) ≡ Ok (tree_of node)
      → Gives (λ (x : A). x) r (facts (tree_of node)) → Answers (manifest_of facts) bytes r
  answered bytes node (Ok x) spelled root h = record { tree = tree_of node; spelled = spelled; facts_are = facts_of_root (tree_of node) root ∙ h }
  answered bytes node (Err e) spelled root h = fails_answer bytes node e spelled root h

  -- the same of a given tree, where the root is that of the tree
  pub answered_only : (t : Tree) (node : Node) (r : Read A) → root_of t ≡ Ok (tree_of node) → Gives (λ (x : A). x) r (facts (tree_of node))
      → Gives (λ (x : A). x) r (manifest_of facts t)
  unfolding manifest_of
  answered_only t node r root h = subst (λ (read : Read A). Gives (λ (x : A). x) r read) (sym (ap (λ (read : Read Tree). read >>= facts) root)) h

  pub refused_only : (t : Tree) (e : ManifestFault) → Fails e (root_of t) → Fails e (manifest_of facts t)
  unfolding manifest_of
  refused_only t e h = fails_then e (root_of t) facts h
