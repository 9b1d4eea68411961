-- What a text says that spells a tree.
use Rattle.std.proofs.Common.{◌≡◌, ℕ, List, Result, Ok, Err}
use Rattle.std.specs.Prelude.{IfOk}
use Rattle.manifest_tree.specs.declared.write.WriteFault.{WriteFault}
use Rattle.manifest_tree.specs.Grammar.{SpellsTree}
use Rattle.manifest_tree.specs.Tree.{Tree}
use Rattle.manifest_parts.specs.Elements.{Read}
use Rattle.manifest_parts.specs.Parts.{Tells}

pub told : {A : Type 0} (facts : Tree → Read A) (result : Result (List ℕ) WriteFault) (t : Tree) (a : A) → IfOk result (λ text. SpellsTree text t) → facts t ≡ Ok a
    → IfOk result (λ text. Tells facts text (Ok a))
told facts (Ok text) t a spelled are = record { tree = t; spelled = spelled; facts_are = are }
told facts (Err e) t a spelled are = spelled
