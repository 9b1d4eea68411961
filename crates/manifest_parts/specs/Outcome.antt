-- What a call over a tree gives, against what the definitions read. Memory may always run out.
use Rattle.std.specs.Prelude.{◌≡◌, ℕ, List, Option, option_map, Result, Ok, Err}
use Rattle.std.specs.Borrow.{Bor}
use Rattle.manifest_tree.specs.declared.node.Node.{Node}
use Rattle.manifest_tree.specs.Tree.{Tree, tree_of}
use Rattle.manifest_parts.specs.declared.fault.ManifestFault.{ManifestFault}
use Rattle.manifest_parts.specs.declared.fault.ManifestFault.TheVariants as fault
use Rattle.manifest_parts.specs.Elements.{Read}

-- an error of a call is that of the reading, unless memory ran out; a tree is no fault of a text
abbrev pub Fails : {A : Type 0} → ManifestFault → Read A → Type 0
Fails fault.Memory read = Unit {0}
Fails (fault.Tree error) read = ⊥
Fails e read = read ≡ Err e

-- a call gives what the reading gives, unless memory ran out
abbrev pub Gives : {A B : Type 0} → (A → B) → Read A → Read B → Type 0
Gives view (Ok x) read = read ≡ Ok (view x)
Gives view (Err e) read = Fails e read

abbrev pub refusal : ManifestFault → Read (Unit {0})
refusal e = Err e

-- the call is refused so, unless memory ran out
abbrev pub Refused : {A : Type 0} → ManifestFault → Read A → Type 0
Refused e (Ok x) = ⊥
Refused e (Err found) = Fails found (refusal e)

-- what is pointed to

abbrev pub text_at : Bor (List ℕ) → List ℕ
text_at t = t.now

abbrev pub maybe_text : Option (Bor (List ℕ)) → Option (List ℕ)
maybe_text = option_map text_at

abbrev pub tree_at : Bor Node → Tree
tree_at n = tree_of n.now

abbrev pub maybe_tree : Option (Bor Node) → Option Tree
maybe_tree = option_map tree_at
