-- The assemblies that are to be installed, judged one by one.
use Rattle.std.proofs.Common.{◌≡◌, ℕ, Bool, List, [], ◌∷◌, ◌++◌, map, Ok, Err, refl, sym, ap, subst, ◌∙◌}
use Rattle.std.specs.Prelude.{codes, filter, if◌then◌else◌}
use Rattle.std.specs.List.{flat_map}
use Rattle.manifest_tree.specs.declared.node.Node.{Node}
use Rattle.manifest_tree.specs.Tree.{Tree, tree_of}
use Rattle.manifest_parts.specs.declared.fault.ManifestFault.{ManifestFault}
use Rattle.manifest_parts.specs.Elements.{Read, called, children_called, children_of}
use Rattle.small_types.specs.Outcome.{◌>>=◌}
use Rattle.manifest_parts.specs.Outcome.{Fails}
use Rattle.manifests.specs.declared.deployment_entry.Found.{Found}
use Rattle.manifests.specs.declared.deployment_entry.Found.TheVariants.{Nothing}
use Rattle.manifests.specs.Types.{installed_type}
use Rattle.manifests.specs.Deployments.{installed, assembly_of}
use Rattle.manifests.specs.Found.{one_behind, one_with}
use Rattle.manifest_parts.proofs.Readings.{fails_then}

-- those of the others, and the one before them where it is wanted
abbrev pub with_first : Bool → Tree → List Tree → List Tree
with_first wanted a found = if wanted then a ∷ found else found

module _ (before after : Found) (a : Tree) (wanted : Bool) (same : (found : List Tree) → one_behind after found ≡ one_behind before (with_first wanted a found)) where
  read_behind : (read : Read (List Tree)) → (read >>= one_behind after) ≡ ((read >>= λ found. Ok (with_first wanted a found)) >>= one_behind before)
  read_behind (Ok found) = same found
  read_behind (Err e) = refl

  -- an assembly is found, or passed over
  pub judged : installed_type a ≡ Ok wanted → (ts : List Tree) → one_with after ts ≡ one_with before (a ∷ ts)
  judged is ts =
      read_behind (installed ts)
      ∙ ap (λ (r : Read Bool). (r >>= λ w. installed ts >>= λ found. Ok (with_first w a found)) >>= one_behind before) (sym is)

-- an assembly that cannot be judged refuses the whole
pub judged_badly : (before : Found) (a : Tree) (e : ManifestFault) → Fails e (installed_type a) → (ts : List Tree) → Fails e (one_with before (a ∷ ts))
judged_badly before a e h ts =
    fails_then e (installed (a ∷ ts)) (one_behind before) (fails_then e (installed_type a) (λ w. installed ts >>= λ found. Ok (with_first w a found)) h)

-- ---- those of a dependency

-- the first of these is looked at, and the others are left
module _ (found : Found) (a : Tree) (here more : List Tree) (is : here ≡ a ∷ more) where
  pub found_more : (after : Found) → ((ts : List Tree) → one_with after ts ≡ one_with found (a ∷ ts)) → (ts : List Tree) → one_with after (more ++ ts) ≡ one_with found (here ++ ts)
  found_more after step ts = step (more ++ ts) ∙ ap (λ (us : List Tree). one_with found (us ++ ts)) (sym is)

  pub refused_here : (e : ManifestFault) → ((ts : List Tree) → Fails e (one_with found (a ∷ ts))) → (ts : List Tree) → Fails e (one_with found (here ++ ts))
  refused_here e h ts = subst (λ (us : List Tree). Fails e (one_with found (us ++ ts))) (sym is) (h (more ++ ts))

pub found_ends : (found : Found) (here : List Tree) → here ≡ [] → (ts : List Tree) → one_with found ts ≡ one_with found (here ++ ts)
found_ends found here is ts = ap (λ (us : List Tree). one_with found (us ++ ts)) (sym is)

-- the elements with a local name, among the nodes that are an element's children
pub called_are : (wanted : List ℕ) (ns : List Node) (n : Node) → map tree_of ns ≡ children_of (tree_of n) → filter (called wanted) (map tree_of ns) ≡ children_called wanted (tree_of n)
unfolding children_called
called_are wanted ns n is = ap (filter (called wanted)) is

-- ---- those of all dependencies

abbrev pub those : List Tree → List Tree
those dependencies = flat_map (children_called (codes "dependentAssembly")) dependencies

pub whole_is : (ns : List Node) (n : Node) → map tree_of ns ≡ children_of (tree_of n)
    → one_with Nothing (those (filter (called (codes "dependency")) (map tree_of ns))) ≡ assembly_of (tree_of n)
unfolding assembly_of children_called
whole_is ns n is = ap (λ (ts : List Tree). one_with Nothing (those (filter (called (codes "dependency")) ts))) is

-- of the first of these dependencies
pub refused_first : (e : ManifestFault) (found : Found) (t : Tree) (here more : List Tree) → here ≡ t ∷ more
    → ((ts : List Tree) → Fails e (one_with found (children_called (codes "dependentAssembly") t ++ ts))) → Fails e (one_with found (those here))
refused_first e found t here more is h = subst (λ (ts : List Tree). Fails e (one_with found (those ts))) (sym is) (h (those more))

pub first_found : (found after : Found) (t : Tree) (here more : List Tree) → here ≡ t ∷ more
    → ((ts : List Tree) → one_with after ts ≡ one_with found (children_called (codes "dependentAssembly") t ++ ts)) → one_with after (those more) ≡ one_with found (those here)
first_found found after t here more is step = step (those more) ∙ ap (λ (ts : List Tree). one_with found (those ts)) (sym is)

pub ended : (found : Found) (here : List Tree) → here ≡ [] → one_with found (those here) ≡ one_behind found []
ended found here is = ap (λ (ts : List Tree). one_with found (those ts)) is
