-- What is found of the assemblies that are to be installed, while they are looked through.
use Rattle.std.specs.Prelude.{List, ◌∷◌, codes, Err}
use Rattle.manifest_tree.specs.Tree.{Tree}
use Rattle.manifest_parts.specs.declared.fault.ManifestFault.TheVariants.{Twice}
use Rattle.manifest_parts.specs.Elements.{Read}
use Rattle.small_types.specs.Outcome.{◌>>=◌}
use Rattle.manifest_parts.specs.Outcome.{tree_at}
use Rattle.manifests.specs.declared.deployment_entry.Found.{Found}
use Rattle.manifests.specs.declared.deployment_entry.Found.TheVariants.{Nothing, One, More}
use Rattle.manifests.specs.Deployments.{installed, just_one}

-- the one of these and of what is found
abbrev pub one_behind : Found → List Tree → Read Tree
one_behind Nothing found = just_one found
one_behind (One node) found = just_one (tree_at node ∷ found)
one_behind More found = Err (Twice (codes "dependentAssembly"))

-- the one of what is found and of those of the assemblies that are to be installed
abbrev pub one_with : Found → List Tree → Read Tree
one_with before assemblies = installed assemblies >>= one_behind before
