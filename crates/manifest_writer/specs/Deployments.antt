-- The text of a deployment manifest.
use Rattle.std.specs.Prelude.{ℕ, Bool, true, false, List, [], ◌∷◌, ◌++◌, codes, decimal, Option, Some, None}
use Rattle.identity.specs.declared.version.Version.{Version}
use Rattle.identity.specs.Version.{version_text}
use Rattle.manifest_tree.specs.declared.node.Attribute.{Attribute}
use Rattle.manifest_tree.specs.Tree.{Tree}
use Rattle.manifest_tree.specs.WrittenText.{written}
use Rattle.manifests.specs.declared.facts.Rule.{Rule}
use Rattle.manifests.specs.declared.facts.Rule.TheVariants.{Never, Before, Age}
use Rattle.manifests.specs.declared.facts.Deployment.{Deployment}
use Rattle.manifests.specs.Ages.{largest_unit, unit_word, count_of}
use Rattle.manifest_writer.specs.Elements.{named, element, leaf, root_tree, identity_tree, own_identity_tree, hash_trees}

-- whose the application is, and what it is called
abbrev pub description_tree : List ℕ → List ℕ → Tree
description_tree publisher product =
    leaf (codes "asmv1:description") (named (codes "asmv2:publisher") publisher
    ∷ named (codes "asmv2:product") product ∷ [])

-- ---- the terms

abbrev pub truth_text : Bool → List ℕ
truth_text true = codes "true"
truth_text false = codes "false"

abbrev pub minimum_attributes : Option Version → List Attribute
minimum_attributes None = []
minimum_attributes (Some version) = named (codes "minimumRequiredVersion") (version_text version)
    ∷ []

abbrev pub terms_attributes : Deployment → List Attribute
terms_attributes d =
    named (codes "install") (truth_text d.install)
    ∷ named (codes "mapFileExtensions") (truth_text d.mapped)
    ∷ minimum_attributes d.minimum

-- a number of units
abbrev pub age_attributes : List ℕ → List ℕ → List Attribute
age_attributes count unit = named (codes "maximumAge") count ∷ named (codes "unit") unit ∷ []

-- an age, in the largest unit of which it is a multiple
unfoldable pub age_tree : ℕ → Tree
age_tree seconds =
    leaf (codes "expiration")
    (age_attributes (decimal (count_of seconds)) (unit_word (largest_unit seconds)))

-- before each start
abbrev pub before_tree : Tree
before_tree = leaf (codes "beforeApplicationStartup") []

-- when a new version is looked for
abbrev pub subscription_tree : Tree → Tree
subscription_tree time =
    element (codes "subscription") [] (element (codes "update") [] (time ∷ []) ∷ [])

abbrev pub rule_trees : Rule → List Tree
rule_trees Never = []
rule_trees Before = subscription_tree before_tree ∷ []
rule_trees (Age seconds) = subscription_tree (age_tree seconds) ∷ []

abbrev pub provider_tree : List ℕ → Tree
provider_tree codebase = leaf (codes "deploymentProvider") (named (codes "codebase") codebase ∷ [])

abbrev pub provider_trees : Option (List ℕ) → List Tree
provider_trees None = []
provider_trees (Some codebase) = provider_tree codebase ∷ []

unfoldable pub terms_tree : Deployment → Tree
terms_tree d =
    element (codes "deployment") (terms_attributes d)
    (rule_trees d.rule ++ provider_trees d.provider)

-- ---- the application manifest

abbrev pub assembly_attributes : List ℕ → List ℕ → List Attribute
assembly_attributes codebase size =
    named (codes "dependencyType") (codes "install") ∷ named (codes "codebase") codebase
    ∷ named (codes "size") size ∷ []

abbrev pub assembly_tree : Deployment → Tree
assembly_tree d =
    element (codes "dependentAssembly") (assembly_attributes d.codebase (decimal d.app_size))
    (identity_tree (codes "assemblyIdentity") d.app ∷ hash_trees d.app_list)

unfoldable pub dependency_tree : Deployment → Tree
dependency_tree d = element (codes "dependency") [] (assembly_tree d ∷ [])

-- ---- the whole

unfoldable pub deployment_tree : Deployment → List ℕ → List ℕ → Tree
deployment_tree d publisher product =
    root_tree (own_identity_tree d.identity ∷ description_tree publisher product ∷ terms_tree d
    ∷ dependency_tree d ∷ [])

abbrev pub deployment_text : Deployment → List ℕ → List ℕ → List ℕ
deployment_text d publisher product = written (deployment_tree d publisher product)
