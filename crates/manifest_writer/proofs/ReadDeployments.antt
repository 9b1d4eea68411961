-- What is written of a deployment is read again.
use Rattle.std.proofs.Common.{◌≡◌, ℕ, ◌*◌, ◌/◌, ◌%◌, Bool, true, false, List, [], ◌∷◌, ◌++◌, Option, Some, None, Ok, refl, sym, ap, ◌∙◌, arith, decimal}
use Rattle.std.specs.Prelude.{codes, ◌==◌, IfSome, filter, if◌then◌else◌}
use Rattle.std.proofs.lemmas.Bool.{eqb-true}
use Rattle.small_types.specs.declared.limits.TheConstants.{DIGIT_LIMIT, MANIFEST_LIMIT, URL_LIMIT}
use Rattle.identity.specs.declared.version.Version.{Version}
use Rattle.identity.specs.Version.{IsVersion}
use Rattle.identity.proofs.VersionLemmas.{version_read-version_text}
use Rattle.manifest_tree.specs.declared.node.Attribute.{Attribute}
use Rattle.manifest_tree.specs.Tree.{Tree, trees}
use Rattle.manifest_parts.specs.Elements.{local, declares, value_of, called, children_called, first_called, one_of, once, children_of, attribute, has_called, any_called}
use Rattle.small_types.specs.Outcome.{◌>>=◌}
use Rattle.manifest_parts.specs.Values.{needed, truth_of, truth, number_of, size_of}
use Rattle.manifest_parts.specs.Parts.{identity_in, digests_of, root_of, manifest_of}
use Rattle.manifest_parts.proofs.Lookups.{listed_trees}
use Rattle.manifests.specs.declared.facts.Rule.{Rule}
use Rattle.manifests.specs.declared.facts.Rule.TheVariants.{Never, Before, Age}
use Rattle.manifests.specs.declared.facts.Deployment.{Deployment}
use Rattle.manifests.specs.Types.{installed_type}
use Rattle.manifests.specs.Deployments.{minimum_of, unit_of as unit_of_word, age_of, update_rule, rule_of, provider_of, kept_address, assembly_of, terms_of, entry_of, deployment_facts, deployment_of}
use Rattle.manifests.specs.declared.ages.AgeUnit.{AgeUnit}
use Rattle.manifests.specs.declared.ages.AgeUnit.TheVariants.{Hours, Days, Weeks}
use Rattle.manifests.specs.Ages.{seconds_in, largest_unit, unit_word, count_of}
use Rattle.manifest_writer.specs.Deployments.{truth_text, minimum_attributes, terms_attributes, age_tree, rule_trees, provider_trees, terms_tree, assembly_tree, dependency_tree, deployment_tree}
use Rattle.manifest_writer.specs.Elements.{named, element, root_tree, own_identity_tree, identity_tree, hash_trees}
use Rattle.manifests.specs.Facts.{IsRule, IsProvider, IsMinimum, IsAge, AreDeploymentFacts}
use Rattle.manifest_writer.specs.Held.{IsHeldDeployment}
use Rattle.manifest_writer.proofs.ReadParts.{number_read, filled_read, identity_read, hashes_called, hashes_uncalled, hashes_unsigned, digests_read}

-- ---- truth values

true_read : (b : Bool) → truth_of (truth_text b) ≡ Some b
unfolding truth_of
true_read true = refl
true_read false = refl

-- ---- the minimum

module _ (install mapped : Bool) where
  abbrev attributes_with : Option Version → List Attribute
  attributes_with minimum = named (codes "install") (truth_text install) ∷ named (codes "mapFileExtensions") (truth_text mapped) ∷ minimum_attributes minimum

  minimum_read : (version : Version) (minimum : Option Version) → IfSome minimum IsVersion → IfSome minimum (IsMinimum version)
      → minimum_of version (value_of (codes "minimumRequiredVersion") (attributes_with minimum)) ≡ Ok minimum
  unfolding value_of declares local
  minimum_read version None fits is = refl
  minimum_read version (Some minimum) fits is = rw (version_read-version_text minimum fits, is) refl

-- ---- the rule

abbrev unit_by : Bool → Bool → Bool → AgeUnit
unit_by nothing weeks days = if nothing then Days else if weeks then Weeks else if days then Days else Hours

by_tests : (seconds : ℕ) (nothing weeks days : Bool) → (seconds == 0) ≡ nothing → (seconds % 604800 == 0) ≡ weeks → (seconds % 86400 == 0) ≡ days → seconds % 3600 ≡ 0
    → seconds / seconds_in (unit_by nothing weeks days) * seconds_in (unit_by nothing weeks days) ≡ seconds
by_tests seconds true weeks days a b c whole = let zero : seconds ≡ 0 = eqb-true seconds 0 a in rw zero refl
by_tests seconds false true days a b c whole = let e : seconds % 604800 ≡ 0 = eqb-true (seconds % 604800) 0 b in omega arith
by_tests seconds false false true a b c whole = let e : seconds % 86400 ≡ 0 = eqb-true (seconds % 86400) 0 c in omega arith
by_tests seconds false false false a b c whole = omega arith

whole_units : (seconds : ℕ) → seconds % 3600 ≡ 0 → count_of seconds * seconds_in (largest_unit seconds) ≡ seconds
unfolding largest_unit
whole_units seconds whole = by_tests seconds (seconds == 0) (seconds % 604800 == 0) (seconds % 86400 == 0) refl refl refl whole

unit_read : (unit : AgeUnit) → unit_of_word (unit_word unit) ≡ Ok (seconds_in unit)
unit_read Hours = refl
unit_read Days = refl
unit_read Weeks = refl

age_parts : (seconds : ℕ) → age_of (age_tree seconds) ≡
    (number_of 9 999999999 (codes "maximumAge") (decimal (count_of seconds)) >>= λ age. unit_of_word (unit_word (largest_unit seconds)) >>= λ unit. Ok (Age (age * unit)))
unfolding age_of age_tree value_of declares local
age_parts seconds = refl

age_read : (seconds : ℕ) → IsAge seconds → age_of (age_tree seconds) ≡ Ok (Age seconds)
age_read seconds is =
    let few = is.few in
    age_parts seconds ∙ rw (number_read 9 999999999 (codes "maximumAge") (count_of seconds) (omega arith) is.few (omega arith) (omega arith), unit_read (largest_unit seconds), whole_units seconds is.whole) refl

-- the element `deployment`, by its rule and its provider
abbrev of_terms : List Attribute → Rule → Option (List ℕ) → Tree
of_terms attributes rule provider = element (codes "deployment") attributes (rule_trees rule ++ provider_trees provider)

expiring_read : (seconds : ℕ) → update_rule (Some (element (codes "update") [] (age_tree seconds ∷ []))) ≡ age_of (age_tree seconds)
unfolding first_called called age_tree local
expiring_read seconds = refl

rule_read : (attributes : List Attribute) (rule : Rule) (provider : Option (List ℕ)) → IsRule rule → rule_of (of_terms attributes rule provider) ≡ Ok rule
unfolding first_called called local
rule_read attributes Never None is = refl
rule_read attributes Never (Some text) is = refl
rule_read attributes Before provider is = refl
rule_read attributes (Age seconds) provider is = expiring_read seconds ∙ age_read seconds is

provider_read : (attributes : List Attribute) (rule : Rule) (provider : Option (List ℕ)) → IfSome provider IsProvider → provider_of (of_terms attributes rule provider) ≡ provider
unfolding first_called called value_of declares local
provider_read attributes Never None is = refl
provider_read attributes Before None is = refl
provider_read attributes (Age seconds) None is = refl
provider_read attributes Never (Some text) is = ap (kept_address text) is.address
provider_read attributes Before (Some text) is = ap (kept_address text) is.address
provider_read attributes (Age seconds) (Some text) is = ap (kept_address text) is.address

-- ---- the terms

module _ (d : Deployment) (facts : AreDeploymentFacts d) (held : IsHeldDeployment d) where
  install_read : truth (codes "install") true (attribute (codes "install") (terms_tree d)) ≡ Ok true
  unfolding terms_tree value_of declares local
  install_read = rw (facts.install, true_read true) refl

  mapped_read : truth (codes "mapFileExtensions") false (attribute (codes "mapFileExtensions") (terms_tree d)) ≡ Ok d.mapped
  unfolding terms_tree value_of declares local
  mapped_read = rw (true_read d.mapped) refl

  least_read : minimum_of d.identity.version (attribute (codes "minimumRequiredVersion") (terms_tree d)) ≡ Ok d.minimum
  unfolding terms_tree
  least_read = minimum_read d.install d.mapped d.identity.version d.minimum held.minimum facts.minimum

  rule_of_it : rule_of (terms_tree d) ≡ Ok d.rule
  unfolding terms_tree
  rule_of_it = rule_read (terms_attributes d) d.rule d.provider facts.rule

  provider_of_it : provider_of (terms_tree d) ≡ d.provider
  unfolding terms_tree
  provider_of_it = provider_read (terms_attributes d) d.rule d.provider facts.provider

  module _ (publisher product : List ℕ) where
    abbrev whole : Tree
    whole = deployment_tree d publisher product

    once_terms : once (codes "deployment") whole ≡ Ok (terms_tree d)
    unfolding deployment_tree root_tree terms_tree dependency_tree identity_tree once children_called called local
    once_terms = refl

    terms_read : terms_of d.identity.version whole ≡ Ok (record { minimum = d.minimum; mapped = d.mapped; rule = d.rule; provider = d.provider })
    unfolding terms_of
    terms_read = rw (once_terms, install_read, mapped_read, least_read, rule_of_it, provider_of_it) refl

    -- ---- the application manifest

    one_assembly : assembly_of whole ≡ Ok (assembly_tree d)
    unfolding assembly_of installed_type deployment_tree root_tree terms_tree dependency_tree identity_tree children_called called value_of declares local
    one_assembly = refl

    codebase_given : needed (codes "codebase") (attribute (codes "codebase") (assembly_tree d)) ≡ Ok d.codebase
    unfolding value_of declares local
    codebase_given = refl

    size_read : size_of MANIFEST_LIMIT (attribute (codes "size") (assembly_tree d)) ≡ Ok d.app_size
    unfolding value_of declares local
    size_read = let small = facts.app_size in number_read DIGIT_LIMIT MANIFEST_LIMIT (codes "size") d.app_size (omega arith) facts.app_size (omega arith) (omega arith)

    app_called : filter (called (codes "assemblyIdentity")) (children_of (assembly_tree d)) ≡ identity_tree (codes "assemblyIdentity") d.app ∷ []
    unfolding called identity_tree local
    app_called =
        ap (λ (ts : List Tree). identity_tree (codes "assemblyIdentity") d.app ∷ filter (called (codes "assemblyIdentity")) ts) (listed_trees (hash_trees d.app_list))
        ∙ ap (λ (ts : List Tree). identity_tree (codes "assemblyIdentity") d.app ∷ ts) (hashes_uncalled (codes "assemblyIdentity") d.app_list refl)

    app_hashes : children_called (codes "hash") (assembly_tree d) ≡ hash_trees d.app_list
    unfolding children_called called identity_tree local
    app_hashes = ap (filter (called (codes "hash"))) (listed_trees (hash_trees d.app_list)) ∙ hashes_called d.app_list

    once_app : once (codes "assemblyIdentity") (assembly_tree d) ≡ Ok (identity_tree (codes "assemblyIdentity") d.app)
    unfolding once children_called
    once_app = ap (one_of (codes "assemblyIdentity")) app_called

    app_read : identity_in (assembly_tree d) ≡ Ok d.app
    unfolding identity_in
    app_read = rw (once_app, identity_read (codes "assemblyIdentity") d.app facts.app held.app) refl

    app_list_read : digests_of d.codebase (assembly_tree d) ≡ Ok d.app_list
    unfolding digests_of
    app_list_read = rw (app_hashes, digests_read d.codebase d.app_list held.app_list facts.app_list) refl

    entry_read : entry_of whole ≡ Ok (record { codebase = d.codebase; size = d.app_size; app = d.app; digests = d.app_list })
    unfolding entry_of
    entry_read = rw (one_assembly, codebase_given, filled_read URL_LIMIT (codes "codebase") d.codebase facts.codebase, size_read, app_read, app_list_read) refl

    -- ---- the whole

    once_identity : once (codes "assemblyIdentity") whole ≡ Ok (own_identity_tree d.identity)
    unfolding deployment_tree root_tree terms_tree dependency_tree identity_tree once children_called called local
    once_identity = refl

    own_read : identity_in whole ≡ Ok d.identity
    unfolding identity_in
    own_read = rw (once_identity, identity_read (codes "asmv1:assemblyIdentity") d.identity facts.identity held.version) refl

    facts_read : deployment_facts whole ≡ Ok d
    unfolding deployment_facts
    facts_read = rw (own_read, terms_read, entry_read) (ap (λ (b : Bool). Ok (record d { install = b })) (sym facts.install))

    terms_unsigned : (rule : Rule) (provider : Option (List ℕ)) → any_called (codes "Signature") (trees (rule_trees rule ++ provider_trees provider)) ≡ false
    unfolding age_tree local
    terms_unsigned Never None = refl
    terms_unsigned Before None = refl
    terms_unsigned (Age seconds) None = refl
    terms_unsigned Never (Some text) = refl
    terms_unsigned Before (Some text) = refl
    terms_unsigned (Age seconds) (Some text) = refl

    unsigned : has_called (codes "Signature") whole ≡ false
    unfolding deployment_tree root_tree terms_tree dependency_tree identity_tree local
    unsigned = rw (terms_unsigned d.rule d.provider, hashes_unsigned d.app_list) refl

    root_called : called (codes "assembly") whole ≡ true
    unfolding deployment_tree root_tree called local
    root_called = refl

    root_read : root_of whole ≡ Ok whole
    unfolding root_of
    root_read = rw (unsigned, root_called) refl

    pub deployment_read : deployment_of whole ≡ Ok d
    unfolding deployment_of manifest_of
    deployment_read = rw (root_read, facts_read) refl
