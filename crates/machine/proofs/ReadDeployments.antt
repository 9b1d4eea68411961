-- What a deployment manifest says is a value that a store may hold.
use Rattle.std.proofs.Common.{ℕ, suc, Bool, true, false, List, [], ◌∷◌, All, Option, Some, None, Result, Ok, Err, IfSome, IfOk, IsUtf8, codes, arith}
use Rattle.std.specs.Ordering.{is_lt}
use Rattle.std.specs.Prelude.{if◌then◌else◌}
use Rattle.std.proofs.lemmas.List.Elements.{All-nil, All-cons}
use Rattle.small_types.specs.declared.limits.TheConstants.{MANIFEST_LIMIT, URL_LIMIT}
use Rattle.small_types.specs.declared.target.Target.{Target}
use Rattle.addresses.specs.declared.fault.UrlFault.{UrlFault}
use Rattle.addresses.specs.Address.{target_of_text}
use Rattle.identity.specs.declared.version.Version.{Version}
use Rattle.identity.specs.Version.{IsVersion, version_cmp}
use Rattle.digest_list.specs.Count.{IsCount}
use Rattle.manifest_tree.specs.Tree.{Tree, tree, none}
use Rattle.manifest_parts.specs.Elements.{Read, attribute, children_called, first_called, once}
use Rattle.manifest_parts.specs.Parts.{Tells, digests_of, identity_in}
use Rattle.manifest_parts.specs.Values.{filled, needed, size_of, truth, version_value}
use Rattle.manifests.specs.declared.facts.Deployment.{Deployment}
use Rattle.manifests.specs.Deployments.{address_of, assemblies_of, assembly_of, deployment_facts, deployment_of, entry_of, installed, installed_only, just_one, kept_address, minimum_of, named_provider, not_above, rule_of, terms_of}
use Rattle.manifests.specs.Types.{installed_type}
use Rattle.manifests.proofs.DeploymentsLaw.{read_are_facts}
use Rattle.manifests.proofs.FoundValues.{then_ok, other_ok}
use Rattle.manifests.proofs.SaidParts.{IsAny, anything}
use Rattle.machine.specs.Fields.{IsDeployment}
use Rattle.machine.proofs.FoundTexts.{all_texts, attribute_text, called_texts, filled_text, first_texts, needed_text, once_texts}
use Rattle.machine.proofs.ReadParts.{IdentityTexts, digests_count, has_identity, identity_in_texts, said, version_is}
use Rattle.machine.proofs.TreeTexts.{HasTexts}

-- ---- what is read in between

abbrev Told : {A : Type 0} → Read A → Type 0
Told {A} read = A

abbrev nothing : Tree
nothing = tree [] [] none []

abbrev Terms : Type 0
Terms = Told (terms_of (record { a = 0; b = 0; c = 0; d = 0 }) nothing)

abbrev Entry : Type 0
Entry = Told (entry_of nothing)

-- ---- the terms

minimum_is : (version : Version) (o : Option (List ℕ)) → IfOk (minimum_of version o) (λ minimum. IfSome minimum IsVersion)
minimum_is version None = tt
minimum_is version (Some text) =
    let P : Option Version → Type 0 = λ minimum. IfSome minimum IsVersion in
    let what = codes "minimumRequiredVersion" in
    then_ok IsVersion P (version_value what text) (not_above version) (version_is what text) (λ minimum is.
    other_ok P (is_lt (version_cmp version minimum)) _ _ (λ fits. is))

kept_text : (text : List ℕ) (r : Result Target UrlFault) → IsUtf8 text → IfSome (kept_address text r) IsUtf8
kept_text text (Ok target) u = u
kept_text text (Err e) u = tt

address_text : (o : Option (List ℕ)) → IfSome o IsUtf8 → IfSome (address_of o) IsUtf8
address_text None h = tt
address_text (Some text) h = kept_text text (target_of_text text) h

provider_text : (o : Option Tree) → IfSome o HasTexts → IfSome (named_provider o) IsUtf8
provider_text None h = tt
provider_text (Some provider) h = address_text (attribute (codes "codebase") provider) (attribute_text (codes "codebase") provider h)

record TermsTexts (terms : Terms) : Type 0 where
  minimum : IfSome terms.minimum IsVersion
  provider : IfSome terms.provider IsUtf8

terms_texts : (version : Version) (t : Tree) → HasTexts t → IfOk (terms_of version t) TermsTexts
unfolding terms_of
terms_texts version t h =
    then_ok HasTexts TermsTexts (once (codes "deployment") t) _ (once_texts (codes "deployment") t h) (λ deployment d.
    then_ok IsAny TermsTexts (truth (codes "install") true (attribute (codes "install") deployment)) _ (anything (truth (codes "install") true (attribute (codes "install") deployment))) (λ install any.
    then_ok IsAny TermsTexts (installed_only install) _ (anything (installed_only install)) (λ offline any₁.
    then_ok IsAny TermsTexts (truth (codes "mapFileExtensions") false (attribute (codes "mapFileExtensions") deployment)) _ (anything (truth (codes "mapFileExtensions") false (attribute (codes "mapFileExtensions") deployment))) (λ mapped any₂.
    then_ok (λ (minimum : Option Version). IfSome minimum IsVersion) TermsTexts (minimum_of version (attribute (codes "minimumRequiredVersion") deployment)) _
    (minimum_is version (attribute (codes "minimumRequiredVersion") deployment)) (λ minimum m.
    then_ok IsAny TermsTexts (rule_of deployment) _ (anything (rule_of deployment)) (λ rule any₃.
    record { minimum = m; provider = provider_text (first_called (codes "deploymentProvider") deployment) (first_texts (codes "deploymentProvider") deployment d) }))))))

-- ---- the dependency

with_wanted : (wanted : Bool) (assembly : Tree) (found : List Tree) → HasTexts assembly → All HasTexts found → All HasTexts (if wanted then assembly ∷ found else found)
with_wanted true assembly found h are = All-cons HasTexts assembly found h are
with_wanted false assembly found h are = are

installed_texts : (ts : List Tree) → All HasTexts ts → IfOk (installed ts) (All HasTexts)
installed_texts [] h = All-nil HasTexts
installed_texts (assembly ∷ others) h =
    then_ok IsAny (All HasTexts) (installed_type assembly) _ (anything (installed_type assembly)) (λ wanted any.
    then_ok (All HasTexts) (All HasTexts) (installed others) _ (installed_texts others (λ k d lt. h (suc k) d (omega arith))) (λ found are.
    with_wanted wanted assembly found (h 0 assembly (omega arith)) are))

just_texts : (ts : List Tree) → All HasTexts ts → IfOk (just_one ts) HasTexts
just_texts [] h = tt
just_texts (assembly ∷ []) h = h 0 assembly (omega arith)
just_texts (assembly ∷ other ∷ others) h = tt

assembly_texts : (t : Tree) → HasTexts t → IfOk (assembly_of t) HasTexts
unfolding assembly_of
assembly_texts t h =
    let are = all_texts (children_called (codes "dependentAssembly")) (called_texts (codes "dependentAssembly")) (children_called (codes "dependency") t) (called_texts (codes "dependency") t h) in
    then_ok (All HasTexts) HasTexts (installed (assemblies_of t)) just_one (installed_texts (assemblies_of t) are) just_texts

record EntryTexts (entry : Entry) : Type 0 where
  codebase : IsUtf8 entry.codebase
  app : IdentityTexts entry.app
  digests : IsCount entry.digests

entry_texts : (t : Tree) → HasTexts t → IfOk (entry_of t) EntryTexts
unfolding entry_of
entry_texts t h =
    then_ok HasTexts EntryTexts (assembly_of t) _ (assembly_texts t h) (λ assembly a.
    then_ok IsUtf8 EntryTexts (needed (codes "codebase") (attribute (codes "codebase") assembly)) _
    (needed_text (codes "codebase") (attribute (codes "codebase") assembly) (attribute_text (codes "codebase") assembly a)) (λ given g.
    then_ok IsUtf8 EntryTexts (filled URL_LIMIT (codes "codebase") given) _ (filled_text URL_LIMIT (codes "codebase") given g) (λ codebase c.
    then_ok IsAny EntryTexts (size_of MANIFEST_LIMIT (attribute (codes "size") assembly)) _ (anything (size_of MANIFEST_LIMIT (attribute (codes "size") assembly))) (λ size any.
    then_ok IdentityTexts EntryTexts (identity_in assembly) _ (identity_in_texts assembly a) (λ app i.
    then_ok IsCount EntryTexts (digests_of codebase assembly) _ (digests_count codebase assembly) (λ digests d.
    record { codebase = c; app = i; digests = d }))))))

-- ---- the whole

record DeploymentTexts (d : Deployment) : Type 0 where
  identity : IdentityTexts d.identity
  minimum : IfSome d.minimum IsVersion
  provider : IfSome d.provider IsUtf8
  codebase : IsUtf8 d.codebase
  app : IdentityTexts d.app
  app_list : IsCount d.app_list

facts_texts : (t : Tree) → HasTexts t → IfOk (deployment_facts t) DeploymentTexts
unfolding deployment_facts
facts_texts t h =
    then_ok IdentityTexts DeploymentTexts (identity_in t) _ (identity_in_texts t h) (λ identity i.
    then_ok TermsTexts DeploymentTexts (terms_of identity.version t) _ (terms_texts identity.version t h) (λ terms m.
    then_ok EntryTexts DeploymentTexts (entry_of t) _ (entry_texts t h) (λ entry e.
    record { identity = i; minimum = m.minimum; provider = m.provider; codebase = e.codebase; app = e.app; app_list = e.digests })))

pub deployment_read : (bytes : List ℕ) (d : Deployment) → Tells deployment_of bytes (Ok d) → IsDeployment d
unfolding deployment_of
deployment_read bytes d told =
    let facts = read_are_facts bytes d told in
    let texts = said deployment_facts DeploymentTexts facts_texts bytes told.tree d told.spelled told.facts_are in
    record {
      facts = facts;
      identity = has_identity d.identity facts.identity texts.identity;
      minimum = texts.minimum;
      provider = texts.provider;
      codebase = texts.codebase;
      app = has_identity d.app facts.app texts.app;
      app_list = texts.app_list;
    }
