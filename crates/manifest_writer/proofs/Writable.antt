-- The trees of manifests can be written.
use Rattle.std.proofs.Common.{◌≡◌, ℕ, suc, ◌<◌, ◌≤◌, Bool, true, false, List, [], ◌∷◌, ◌++◌, map, Option, Some, None, refl, ap, ◌∙◌, arith, decimal}
use Rattle.std.specs.Prelude.{◌&&◌, codes, nat_le, All, IfSome}
use Rattle.std.proofs.lemmas.Bool.{and_parts, le-leb}
use Rattle.std.proofs.lemmas.List.Elements.{All-head, All-tail}
use Rattle.manifest_tree.specs.Lexis.{allowed, name_byte, name_first}
use Rattle.manifest_tree.specs.Tree.{Tree, trees}
use Rattle.manifest_tree.specs.WrittenText.{is_name, is_content, are_attributes, is_element, are_elements}
use Rattle.small_types.specs.declared.limits.TheConstants.{LEVEL_LIMIT, NAME_LIMIT}
use Rattle.identity.specs.declared.identity.Identity.{Identity}
use Rattle.identity.specs.declared.key.Key.{Key}
use Rattle.identity.specs.declared.version.Version.{Version}
use Rattle.identity.specs.Version.{IsVersion, version_text}
use Rattle.digest_list.specs.declared.digest.Digest.{Digest}
use Rattle.digest_list.specs.declared.algorithm.Algorithm.{Algorithm}
use Rattle.digest_list.specs.declared.algorithm.Algorithm.TheVariants.{Sha1, Sha256, Sha384, Sha512}
use Rattle.digest_list.specs.Algorithm.{uri_of}
use Rattle.manifests.specs.declared.facts.Rule.{Rule}
use Rattle.manifests.specs.declared.facts.Rule.TheVariants.{Never, Before, Age}
use Rattle.manifests.specs.declared.facts.Deployment.{Deployment}
use Rattle.manifests.specs.declared.facts.FileEntry.{FileEntry}
use Rattle.manifests.specs.declared.facts.Application.{Application}
use Rattle.manifests.specs.declared.ages.AgeUnit.{AgeUnit}
use Rattle.manifests.specs.declared.ages.AgeUnit.TheVariants.{Hours, Days, Weeks}
use Rattle.manifests.specs.Ages.{largest_unit, unit_word, count_of}
use Rattle.manifest_writer.specs.Applications.{backslashed, use_attributes, file_tree, entry_tree, application_tree}
use Rattle.manifest_writer.specs.Deployments.{truth_text, minimum_attributes, description_tree, age_attributes, age_tree, rule_trees, provider_trees, terms_tree, assembly_attributes, assembly_tree, dependency_tree, deployment_tree}
use Rattle.manifest_writer.specs.Elements.{named, root_tree, key_attributes, kind_attributes, identity_tree, transforms_tree, method_tree, value_tree, hash_tree, hash_trees}
use Rattle.manifests.specs.Facts.{IsValue, IsIdentity, IsRule, IsProvider, AreDeploymentFacts, IsFile, AreApplicationFacts}
use Rattle.manifest_writer.specs.Held.{IsHeldDigest, IsHeldDeployment, IsHeldFile}
use Rattle.manifest_writer.proofs.Content.{decimal_content, version_content, base64_content, name_content, size_limit_most}

-- ---- parts

next : {a b : Bool} → a ≡ true → b ≡ true → (a && b) ≡ true
next {b = b} p q = ap (λ (x : Bool). x && b) p ∙ q

-- the value of an attribute whose name is new
value : (held : List ℕ) → is_content held ≡ true → (is_content held && true) ≡ true
value held p = next p refl

low : (level : ℕ) → level ≤ LEVEL_LIMIT → nat_le level LEVEL_LIMIT ≡ true
low level h = le-leb level LEVEL_LIMIT h

pub appended : (level : ℕ) (xs ys : List Tree) → are_elements level (trees xs) ≡ true → are_elements level (trees ys) ≡ true → are_elements level (trees (xs ++ ys)) ≡ true
appended level [] ys p q = q
appended level (x ∷ xs) ys p q = let e = and_parts (is_element level x) (are_elements level (trees xs)) p in next e.0 (appended level xs ys e.1 q)

root_writable : (children : List Tree) → are_elements 2 (trees children) ≡ true → is_element 1 (root_tree children) ≡ true
unfolding root_tree allowed name_byte name_first
root_writable children h = h

-- ---- identities

record AreContents (key : Key) (version kind : List ℕ) : Type 0 where
  name : is_content key.name ≡ true
  version_is : is_content version ≡ true
  token : is_content key.token ≡ true
  language : is_content key.language ≡ true
  architecture : is_content key.architecture ≡ true
  kind_is : is_content kind ≡ true

attributes_writable : (key : Key) (version kind : List ℕ) → AreContents key version kind → are_attributes [] (key_attributes key version ++ kind_attributes kind) ≡ true
unfolding name_byte name_first
attributes_writable key version [] h =
    next (value key.name h.name) (next (value version h.version_is) (next (value key.token h.token) (next (value key.language h.language) (next (value key.architecture h.architecture) refl))))
attributes_writable key version (c ∷ cs) h =
    next (value key.name h.name) (next (value version h.version_is) (next (value key.token h.token) (next (value key.language h.language)
    (next (value key.architecture h.architecture) (next (value (c ∷ cs) h.kind_is) refl)))))

contents : (identity : Identity) → IsIdentity identity → IsVersion identity.version → AreContents identity.key (version_text identity.version) identity.kind
contents identity is fits = record {
  name = is.name.allowed;
  version_is = version_content identity.version fits;
  token = is.token.allowed;
  language = is.language.allowed;
  architecture = is.architecture.allowed;
  kind_is = is.kind.allowed;
}

identity_writable : (level : ℕ) (name : List ℕ) (identity : Identity) → level ≤ LEVEL_LIMIT → is_name name ≡ true → IsIdentity identity → IsVersion identity.version → is_element level (identity_tree name identity) ≡ true
unfolding identity_tree
identity_writable level name identity lt named is fits =
    next (low level lt) (next named (next (attributes_writable identity.key (version_text identity.version) identity.kind (contents identity is fits)) refl))

-- ---- digests

transforms_writable : (level : ℕ) → level < 60 → is_element level transforms_tree ≡ true
unfolding allowed name_byte name_first
transforms_writable level lt = next (low level (omega arith)) (next (next (low (suc level) (omega arith)) refl) refl)

uri_content : (algorithm : Algorithm) → is_content (uri_of algorithm) ≡ true
unfolding allowed uri_of
uri_content Sha1 = refl
uri_content Sha256 = refl
uri_content Sha384 = refl
uri_content Sha512 = refl

method_writable : (level : ℕ) (digest : Digest) → level < 60 → is_element level (method_tree digest) ≡ true
unfolding name_byte name_first
method_writable level digest lt = next (low level (omega arith)) (next (next (value (uri_of digest.algorithm) (uri_content digest.algorithm)) refl) refl)

value_writable : (level : ℕ) (digest : Digest) → level < 60 → IsHeldDigest digest → is_element level (value_tree digest) ≡ true
unfolding name_byte name_first
value_writable level digest lt are = next (low level (omega arith)) (next (base64_content digest.value are) refl)

hash_writable : (level : ℕ) (digest : Digest) → level < 50 → IsHeldDigest digest → is_element level (hash_tree digest) ≡ true
unfolding hash_tree name_byte name_first
hash_writable level digest lt are =
    next (low level (omega arith))
    (next (transforms_writable (suc level) (omega arith)) (next (method_writable (suc level) digest (omega arith)) (next (value_writable (suc level) digest (omega arith) are) refl)))

hashes_writable : (level : ℕ) (digests : List Digest) → level < 50 → All IsHeldDigest digests → are_elements level (trees (hash_trees digests)) ≡ true
hashes_writable level [] lt are = refl
hashes_writable level (digest ∷ digests) lt are =
    next (hash_writable level digest lt (All-head IsHeldDigest digest digests are)) (hashes_writable level digests lt (All-tail IsHeldDigest digest digests are))

-- ---- the terms of a deployment

truth_content : (b : Bool) → is_content (truth_text b) ≡ true
unfolding allowed
truth_content true = refl
truth_content false = refl

terms_attributes_writable : (install mapped : Bool) (minimum : Option Version) → IfSome minimum IsVersion
    → are_attributes [] (named (codes "install") (truth_text install) ∷ named (codes "mapFileExtensions") (truth_text mapped) ∷ minimum_attributes minimum) ≡ true
unfolding name_byte name_first
terms_attributes_writable install mapped None fits =
    next (value (truth_text install) (truth_content install)) (next (value (truth_text mapped) (truth_content mapped)) refl)
terms_attributes_writable install mapped (Some version) fits =
    next (value (truth_text install) (truth_content install))
    (next (value (truth_text mapped) (truth_content mapped)) (next (value (version_text version) (version_content version fits)) refl))

word_content : (unit : AgeUnit) → is_content (unit_word unit) ≡ true
unfolding allowed
word_content Hours = refl
word_content Days = refl
word_content Weeks = refl

age_attributes_writable : (count unit : List ℕ) → is_content count ≡ true → is_content unit ≡ true → are_attributes [] (age_attributes count unit) ≡ true
unfolding name_byte name_first
age_attributes_writable count unit p q = next (value count p) (next (value unit q) refl)

age_writable : (seconds : ℕ) → count_of seconds ≤ 999999999 → is_element 5 (age_tree seconds) ≡ true
unfolding age_tree name_byte name_first
age_writable seconds few =
    next (age_attributes_writable (decimal (count_of seconds)) (unit_word (largest_unit seconds)) (decimal_content (count_of seconds) (omega arith)) (word_content (largest_unit seconds))) refl

rule_writable : (rule : Rule) → IsRule rule → are_elements 3 (trees (rule_trees rule)) ≡ true
unfolding name_byte name_first
rule_writable Never is = refl
rule_writable Before is = refl
rule_writable (Age seconds) is = next (next (next (age_writable seconds is.few) refl) refl) refl

provider_writable : (provider : Option (List ℕ)) → IfSome provider IsProvider → are_elements 3 (trees (provider_trees provider)) ≡ true
unfolding name_byte name_first
provider_writable None is = refl
provider_writable (Some text) is = next (next (next (value text is.allowed) refl) refl) refl

terms_writable : (d : Deployment) → AreDeploymentFacts d → IsHeldDeployment d → is_element 2 (terms_tree d) ≡ true
unfolding terms_tree name_byte name_first
terms_writable d facts held =
    next (terms_attributes_writable d.install d.mapped d.minimum held.minimum)
    (appended 3 (rule_trees d.rule) (provider_trees d.provider) (rule_writable d.rule facts.rule) (provider_writable d.provider facts.provider))

-- ---- a deployment

description_writable : (publisher product : List ℕ) → is_content publisher ≡ true → is_content product ≡ true → is_element 2 (description_tree publisher product) ≡ true
unfolding name_byte name_first
description_writable publisher product p q = next (next (value publisher p) (next (value product q) refl)) refl

assembly_attributes_writable : (codebase size : List ℕ) → is_content codebase ≡ true → is_content size ≡ true → are_attributes [] (assembly_attributes codebase size) ≡ true
unfolding allowed name_byte name_first
assembly_attributes_writable codebase size p q = next (value codebase p) (next (value size q) refl)

plain_name : is_name (codes "assemblyIdentity") ≡ true
unfolding name_byte name_first
plain_name = refl

own_name : is_name (codes "asmv1:assemblyIdentity") ≡ true
unfolding name_byte name_first
own_name = refl

assembly_writable : (d : Deployment) → AreDeploymentFacts d → IsHeldDeployment d → is_element 3 (assembly_tree d) ≡ true
unfolding name_byte name_first
assembly_writable d facts held =
    let small = facts.app_size in
    next (assembly_attributes_writable d.codebase (decimal d.app_size) facts.codebase.allowed (decimal_content d.app_size (omega arith)))
    (next (identity_writable 4 (codes "assemblyIdentity") d.app (omega arith) plain_name facts.app held.app) (hashes_writable 4 d.app_list (omega arith) held.app_list.each))

dependency_writable : (d : Deployment) → AreDeploymentFacts d → IsHeldDeployment d → is_element 2 (dependency_tree d) ≡ true
unfolding dependency_tree name_byte name_first
dependency_writable d facts held = next (assembly_writable d facts held) refl

pub deployment_writable : (d : Deployment) (publisher product : List ℕ) → AreDeploymentFacts d → IsHeldDeployment d → is_content publisher ≡ true → is_content product ≡ true
    → is_element 1 (deployment_tree d publisher product) ≡ true
unfolding deployment_tree
deployment_writable d publisher product facts held p q =
    root_writable _
    (next (identity_writable 2 (codes "asmv1:assemblyIdentity") d.identity (omega arith) own_name facts.identity held.version)
    (next (description_writable publisher product p q) (next (terms_writable d facts held) (next (dependency_writable d facts held) refl))))

-- ---- an application

entry_writable : (a : Application) → AreApplicationFacts a → is_element 2 (entry_tree a) ≡ true
unfolding entry_tree name_byte name_first
entry_writable a facts = next (next (next (value a.entry facts.entry.allowed) (next (value a.parameters facts.parameters.allowed) refl)) refl) refl

file_attributes_writable : (name size : List ℕ) (local : Bool) (group : Option (List ℕ)) → is_content name ≡ true → is_content size ≡ true → IfSome group (IsValue 1 NAME_LIMIT)
    → are_attributes [] (named (codes "name") name ∷ named (codes "size") size ∷ use_attributes local group) ≡ true
unfolding allowed name_byte name_first
file_attributes_writable name size true group p q is = next (value name p) (next (value size q) refl)
file_attributes_writable name size false None p q is = next (value name p) (next (value size q) refl)
file_attributes_writable name size false (Some group) p q is = next (value name p) (next (value size q) (next (value group is.allowed) refl))

file_writable : (e : FileEntry) → IsFile e → IsHeldFile e → is_element 2 (file_tree e) ≡ true
unfolding file_tree name_byte name_first
file_writable e is held =
    let small = is.size in
    let most = size_limit_most e.local in
    next (file_attributes_writable (backslashed e.name) (decimal e.size) e.local e.group (name_content e.name held.name) (decimal_content e.size (omega arith)) is.group)
    (hashes_writable 3 e.list (omega arith) held.list.each)

files_writable : (files : List FileEntry) → All IsFile files → All IsHeldFile files → are_elements 2 (trees (map file_tree files)) ≡ true
files_writable [] are held = refl
files_writable (e ∷ files) are held =
    next (file_writable e (All-head IsFile e files are) (All-head IsHeldFile e files held)) (files_writable files (All-tail IsFile e files are) (All-tail IsHeldFile e files held))

pub application_writable : (a : Application) → AreApplicationFacts a → IsVersion a.identity.version → All IsHeldFile a.files → is_element 1 (application_tree a) ≡ true
unfolding application_tree
application_writable a facts fits held =
    root_writable _
    (next (identity_writable 2 (codes "asmv1:assemblyIdentity") a.identity (omega arith) own_name facts.identity fits)
    (next (entry_writable a facts) (files_writable a.files facts.each held)))
