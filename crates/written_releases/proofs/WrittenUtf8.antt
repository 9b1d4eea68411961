-- What is written of a deployment or an application that may be held is UTF-8.
use Rattle.std.proofs.Common.{◌≡◌, ◌⊎◌, inl, inr, ◌<◌, ◌≤◌, ◌+◌, ◌/◌, ◌%◌, ◌^◌, ℕ, Bool, true, false, List, [], ◌∷◌, ◌++◌, length, map, All, Option, Some, None, IfSome, refl, sym, ap, subst, append-nil, arith, decimal}
use Rattle.std.specs.Prelude.{codes, nat_le, nat_lt, ◌==◌, ◌&&◌, if◌then◌else◌}
use Rattle.std.specs.List.{list_all}
use Rattle.std.specs.Str.{IsUtf8, is_utf8}
use Rattle.std.proofs.lemmas.Bool.{and_parts, cases_lt, cond_both, ltb-true, ne_eqb}
use Rattle.std.proofs.lemmas.Fmt.{IsAscii-decimal}
use Rattle.std.proofs.lemmas.List.Elements.{All-head, All-tail}
use Rattle.std.proofs.lemmas.Str.{IsUtf8-append, IsUtf8-from_ascii, IsUtf8-from_is_utf8, IsUtf8-nil, encode_ascii}
use Rattle.std.proofs.lemmas.Str.Ascii.{IsAscii-cons, IsAscii-nil}
use lib.Utf8.{encode, encodes, scalar, scalars}
use Rattle.small_types.specs.declared.limits.TheConstants.{NAME_LIMIT}
use Rattle.small_types.specs.Name.{IsName, is_name, is_name_byte, is_name_part, name_parts}
use Rattle.identity.specs.declared.identity.Identity.{Identity}
use Rattle.identity.specs.declared.key.Key.{Key}
use Rattle.identity.specs.declared.version.Version.{Version}
use Rattle.identity.specs.Key.{IsKey}
use Rattle.identity.specs.Version.{IsVersion, version_text}
use Rattle.digest_list.specs.declared.algorithm.Algorithm.{Algorithm}
use Rattle.digest_list.specs.declared.algorithm.Algorithm.TheVariants.{Sha1, Sha256, Sha384, Sha512}
use Rattle.digest_list.specs.declared.digest.Digest.{Digest}
use Rattle.digest_list.specs.Algorithm.{uri_of}
use Rattle.manifest_tree.specs.Tree.{Tree, trees}
use Rattle.manifest_tree.proofs.Written.{ascii_utf8}
use Rattle.manifests.specs.declared.ages.AgeUnit.{AgeUnit}
use Rattle.manifests.specs.declared.ages.AgeUnit.TheVariants.{Hours, Days, Weeks}
use Rattle.manifests.specs.declared.facts.Application.{Application}
use Rattle.manifests.specs.declared.facts.Deployment.{Deployment}
use Rattle.manifests.specs.declared.facts.FileEntry.{FileEntry}
use Rattle.manifests.specs.declared.facts.Rule.{Rule}
use Rattle.manifests.specs.declared.facts.Rule.TheVariants.{Never, Before, Age}
use Rattle.manifests.specs.Ages.{count_of, largest_unit, unit_word}
use Rattle.manifests.specs.Facts.{IsFile, IsRule}
use Rattle.manifest_writer.specs.Applications.{application_tree, backslashed, entry_tree, file_tree, use_attributes}
use Rattle.manifest_writer.specs.Deployments.{age_tree, assembly_tree, dependency_tree, deployment_tree, description_tree, minimum_attributes, provider_trees, rule_trees, terms_tree, truth_text}
use Rattle.manifest_writer.specs.Elements.{hash_tree, hash_trees, identity_tree, key_attributes, kind_attributes, root_tree}
use Rattle.manifest_writer.proofs.Content.{size_limit_most}
use Rattle.machine.specs.Fields.{HasEntry, HasIdentity, IsApplication, IsDeployment}
use Rattle.written_releases.proofs.Digests.{base64_utf8}
use Rattle.written_releases.proofs.Utf8Trees.{AreUtf8, HasUtf8, HaveUtf8, utf8_joined}

-- a text of the writer's own
word : (text : List ℕ) → list_all (λ b. nat_lt b 128) text ≡ true → IsUtf8 text
word text is = ascii_utf8 text is

-- ---- numbers, versions and names

number_utf8 : (n : ℕ) → n < 2 ^ 64 → IsUtf8 (decimal n)
number_utf8 n few = IsUtf8-from_ascii (decimal n) (IsAscii-decimal n few)

dotted : (xs ys : List ℕ) → IsUtf8 xs → IsUtf8 ys → IsUtf8 (xs ++ (46 ∷ ys))
dotted xs ys first second = IsUtf8-append xs (46 ∷ ys) first (IsUtf8-append (46 ∷ []) ys (word (46 ∷ []) refl) second)

version_utf8 : (v : Version) → IsVersion v → IsUtf8 (version_text v)
unfolding version_text
version_utf8 v fits =
    let a = number_utf8 v.a (omega arith) in
    let b = number_utf8 v.b (omega arith) in
    let c = number_utf8 v.c (omega arith) in
    let d = number_utf8 v.d (omega arith) in
    dotted (decimal v.a) _ a (dotted (decimal v.b) _ b (dotted (decimal v.c) (decimal v.d) c d))

turned : ℕ → ℕ
turned b = if b == 47 then 92 else b

turned_high : (b : ℕ) → 128 ≤ b → turned b ≡ b
unfolding turned
turned_high b high = rw (ne_eqb b 47 (λ e. omega (arith, e, high))) refl

turned_low : (b : ℕ) → b < 128 → IsUtf8 (turned b ∷ [])
unfolding turned
turned_low b low =
    cond_both (b == 47) 92 b (λ (x : ℕ). IsUtf8 (x ∷ [])) (λ is. word (92 ∷ []) refl)
    (λ other. IsUtf8-from_ascii (b ∷ []) (IsAscii-cons b [] low IsAscii-nil))

abbrev IsKept : List ℕ → Type 0
IsKept bytes = map turned bytes ≡ bytes

two_kept : (a b : ℕ) → 128 ≤ a → 128 ≤ b → IsKept (a ∷ b ∷ [])
two_kept a b p q = rw (turned_high a p, turned_high b q) refl

three_kept : (a b c : ℕ) → 128 ≤ a → 128 ≤ b → 128 ≤ c → IsKept (a ∷ b ∷ c ∷ [])
three_kept a b c p q r = rw (turned_high a p, turned_high b q, turned_high c r) refl

four_kept : (a b c d : ℕ) → 128 ≤ a → 128 ≤ b → 128 ≤ c → 128 ≤ d → IsKept (a ∷ b ∷ c ∷ d ∷ [])
four_kept a b c d p q r s = rw (turned_high a p, turned_high b q, turned_high c r, turned_high d s) refl

long_kept : (c : ℕ) → 128 ≤ c → IsKept (encode c)
unfolding encode
long_kept c high =
    cond_both (nat_lt c 128) _ _ IsKept (λ low. absurd (omega (arith, ltb-true c 128 low, high)))
    (λ above. cond_both (nat_lt c 2048) _ _ IsKept (λ two. two_kept (192 + c / 64) (128 + c % 64) (omega arith) (omega arith))
    (λ above. cond_both (nat_lt c 65536) _ _ IsKept (λ three. three_kept (224 + c / 4096) (128 + c / 64 % 64) (128 + c % 64) (omega arith) (omega arith) (omega arith))
    (λ four. four_kept (240 + c / 262144) (128 + c / 4096 % 64) (128 + c / 64 % 64) (128 + c % 64) (omega arith) (omega arith) (omega arith) (omega arith))))

char_turned : (c : ℕ) → scalar c ≡ true → IsUtf8 (map turned (encode c))
char_turned c is = by (cases_lt c 128)
  where
    by : (c < 128) ⊎ (128 ≤ c) → IsUtf8 (map turned (encode c))
    by (inl low) = subst (λ (bytes : List ℕ). IsUtf8 (map turned bytes)) (sym (encode_ascii c low)) (turned_low c low)
    by (inr high) = subst IsUtf8 (sym (long_kept c high)) (c ∷ [], (ap (λ (b : Bool). b && true) is, append-nil (encode c)))

map_joined : (xs ys : List ℕ) → map turned (xs ++ ys) ≡ map turned xs ++ map turned ys
map_joined [] ys = refl
map_joined (x ∷ xs) ys = ap (λ (l : List ℕ). turned x ∷ l) (map_joined xs ys)

chars_turned : (cs : List ℕ) → scalars cs ≡ true → IsUtf8 (map turned (encodes cs))
chars_turned [] are = IsUtf8-nil
chars_turned (c ∷ cs) are =
    let parts = and_parts (scalar c) (scalars cs) are in
    subst IsUtf8 (sym (map_joined (encode c) (encodes cs))) (IsUtf8-append (map turned (encode c)) (map turned (encodes cs)) (char_turned c parts.0) (chars_turned cs parts.1))

name_utf8 : (name : List ℕ) → IsUtf8 name → IsUtf8 (backslashed name)
unfolding backslashed turned
name_utf8 name is = subst (λ (bytes : List ℕ). IsUtf8 (map (λ (b : ℕ). if b == 47 then 92 else b) bytes)) is.1.1 (chars_turned is.0 is.1.0)

-- ---- what both kinds have

key_utf8 : (key : Key) (version kind : List ℕ) → IsKey key → IsUtf8 version → IsUtf8 kind → AreUtf8 (key_attributes key version ++ kind_attributes kind)
key_utf8 key version [] is v u = (
  word (codes "name") refl,
  is.name.utf8,
  (
    word (codes "version") refl,
    v,
    (
      word (codes "publicKeyToken") refl,
      is.token.utf8,
      (word (codes "language") refl, is.language.utf8, (word (codes "processorArchitecture") refl, is.architecture.utf8, tt)),
    ),
  ),
)
key_utf8 key version (c ∷ cs) is v u = (
  word (codes "name") refl,
  is.name.utf8,
  (
    word (codes "version") refl,
    v,
    (
      word (codes "publicKeyToken") refl,
      is.token.utf8,
      (word (codes "language") refl, is.language.utf8, (word (codes "processorArchitecture") refl, is.architecture.utf8, (word (codes "type") refl, u, tt))),
    ),
  ),
)

identity_utf8 : (name : List ℕ) (identity : Identity) → IsUtf8 name → HasIdentity identity → HasUtf8 (identity_tree name identity)
unfolding identity_tree
identity_utf8 name identity named has = (named, key_utf8 identity.key (version_text identity.version) identity.kind has.key (version_utf8 identity.version has.version) has.kind, tt, word [] refl)

own_utf8 : (identity : Identity) → HasIdentity identity → HasUtf8 (identity_tree (codes "asmv1:assemblyIdentity") identity)
own_utf8 identity has = identity_utf8 (codes "asmv1:assemblyIdentity") identity (word (codes "asmv1:assemblyIdentity") refl) has

uri_utf8 : (algorithm : Algorithm) → IsUtf8 (uri_of algorithm)
unfolding uri_of
uri_utf8 Sha1 = word (codes "http://www.w3.org/2000/09/xmldsig#sha1") refl
uri_utf8 Sha256 = word (codes "http://www.w3.org/2000/09/xmldsig#sha256") refl
uri_utf8 Sha384 = word (codes "http://www.w3.org/2001/04/xmldsig-more#sha384") refl
uri_utf8 Sha512 = word (codes "http://www.w3.org/2001/04/xmlenc#sha512") refl

hash_utf8 : (digest : Digest) → HasUtf8 (hash_tree digest)
unfolding hash_tree
hash_utf8 digest = (
  word (codes "hash") refl,
  tt,
  (
    (
      word (codes "dsig:Transforms") refl,
      tt,
      ((word (codes "dsig:Transform") refl, (word (codes "Algorithm") refl, word (codes "urn:schemas-microsoft-com:HashTransforms.Identity") refl, tt), tt, word [] refl), tt),
      word [] refl,
    ),
    (
      (word (codes "dsig:DigestMethod") refl, (word (codes "Algorithm") refl, uri_utf8 digest.algorithm, tt), tt, word [] refl),
      ((word (codes "dsig:DigestValue") refl, tt, tt, base64_utf8 digest.value), tt),
    ),
  ),
  word [] refl,
)

hashes_utf8 : (digests : List Digest) → HaveUtf8 (trees (hash_trees digests))
hashes_utf8 [] = tt
hashes_utf8 (digest ∷ digests) = (hash_utf8 digest, hashes_utf8 digests)

root_utf8 : (children : List Tree) → HaveUtf8 (trees children) → HasUtf8 (root_tree children)
unfolding root_tree
root_utf8 children have = (
  word (codes "asmv1:assembly") refl,
  (
    word (codes "manifestVersion") refl,
    word (codes "1.0") refl,
    (
      word (codes "xmlns:asmv1") refl,
      word (codes "urn:schemas-microsoft-com:asm.v1") refl,
      (
        word (codes "xmlns") refl,
        word (codes "urn:schemas-microsoft-com:asm.v2") refl,
        (
          word (codes "xmlns:asmv2") refl,
          word (codes "urn:schemas-microsoft-com:asm.v2") refl,
          (word (codes "xmlns:dsig") refl, word (codes "http://www.w3.org/2000/09/xmldsig#") refl, tt),
        ),
      ),
    ),
  ),
  have,
  word [] refl,
)

-- ---- a deployment

truth_utf8 : (b : Bool) → IsUtf8 (truth_text b)
truth_utf8 true = word (codes "true") refl
truth_utf8 false = word (codes "false") refl

minimum_utf8 : (minimum : Option Version) → IfSome minimum IsVersion → AreUtf8 (minimum_attributes minimum)
minimum_utf8 None is = tt
minimum_utf8 (Some version) is = (word (codes "minimumRequiredVersion") refl, version_utf8 version is, tt)

unit_utf8 : (unit : AgeUnit) → IsUtf8 (unit_word unit)
unit_utf8 Hours = word _ refl
unit_utf8 Days = word _ refl
unit_utf8 Weeks = word _ refl

age_utf8 : (seconds : ℕ) → count_of seconds < 2 ^ 64 → HasUtf8 (age_tree seconds)
unfolding age_tree
age_utf8 seconds few = (
  word (codes "expiration") refl,
  (word (codes "maximumAge") refl, number_utf8 (count_of seconds) few, (word (codes "unit") refl, unit_utf8 (largest_unit seconds), tt)),
  tt,
  word [] refl,
)

rule_utf8 : (rule : Rule) → IsRule rule → HaveUtf8 (trees (rule_trees rule))
rule_utf8 Never is = tt
rule_utf8 Before is = (
  (
    word (codes "subscription") refl,
    tt,
    ((word (codes "update") refl, tt, ((word (codes "beforeApplicationStartup") refl, tt, tt, word [] refl), tt), word [] refl), tt),
    word [] refl,
  ),
  tt,
)
rule_utf8 (Age seconds) is =
    let few = is.few in (
      (
        word (codes "subscription") refl,
        tt,
        ((word (codes "update") refl, tt, (age_utf8 seconds (omega (arith, few)), tt), word [] refl), tt),
        word [] refl,
      ),
      tt,
    )

provider_utf8 : (provider : Option (List ℕ)) → IfSome provider IsUtf8 → HaveUtf8 (trees (provider_trees provider))
provider_utf8 None is = tt
provider_utf8 (Some text) is = ((word (codes "deploymentProvider") refl, (word (codes "codebase") refl, is, tt), tt, word [] refl), tt)

terms_utf8 : (d : Deployment) → IsDeployment d → HasUtf8 (terms_tree d)
unfolding terms_tree
terms_utf8 d is = (
  word (codes "deployment") refl,
  (word (codes "install") refl, truth_utf8 d.install, (word (codes "mapFileExtensions") refl, truth_utf8 d.mapped, minimum_utf8 d.minimum is.minimum)),
  utf8_joined (rule_trees d.rule) (provider_trees d.provider) (rule_utf8 d.rule is.facts.rule) (provider_utf8 d.provider is.provider),
  word [] refl,
)

assembly_utf8 : (d : Deployment) → IsDeployment d → HasUtf8 (assembly_tree d)
assembly_utf8 d is =
    let small = is.facts.app_size in (
      word (codes "dependentAssembly") refl,
      (
        word (codes "dependencyType") refl,
        word (codes "install") refl,
        (word (codes "codebase") refl, is.codebase, (word (codes "size") refl, number_utf8 d.app_size (omega (arith, small)), tt)),
      ),
      (identity_utf8 (codes "assemblyIdentity") d.app (word (codes "assemblyIdentity") refl) is.app, hashes_utf8 d.app_list),
      word [] refl,
    )

dependency_utf8 : (d : Deployment) → IsDeployment d → HasUtf8 (dependency_tree d)
unfolding dependency_tree
dependency_utf8 d is = (word (codes "dependency") refl, tt, (assembly_utf8 d is, tt), word [] refl)

description_utf8 : (publisher product : List ℕ) → IsUtf8 publisher → IsUtf8 product → HasUtf8 (description_tree publisher product)
description_utf8 publisher product p q =
    (word (codes "asmv1:description") refl, (word (codes "asmv2:publisher") refl, p, (word (codes "asmv2:product") refl, q, tt)), tt, word [] refl)

pub deployment_utf8 : (d : Deployment) (publisher product : List ℕ) → IsDeployment d → IsUtf8 publisher → IsUtf8 product → HasUtf8 (deployment_tree d publisher product)
unfolding deployment_tree
deployment_utf8 d publisher product is p q =
    root_utf8 _ (own_utf8 d.identity is.identity, (description_utf8 publisher product p q, (terms_utf8 d is, (dependency_utf8 d is, tt))))

-- ---- an application

entry_utf8 : (a : Application) → IsApplication a → HasUtf8 (entry_tree a)
unfolding entry_tree
entry_utf8 a is = (
  word (codes "entryPoint") refl,
  tt,
  ((word (codes "commandLine") refl, (word (codes "file") refl, is.entry, (word (codes "parameters") refl, is.parameters, tt)), tt, word [] refl), tt),
  word [] refl,
)

uses_utf8 : (is_local : Bool) (group : Option (List ℕ)) → IfSome group IsUtf8 → AreUtf8 (use_attributes is_local group)
uses_utf8 true group is = (word (codes "writeableType") refl, word (codes "applicationData") refl, tt)
uses_utf8 false None is = tt
uses_utf8 false (Some group) is = (word (codes "optional") refl, word (codes "true") refl, (word (codes "group") refl, is, tt))

-- a name is UTF-8
name_is_utf8 : (name : List ℕ) → IsName name → IsUtf8 name
unfolding is_name
name_is_utf8 name is =
    IsUtf8-from_is_utf8 name
    (and_parts (nat_lt 0 (length name) && nat_le (length name) NAME_LIMIT && list_all is_name_byte name && list_all is_name_part (name_parts name)) (is_utf8 name) is).1

file_utf8 : (e : FileEntry) → IsFile e → HasEntry e → HasUtf8 (file_tree e)
unfolding file_tree
file_utf8 e is has =
    let small = is.size in
    let most = size_limit_most e.local in (
      word (codes "file") refl,
      (
        word (codes "name") refl,
        name_utf8 e.name (name_is_utf8 e.name has.name),
        (word (codes "size") refl, number_utf8 e.size (omega (arith, small, most)), uses_utf8 e.local e.group has.group),
      ),
      hashes_utf8 e.list,
      word [] refl,
    )

files_utf8 : (files : List FileEntry) → All IsFile files → All HasEntry files → HaveUtf8 (trees (map file_tree files))
files_utf8 [] are have = tt
files_utf8 (e ∷ files) are have =
    (file_utf8 e (All-head IsFile e files are) (All-head HasEntry e files have), files_utf8 files (All-tail IsFile e files are) (All-tail HasEntry e files have))

pub application_utf8 : (a : Application) → IsApplication a → HasUtf8 (application_tree a)
unfolding application_tree
application_utf8 a is = root_utf8 _ (own_utf8 a.identity is.identity, (entry_utf8 a is, files_utf8 a.files is.facts.each is.files))
