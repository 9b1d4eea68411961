-- How long the encodings of values are at most.
use Rattle.std.proofs.Common.{ℕ, ◌+◌, ◌*◌, ◌≤◌, List, [], ◌∷◌, ◌++◌, All, IfSome, Option, Some, None, length, flat_map, arith}
use Rattle.std.specs.Int.{to_be_bytes, w16, w64}
use Rattle.std.proofs.Math.Nat.{suc-mul}
use Rattle.std.proofs.lemmas.List.{length-append}
use Rattle.std.proofs.lemmas.List.Elements.{All-head, All-tail}
use Rattle.std.proofs.lemmas.Nat.{mul-le}
use Rattle.small_types.specs.declared.limits.TheConstants.{FILE_COUNT_LIMIT, IDENTITY_PART_LIMIT, NAME_LIMIT, URL_LIMIT}
use Rattle.small_types.specs.declared.target.Target.{Target}
use Rattle.small_types.specs.Name.{IsName}
use Rattle.identity.specs.declared.identity.Identity.{Identity}
use Rattle.identity.specs.declared.key.Key.{Key}
use Rattle.identity.specs.declared.version.Version.{Version}
use Rattle.digest_list.specs.declared.digest.Digest.{Digest}
use Rattle.digest_list.specs.Digest.{IsSized}
use Rattle.manifests.specs.declared.facts.Application.{Application}
use Rattle.manifests.specs.declared.facts.Deployment.{Deployment}
use Rattle.manifests.specs.declared.facts.FileEntry.{FileEntry}
use Rattle.manifests.specs.declared.facts.Rule.{Rule}
use Rattle.manifests.specs.declared.facts.Rule.TheVariants.{Never, Before, Age}
use Rattle.small_types.specs.Short.{IsShort, IsTarget}
use Rattle.identity.specs.Key.{IsShortKey}
use Rattle.record_fields.specs.Fields.{text_field, key_field, version_field}
use Rattle.record_fields.specs.Spelled.{application_field, deployment_field, digest_field, entry_field, identity_field, list_field, listed_field, option_field, rule_field, target_field, terms_field, truth_field}
use Rattle.record_fields.specs.Values.{AreDigests, IsEncodableApplication, IsEncodableDeployment, IsEncodableEntry, IsEncodableIdentity}
use Rattle.record_fields.proofs.Long.{length-text_field, length-list_field, length-key_field, length-version_field, length-truth_field}
use Rattle.record_fields.proofs.Sizes.{digest_le, name_le}

-- ---- lists and options

all_times : {A : Type 0} (f : A → List ℕ) (k : ℕ) (xs : List A)
    → All (λ x. length (f x) ≤ k) xs → length (flat_map f xs) ≤ length xs * k
all_times f k [] all = omega arith
all_times f k (x ∷ xs) all =
    let head = All-head (λ y. length (f y) ≤ k) x xs all in
    let rest = all_times f k xs (All-tail (λ y. length (f y) ≤ k) x xs all) in
    omega (arith, head, rest, length-append (f x) (flat_map f xs), suc-mul (length xs) k)

pub list_le : {A : Type 0} (f : A → List ℕ) (P : A → Type 0) (k n : ℕ) (xs : List A)
    → ((x : A) → P x → length (f x) ≤ k) → length xs ≤ n → All P xs
    → length (list_field f xs) ≤ 4 + n * k
list_le f P k n xs each few all =
    let times = all_times f k xs (λ i d within. each _ (all i d within)) in
    omega (arith, times, mul-le (length xs) k n k few (omega arith), length-list_field f xs)

pub option_le : {A : Type 0} (f : A → List ℕ) (P : A → Type 0) (k : ℕ) (x : Option A)
    → ((y : A) → P y → length (f y) ≤ k) → IfSome x P → length (option_field f x) ≤ 1 + k
option_le f P k None each is = omega arith
option_le f P k (Some y) each is = let most = each y is in omega arith

-- ---- parts

pub text_le : (limit : ℕ) (text : List ℕ) → IsShort limit text
    → length (text_field text) ≤ 4 + limit
text_le limit text is = let within = is.within in omega (arith, length-text_field text)

pub key_le : (key : Key) → IsShortKey key → length (key_field key) ≤ 448
key_le key is =
    let name = is.name.within in
    let token = is.token.within in
    let language = is.language.within in
    let architecture = is.architecture.within in
    omega (arith, length-key_field key)

pub target_le : (t : Target) → IsTarget t → length (target_field t) ≤ 4106
unfolding target_field
target_le t is =
    omega (
      arith,
      text_le URL_LIMIT t.host is.host,
      text_le URL_LIMIT t.path is.path,
      length-append (text_field t.host) (to_be_bytes w16 t.port ++ text_field t.path),
      length-append (to_be_bytes w16 t.port) (text_field t.path),
    )

pub identity_le : (i : Identity) → IsEncodableIdentity i → length (identity_field i) ≤ 524
unfolding identity_field
identity_le i is =
    omega (
      arith,
      key_le i.key is.key,
      text_le IDENTITY_PART_LIMIT i.kind is.kind,
      length-version_field i.version,
      length-append (key_field i.key) (version_field i.version ++ text_field i.kind),
      length-append (version_field i.version) (text_field i.kind),
    )

pub rule_le : (r : Rule) → length (rule_field r) ≤ 9
unfolding rule_field
rule_le Never = omega arith
rule_le Before = omega arith
rule_le (Age seconds) = omega arith

pub digest_field_le : (d : Digest) → IsSized d → length (digest_field d) ≤ 69
unfolding digest_field
digest_field_le d is = omega (arith, digest_le d is, length-text_field d.value)

pub digests_le : (list : List Digest) → AreDigests list → length (list_field digest_field list) ≤ 556
digests_le list are =
    list_le digest_field IsSized 69 8 list digest_field_le are.count.within are.sized

pub named_le : (name : List ℕ) → IsName name → length (text_field name) ≤ 244
named_le name is = omega (arith, name_le name is, length-text_field name)

-- ---- manifests

pub entry_le : (e : FileEntry) → IsEncodableEntry e → length (entry_field e) ≤ 1054
unfolding entry_field
entry_le e is =
    let a = text_field e.name in
    let b = to_be_bytes w64 e.size in
    let d = list_field digest_field e.list in
    let g = option_field text_field e.group in
    let t = truth_field e.local in
    omega (
      arith,
      name_le e.name is.name,
      length-text_field e.name,
      digests_le e.list is.list,
      option_le text_field (IsShort NAME_LIMIT) 244 e.group (text_le NAME_LIMIT) is.group,
      length-truth_field e.local,
      length-append a (b ++ (d ++ (g ++ t))),
      length-append b (d ++ (g ++ t)),
      length-append d (g ++ t),
      length-append g t,
    )

pub version_le : (v : Version) → length (version_field v) ≤ 8
version_le v = omega (arith, length-version_field v)

terms_le : (d : Deployment) → IsEncodableDeployment d → length (terms_field d) ≤ 2597
unfolding terms_field
terms_le d is =
    let i = identity_field d.identity in
    let t = truth_field d.install in
    let m = option_field version_field d.minimum in
    let u = truth_field d.mapped in
    let r = rule_field d.rule in
    let p = option_field text_field d.provider in
    omega (
      arith,
      identity_le d.identity is.identity,
      length-truth_field d.install,
      length-truth_field d.mapped,
      rule_le d.rule,
      option_le version_field _ 8 d.minimum (λ v fits. version_le v) is.minimum,
      option_le text_field (IsShort URL_LIMIT) 2052 d.provider (text_le URL_LIMIT) is.provider,
      length-append i (t ++ (m ++ (u ++ (r ++ p)))),
      length-append t (m ++ (u ++ (r ++ p))),
      length-append m (u ++ (r ++ p)),
      length-append u (r ++ p),
      length-append r p,
    )

listed_le : (d : Deployment) → IsEncodableDeployment d → length (listed_field d) ≤ 3140
unfolding listed_field
listed_le d is =
    let c = text_field d.codebase in
    let i = identity_field d.app in
    let s = to_be_bytes w64 d.app_size in
    let l = list_field digest_field d.app_list in
    omega (
      arith,
      text_le URL_LIMIT d.codebase is.codebase,
      identity_le d.app is.app,
      digests_le d.app_list is.app_list,
      length-append c (i ++ (s ++ l)),
      length-append i (s ++ l),
      length-append s l,
    )

pub deployment_le : (d : Deployment) → IsEncodableDeployment d → length (deployment_field d) ≤ 5737
unfolding deployment_field
deployment_le d is =
    omega (arith, terms_le d is, listed_le d is, length-append (terms_field d) (listed_field d))

pub application_le : (a : Application) → IsEncodableApplication a → length (application_field a) ≤ 17271560
unfolding application_field
application_le a is =
    let i = identity_field a.identity in
    let e = text_field a.entry in
    let p = text_field a.parameters in
    let f = list_field entry_field a.files in
    omega (
      arith,
      identity_le a.identity is.identity,
      text_le NAME_LIMIT a.entry is.entry,
      text_le URL_LIMIT a.parameters is.parameters,
      list_le entry_field IsEncodableEntry 1054 FILE_COUNT_LIMIT a.files entry_le is.few is.files,
      length-append i (e ++ (p ++ f)),
      length-append e (p ++ f),
      length-append p f,
    )
