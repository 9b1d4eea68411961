-- The encoding of tables is at most what they weigh, where a file counts the bytes that are spelled
-- of it.
use Rattle.std.proofs.Common.{ℕ, ◌+◌, ◌*◌, ◌≤◌, List, [], ◌∷◌, ◌++◌, All, IfSome, Option, Some, None, length, flat_map, sum_by, arith}
use Rattle.std.specs.Int.{to_be_bytes, w16, w64}
use Rattle.std.proofs.Math.Nat.{mul_comm}
use Rattle.std.proofs.lemmas.List.{length-append}
use Rattle.std.proofs.lemmas.List.Elements.{All-head, All-tail}
use Rattle.std.proofs.lemmas.List.Sums.{sum_by-cons}
use Rattle.small_types.specs.declared.limits.TheConstants.{LEASE_LIMIT, NAME_LIMIT}
use Rattle.small_types.specs.declared.target.Target.{Target}
use Rattle.small_types.specs.Short.{IsShort}
use Rattle.identity.specs.declared.identity.Identity.{Identity}
use Rattle.identity.specs.Version.{IsVersion}
use Rattle.identity.specs.declared.version.Version.{Version}
use Rattle.digest_list.specs.declared.digest.Digest.{Digest}
use Rattle.digest_list.specs.Digest.{IsSized}
use Rattle.manifests.specs.declared.facts.Application.{Application}
use Rattle.manifests.specs.declared.facts.Deployment.{Deployment}
use Rattle.manifests.specs.declared.facts.FileEntry.{FileEntry}
use Rattle.machine.specs.declared.app.AppState.{AppState}
use Rattle.machine.specs.declared.lease.Lease.{Lease}
use Rattle.machine.specs.Weight.{app_weight, application_bytes, counted, deployment_bytes, file_weight, group_weight, identity_bytes, key_bytes, target_bytes}
use Rattle.store_state.specs.declared.view.Content.{Content}
use Rattle.store_state.specs.declared.view.LocalFile.{LocalFile}
use Rattle.store_state.specs.declared.view.View.{View}
use Rattle.store_state.specs.Tables.{Tables}
use Rattle.record_fields.specs.Fields.{key_field, text_field, version_field}
use Rattle.record_fields.specs.Spelled.{application_field, deployment_field, digest_field, entry_field, identity_field, list_field, listed_field, option_field, rule_field, target_field, terms_field, truth_field}
use Rattle.record_fields.specs.Values.{AreDigests, IsEncodableApplication, IsEncodableDeployment, IsEncodableEntry}
use Rattle.record_fields.proofs.Bounds.{digest_field_le, list_le, option_le, rule_le, version_le}
use Rattle.record_fields.proofs.Long.{length-key_field, length-list_field, length-text_field, length-truth_field, length-version_field}
use Rattle.record_codec.specs.Spelled.{block_field, content_field, local_field, view_field}
use Rattle.record_codec.specs.Values.{IsEncodableContent, IsEncodableLocal}
use Rattle.record_codec.proofs.Blocks.{length-blocks_field}
use Rattle.table_codec.specs.Laws.{AreWithinWeights}
use Rattle.table_codec.specs.Spelled.{app_field, lease_field, lists_field, number_field, rest_field, state_text}
use Rattle.table_codec.specs.Values.{HasFields, HaveFields, IsEncodableApp, IsEncodableLease, IsWide}
use Rattle.table_codec.proofs.Fields.{have_fields}
use Rattle.table_weight.specs.Weight.{content_weight, local_weight, spelled_cost, view_weight, weight_with}

-- ---- lists and options

items_within : {A : Type 0} (f : A → List ℕ) (w : A → ℕ) (P : A → Type 0) (xs : List A)
    → ((x : A) → P x → length (f x) ≤ w x) → All P xs → length (flat_map f xs) ≤ sum_by w xs
items_within f w P [] each all = omega arith
items_within f w P (x ∷ xs) each all =
    let head = each x (All-head P x xs all) in
    let rest = items_within f w P xs each (All-tail P x xs all) in
    omega (arith, head, rest, length-append (f x) (flat_map f xs), sum_by-cons w x xs)

pub list_within : {A : Type 0} (f : A → List ℕ) (w : A → ℕ) (P : A → Type 0) (xs : List A)
    → ((x : A) → P x → length (f x) ≤ w x) → All P xs
    → length (list_field f xs) ≤ 4 + sum_by w xs
list_within f w P xs each all =
    omega (arith, items_within f w P xs each all, length-list_field f xs)

option_within : {A : Type 0} (f : A → List ℕ) (count : A → ℕ) (k : ℕ) (x : Option A)
    → ((y : A) → length (f y) ≤ k + count y)
    → length (option_field f x) ≤ 1 + k + counted count x
option_within f count k None each = omega arith
option_within f count k (Some y) each = let most = each y in omega arith

-- ---- parts

text_within : (text : List ℕ) → length (text_field text) ≤ 4 + length text
text_within text = omega (arith, length-text_field text)

pub target_within : (t : Target) → length (target_field t) ≤ 10 + target_bytes t
unfolding target_field target_bytes
target_within t =
    omega (
      arith,
      length-text_field t.host,
      length-text_field t.path,
      length-append (text_field t.host) (to_be_bytes w16 t.port ++ text_field t.path),
      length-append (to_be_bytes w16 t.port) (text_field t.path),
    )

identity_within : (i : Identity) → length (identity_field i) ≤ 28 + identity_bytes i
unfolding identity_field identity_bytes key_bytes
identity_within i =
    omega (
      arith,
      length-key_field i.key,
      length-text_field i.kind,
      length-version_field i.version,
      length-append (key_field i.key) (version_field i.version ++ text_field i.kind),
      length-append (version_field i.version) (text_field i.kind),
    )

digests_within : (list : List Digest) → AreDigests list
    → length (list_field digest_field list) ≤ 4 + 69 * length list
digests_within list are =
    omega (
      arith,
      list_le digest_field IsSized 69 (length list) list digest_field_le (omega arith) are.sized,
      mul_comm (length list) 69,
    )

-- ---- manifests

entry_within : (e : FileEntry) → IsEncodableEntry e → length (entry_field e) ≤ file_weight e
unfolding entry_field file_weight
entry_within e is =
    let a = text_field e.name in
    let b = to_be_bytes w64 e.size in
    let d = list_field digest_field e.list in
    let g = option_field text_field e.group in
    let t = truth_field e.local in
    omega (
      arith,
      length-text_field e.name,
      digests_within e.list is.list,
      option_within text_field (length {A = ℕ}) 4 e.group text_within,
      length-truth_field e.local,
      length-append a (b ++ (d ++ (g ++ t))),
      length-append b (d ++ (g ++ t)),
      length-append d (g ++ t),
      length-append g t,
    )

deployment_within : (d : Deployment) → IsEncodableDeployment d
    → length (deployment_field d) ≤ 97 + deployment_bytes d + 69 * length d.app_list
unfolding deployment_field terms_field listed_field deployment_bytes
deployment_within d is =
    let i = identity_field d.identity in
    let t = truth_field d.install in
    let m = option_field version_field d.minimum in
    let u = truth_field d.mapped in
    let r = rule_field d.rule in
    let p = option_field text_field d.provider in
    let c = text_field d.codebase in
    let j = identity_field d.app in
    let s = to_be_bytes w64 d.app_size in
    let l = list_field digest_field d.app_list in
    omega (
      arith,
      identity_within d.identity,
      length-truth_field d.install,
      length-truth_field d.mapped,
      rule_le d.rule,
      option_le version_field IsVersion 8 d.minimum (λ v fits. version_le v) is.minimum,
      option_within text_field (length {A = ℕ}) 4 d.provider text_within,
      length-text_field d.codebase,
      identity_within d.app,
      digests_within d.app_list is.app_list,
      length-append (i ++ (t ++ (m ++ (u ++ (r ++ p))))) (c ++ (j ++ (s ++ l))),
      length-append i (t ++ (m ++ (u ++ (r ++ p)))),
      length-append t (m ++ (u ++ (r ++ p))),
      length-append m (u ++ (r ++ p)),
      length-append u (r ++ p),
      length-append r p,
      length-append c (j ++ (s ++ l)),
      length-append j (s ++ l),
      length-append s l,
    )

application_within : (a : Application) → IsEncodableApplication a
    → length (application_field a) ≤ 40 + application_bytes a + sum_by file_weight a.files
unfolding application_field application_bytes
application_within a is =
    let i = identity_field a.identity in
    let e = text_field a.entry in
    let p = text_field a.parameters in
    let f = list_field entry_field a.files in
    omega (
      arith,
      identity_within a.identity,
      length-text_field a.entry,
      length-text_field a.parameters,
      list_within entry_field file_weight IsEncodableEntry a.files entry_within is.files,
      length-append i (e ++ (p ++ f)),
      length-append e (p ++ f),
      length-append p f,
    )

-- ---- views and contents

local_within : (f : LocalFile) → IsEncodableLocal f
    → length (local_field f) ≤ local_weight spelled_cost f
unfolding local_field local_weight
local_within f is =
    let s = to_be_bytes w64 f.length in
    let b = list_field block_field f.held in
    omega (
      arith,
      length-text_field f.name,
      length-blocks_field f.held,
      length-append (text_field f.name) (s ++ b),
      length-append s b,
    )

pub content_within : (c : Content) → IsEncodableContent c
    → length (content_field c) ≤ content_weight spelled_cost c
unfolding content_field content_weight
content_within c is =
    let s = to_be_bytes w64 c.size in
    let l = list_field digest_field c.list in
    let b = list_field block_field c.held in
    omega (
      arith,
      digests_within c.list is.list,
      length-blocks_field c.held,
      length-append s (l ++ b),
      length-append l b,
    )

group_within : (group : List ℕ) → IsShort NAME_LIMIT group
    → length (text_field group) ≤ group_weight group
group_within group is = omega (arith, length-text_field group)

-- a view weighs more than is spelled of it
pub view_spare : (v : View) → HasFields v
    → length (view_field v) + 800 ≤ view_weight spelled_cost v
unfolding view_field view_weight
view_spare v is =
    let n = to_be_bytes w64 v.number in
    let d = deployment_field v.deployment in
    let a = application_field v.application in
    let b = target_field v.base in
    let g = list_field text_field v.groups in
    let l = list_field local_field v.locals in
    omega (
      arith,
      deployment_within v.deployment is.deployment,
      application_within v.application is.application,
      target_within v.base,
      list_within text_field group_weight (IsShort NAME_LIMIT) v.groups group_within is.groups,
      list_within local_field (local_weight spelled_cost) IsEncodableLocal v.locals local_within is.locals,
      length-append n (d ++ (a ++ (b ++ (g ++ l)))),
      length-append d (a ++ (b ++ (g ++ l))),
      length-append a (b ++ (g ++ l)),
      length-append b (g ++ l),
      length-append g l,
    )

pub view_within : (v : View) → HasFields v → length (view_field v) ≤ view_weight spelled_cost v
view_within v is = omega (arith, view_spare v is)

-- ---- applications and leases

wide_option : (x : Option ℕ) → IfSome x IsWide → length (option_field number_field x) ≤ 9
wide_option x is = option_le number_field IsWide 8 x (λ n fits. omega arith) is

version_option : (x : Option Version) → IfSome x IsVersion
    → length (option_field version_field x) ≤ 9
version_option x is = option_le version_field IsVersion 8 x (λ v fits. version_le v) is

pub rest_within : (app : AppState) → IsEncodableApp app → length (rest_field app) ≤ 64
unfolding rest_field
rest_within app is =
    let c = option_field number_field app.current in
    let p = option_field number_field app.previous in
    let m = option_field version_field app.minimum in
    let o = option_field version_field app.offer in
    let s = option_field version_field app.skipped in
    let e = option_field version_field app.excluded in
    let l = option_field number_field app.last_check in
    let k = truth_field app.checked in
    omega (
      arith,
      wide_option app.current is.current,
      wide_option app.previous is.previous,
      version_option app.minimum is.minimum,
      version_option app.offer is.offer,
      version_option app.skipped is.skipped,
      version_option app.excluded is.excluded,
      wide_option app.last_check is.last_check,
      length-truth_field app.checked,
      length-append c (p ++ (m ++ (o ++ (s ++ (e ++ (l ++ k)))))),
      length-append p (m ++ (o ++ (s ++ (e ++ (l ++ k))))),
      length-append m (o ++ (s ++ (e ++ (l ++ k)))),
      length-append o (s ++ (e ++ (l ++ k))),
      length-append s (e ++ (l ++ k)),
      length-append e (l ++ k),
      length-append l k,
    )

app_within : (app : AppState) → IsEncodableApp app → length (app_field app) ≤ app_weight app
unfolding app_field app_weight key_bytes
app_within app is =
    let k = key_field app.key in
    let p = option_field target_field app.provider in
    omega (
      arith,
      length-key_field app.key,
      option_within target_field target_bytes 10 app.provider target_within,
      rest_within app is,
      length-append k (p ++ rest_field app),
      length-append p (rest_field app),
    )

pub lease_long : (lease : Lease) → IsEncodableLease lease → length (lease_field lease) ≤ 16
unfolding lease_field
lease_long lease is = omega arith

-- ---- tables

pub fields_within : (t : Tables) → length t.leases ≤ LEASE_LIMIT → HaveFields t
    → length (state_text t) ≤ weight_with spelled_cost t
unfolding state_text lists_field weight_with
fields_within t few have =
    let a = number_field t.boot in
    let b = number_field t.next_view in
    let c = number_field t.next_lease in
    let l = list_field lease_field t.leases in
    let v = list_field view_field t.views in
    let p = list_field app_field t.apps in
    let o = list_field content_field t.contents in
    omega (
      arith,
      list_le lease_field IsEncodableLease 16 LEASE_LIMIT t.leases lease_long few have.leases,
      list_within view_field (view_weight spelled_cost) HasFields t.views view_within have.views,
      list_within app_field app_weight IsEncodableApp t.apps app_within have.apps,
      list_within content_field (content_weight spelled_cost) IsEncodableContent t.contents content_within
          have.contents,
      length-append a (b ++ (c ++ (l ++ (v ++ (p ++ o))))),
      length-append b (c ++ (l ++ (v ++ (p ++ o)))),
      length-append c (l ++ (v ++ (p ++ o))),
      length-append l (v ++ (p ++ o)),
      length-append v (p ++ o),
      length-append p o,
    )

pub state_within : AreWithinWeights
state_within t is = fields_within t is.few_leases (have_fields t is)
