-- How long the encodings of values are at most.
use Rattle.std.proofs.Common.{◌≡◌, ℕ, ◌≤◌, ◌^◌, List, ◌++◌, Option, length, ap, arith}
use Rattle.std.specs.Int.{to_be_bytes, w64}
use Rattle.std.proofs.lemmas.List.{length-append}
use Rattle.small_types.specs.declared.limits.TheConstants.{FILE_COUNT_LIMIT, NAME_LIMIT}
use Rattle.small_types.specs.declared.target.Target.{Target}
use Rattle.identity.specs.declared.key.Key.{Key}
use Rattle.identity.specs.declared.version.Version.{Version}
use Rattle.small_types.specs.Short.{IsShort}
use Rattle.store_state.specs.declared.change.Change.{Change}
use Rattle.store_state.specs.declared.change.Change.TheVariants.{Boot, Require, Install, Heard, Unheard, Skip, Rollback, Launch, Finish, Group, Put, Remove, Clean}
use Rattle.store_state.specs.declared.view.Content.{Content}
use Rattle.store_state.specs.declared.view.LocalFile.{LocalFile}
use Rattle.store_state.specs.declared.view.View.{View}
use Rattle.record_codec.specs.Codec.{change_text, group_text, heard_text, install_text, IsChange, length_limit}
use Rattle.record_fields.specs.Fields.{text_field, key_field, version_field}
use Rattle.record_fields.specs.Spelled.{application_field, deployment_field, digest_field, list_field, option_field, target_field}
use Rattle.record_codec.specs.Spelled.{block_field, content_field, local_field, view_field}
use Rattle.record_codec.specs.Values.{IsEncodableContent, IsEncodableGroup, IsEncodableCheck, IsEncodableInstall, IsEncodableLocal, IsEncodableView}
use Rattle.record_fields.proofs.Long.{length-text_field, length-version_field}
use Rattle.record_fields.proofs.Sizes.{name_le}
use Rattle.record_codec.proofs.Blocks.{length-blocks_field}
use Rattle.record_codec.proofs.Written.{length-change_text_boot, length-change_text_require, length-change_text_unheard, length-change_text_skip, length-change_text_rollback, length-change_text_launch, length-change_text_finish, length-change_text_put, length-change_text_remove, length-change_text_clean}
use Rattle.record_fields.proofs.Bounds.{application_le, deployment_le, digests_le, key_le, list_le, named_le, option_le, target_le, text_le, version_le}

-- ---- views and their files

pub content_le : (c : Content) → IsEncodableContent c → length (content_field c) ≤ 17179869748
unfolding content_field
content_le c is =
    let s = to_be_bytes w64 c.size in
    let l = list_field digest_field c.list in
    let b = list_field block_field c.held in
    omega (
      arith,
      digests_le c.list is.list,
      is.few_blocks,
      length-blocks_field c.held,
      length-append s (l ++ b),
      length-append l b,
    )

pub local_le : (f : LocalFile) → IsEncodableLocal f → length (local_field f) ≤ 17179869436
unfolding local_field
local_le f is =
    let s = to_be_bytes w64 f.length in
    let b = list_field block_field f.held in
    omega (
      arith,
      name_le f.name is.name,
      is.few_blocks,
      length-text_field f.name,
      length-blocks_field f.held,
      length-append (text_field f.name) (s ++ b),
      length-append s b,
    )

pub view_le : (v : View) → IsEncodableView FILE_COUNT_LIMIT v
    → length (view_field v) ≤ 281475009999999
unfolding view_field
view_le v is =
    let n = to_be_bytes w64 v.number in
    let d = deployment_field v.deployment in
    let a = application_field v.application in
    let b = target_field v.base in
    let g = list_field text_field v.groups in
    let l = list_field local_field v.locals in
    omega (
      arith,
      deployment_le v.deployment is.deployment,
      application_le v.application is.application,
      target_le v.base is.base,
      list_le text_field (IsShort NAME_LIMIT) 244 FILE_COUNT_LIMIT v.groups (text_le NAME_LIMIT)
          is.few_groups is.groups,
      list_le local_field IsEncodableLocal 17179869436 FILE_COUNT_LIMIT v.locals local_le is.few_locals
          is.locals,
      length-append n (d ++ (a ++ (b ++ (g ++ l)))),
      length-append d (a ++ (b ++ (g ++ l))),
      length-append a (b ++ (g ++ l)),
      length-append b (g ++ l),
      length-append g l,
    )

install_le : (v : View) (contents : List Content) (provider : Target) (now : ℕ)
    → IsEncodableInstall v contents provider now
    → length (install_text v contents provider now) ≤ 2 ^ 50
unfolding install_text
install_le v contents provider now is =
    let w = view_field v in
    let c = list_field content_field contents in
    let p = target_field provider in
    let n = to_be_bytes w64 now in
    omega (
      arith,
      view_le v is.view,
      list_le content_field IsEncodableContent 17179869748 FILE_COUNT_LIMIT contents content_le is.few
          is.contents,
      target_le provider is.provider,
      length-append w (c ++ (p ++ n)),
      length-append c (p ++ n),
      length-append p n,
    )

heard_le : (key : Key) (version : Version) (minimum : Option Version) (now : ℕ)
    → IsEncodableCheck key version minimum now → length (heard_text key version minimum now) ≤ 474
unfolding heard_text
heard_le key version minimum now is =
    let k = key_field key in
    let v = version_field version in
    let m = option_field version_field minimum in
    let n = to_be_bytes w64 now in
    omega (
      arith,
      key_le key is.key,
      length-version_field version,
      option_le version_field _ 8 minimum (λ least fits. version_le least) is.minimum,
      length-append k (v ++ (m ++ n)),
      length-append v (m ++ n),
      length-append m n,
    )

group_le : (view : ℕ) (group : List ℕ) (contents : List Content) → IsEncodableGroup view group contents
    → length (group_text view group contents) ≤ 2 ^ 50
unfolding group_text
group_le view group contents is =
    let v = to_be_bytes w64 view in
    let g = text_field group in
    let c = list_field content_field contents in
    omega (
      arith,
      text_le NAME_LIMIT group is.group,
      list_le content_field IsEncodableContent 17179869748 FILE_COUNT_LIMIT contents content_le is.few
          is.contents,
      length-append v (g ++ c),
      length-append g c,
    )

-- ---- changes

pub change_le : (change : Change) → IsChange change
    → length (change_text change) ≤ length_limit change
unfolding change_text
change_le (Boot boot) is = omega (arith, length-change_text_boot boot)
change_le (Require key version) is =
    omega (arith, length-change_text_require key version, key_le key is.0)
change_le (Install view contents provider now) is = install_le view contents provider now is
change_le (Heard key version minimum now) is = heard_le key version minimum now is
change_le (Unheard key) is = omega (arith, length-change_text_unheard key, key_le key is)
change_le (Skip app) is = omega (arith, length-change_text_skip app)
change_le (Rollback app) is = omega (arith, length-change_text_rollback app)
change_le (Launch app) is = omega (arith, length-change_text_launch app)
change_le (Finish lease) is = omega (arith, length-change_text_finish lease)
change_le (Group view group contents) is = group_le view group contents is
change_le (Put view file) is = omega (arith, length-change_text_put view file, local_le file is.1)
change_le (Remove view name) is =
    omega (arith, length-change_text_remove view name, named_le name is.1)
change_le Clean is = omega (arith, length-change_text_clean)

pub installed_le : {change : Change} {view : View} {contents : List Content} {provider : Target}
    {now : ℕ} → change ≡ Install view contents provider now → IsChange change
    → length (change_text change) ≤ 2 ^ 50
installed_le {change} is fits =
    let most = change_le change fits in
    let limit : length_limit change ≡ 2 ^ 50 = ap length_limit is in
    omega arith

pub heard_within : {change : Change} {key : Key} {version : Version} {minimum : Option Version}
    {now : ℕ} → change ≡ Heard key version minimum now → IsChange change
    → length (change_text change) ≤ 474
heard_within {change} is fits =
    let most = change_le change fits in
    let limit : length_limit change ≡ 474 = ap length_limit is in
    omega arith

pub grouped_within : {change : Change} {view : ℕ} {group : List ℕ} {contents : List Content}
    → change ≡ Group view group contents → IsChange change → length (change_text change) ≤ 2 ^ 50
grouped_within {change} is fits =
    let most = change_le change fits in
    let limit : length_limit change ≡ 2 ^ 50 = ap length_limit is in
    omega arith
