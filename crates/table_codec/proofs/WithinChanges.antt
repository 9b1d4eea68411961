-- The encoding of a change is hardly longer than the weight that it adds.
use Rattle.std.proofs.Common.{◌≡◌, ◌+◌, ◌-◌, ◌*◌, ◌≤◌, ℕ, Bool, true, false, cond, eqb, List, [], ◌∷◌, ◌++◌, All, IfSome, Option, Some, None, length, arith}
use Rattle.std.specs.Prelude.{sum_by}
use Rattle.std.specs.Int.{to_be_bytes, w64}
use Rattle.std.specs.declared.cmp.Ordering.{Ordering}
use Rattle.std.specs.declared.cmp.Ordering.TheVariants.{Less, Equal, Greater}
use Rattle.std.proofs.lemmas.List.{length-append}
use Rattle.std.proofs.lemmas.List.Elements.{All-head, All-tail}
use Rattle.std.proofs.lemmas.List.Sums.{sum_by-append, sum_by-cons}
use Rattle.small_types.specs.declared.limits.TheConstants.{PIECE_LIMIT}
use Rattle.small_types.specs.declared.target.Target.{Target}
use Rattle.small_types.specs.Short.{IsTarget}
use Rattle.identity.specs.declared.key.Key.{Key}
use Rattle.manifests.specs.declared.facts.Deployment.{Deployment}
use Rattle.machine.specs.declared.app.AppState.{AppState}
use Rattle.machine.specs.Entries.{fresh, key_cmp, with_entry, with_entry_at}
use Rattle.machine.specs.Installed.{installed_app}
use Rattle.machine.specs.Weight.{app_weight, counted, group_weight, target_bytes}
use Rattle.store_state.specs.declared.change.Change.TheVariants.{Boot, Require, Install, Heard, Unheard, Skip, Rollback, Launch, Finish, Group, Put, Remove, Clean}
use Rattle.store_state.specs.declared.view.Content.{Content}
use Rattle.store_state.specs.declared.view.LocalFile.{LocalFile}
use Rattle.store_state.specs.declared.view.View.{View}
use Rattle.store_state.specs.Change.{effect, grown}
use Rattle.store_state.specs.Contents.{IsMeasured}
use Rattle.store_state.specs.Measured.{BringsMeasured, IsMeasuredLocal}
use Rattle.store_state.specs.Rows.{with_row}
use Rattle.store_state.specs.Tables.{Tables}
use Rattle.record_fields.specs.Fields.{text_field}
use Rattle.record_fields.specs.Spelled.{list_field, target_field}
use Rattle.record_fields.proofs.Long.{length-text_field}
use Rattle.record_fields.proofs.Sizes.{name_le}
use Rattle.record_codec.specs.Codec.{change_text, group_text, install_text, put_text}
use Rattle.record_codec.specs.Spelled.{block_field, content_field, local_field, view_field}
use Rattle.record_codec.specs.Values.{IsEncodableContent, IsEncodableGroup, IsEncodableInstall, IsEncodableLocal}
use Rattle.record_codec.proofs.Blocks.{length-blocks_field}
use Rattle.record_codec.proofs.Bounds.{change_le}
use Rattle.table_codec.specs.declared.laws.TheConstants.{CHANGE_LIMIT}
use Rattle.table_codec.specs.Laws.{ChangesAreWithinWeights}
use Rattle.table_codec.specs.Values.{IsEncodableApp, IsEncodableState}
use Rattle.table_codec.proofs.Fields.{has_fields}
use Rattle.table_codec.proofs.Within.{content_within, list_within, target_within, view_spare}
use Rattle.table_codec.proofs.WithinTables.{content_blocks, sums_within, view_blocks}
use Rattle.table_weight.specs.Weight.{block_cost, content_weight, spelled_cost, tables_weight, view_weight, weight_with}

-- ---- parts

-- contents that a change brings
brought_within : (contents : List Content) → All IsEncodableContent contents
    → All IsMeasured contents
    → length (list_field content_field contents) ≤ 4 + sum_by (content_weight block_cost) contents
brought_within contents encode measured =
    omega (
      arith,
      list_within content_field (content_weight spelled_cost) IsEncodableContent contents
          content_within encode,
      sums_within (content_weight spelled_cost) (content_weight block_cost) IsMeasured contents
          content_blocks measured,
    )

target_few : (t : Target) → IsTarget t → target_bytes t ≤ 4_096
unfolding target_bytes
target_few t is = omega (arith, is.host.within, is.path.within)

provider_few : (provider : Option Target) → IfSome provider IsTarget
    → counted target_bytes provider ≤ 4_096
provider_few None is = omega arith
provider_few (Some t) is = target_few t is

-- ---- an application whose provider is replaced

module _ (key : Key) (number : ℕ) (d : Deployment) (provider : Target) (now : ℕ) where
  abbrev f : AppState → AppState
  f app = installed_app number d provider now app

  replaced : (app : AppState) → IsEncodableApp app
      → app_weight app + target_bytes provider ≤ app_weight (f app) + 4_096
  unfolding app_weight
  replaced app is = omega (arith, provider_few app.provider is.provider)

  made : target_bytes provider ≤ app_weight (f (fresh key))
  unfolding app_weight
  made = omega arith

  replaced_at : (o : Ordering) (app : AppState) (apps rest : List AppState) → IsEncodableApp app
      → sum_by app_weight apps + target_bytes provider ≤ sum_by app_weight rest + 4_096
      → sum_by app_weight (app ∷ apps) + target_bytes provider
      ≤ sum_by app_weight (with_entry_at o key f app apps rest) + 4_096
  replaced_at Less app apps rest is more =
      omega (arith, more, sum_by-cons app_weight app apps, sum_by-cons app_weight app rest)
  replaced_at Equal app apps rest is more =
      omega (
        arith,
        replaced app is,
        sum_by-cons app_weight app apps,
        sum_by-cons app_weight (f app) apps,
      )
  replaced_at Greater app apps rest is more =
      omega (arith, made, sum_by-cons app_weight (f (fresh key)) (app ∷ apps))

  replaced_in : (apps : List AppState) → All IsEncodableApp apps
      → sum_by app_weight apps + target_bytes provider
      ≤ sum_by app_weight (with_entry key f apps) + 4_096
  replaced_in [] are = omega (arith, made, sum_by-cons app_weight (f (fresh key)) [])
  replaced_in (app ∷ apps) are =
      replaced_at (key_cmp app.key key) app apps (with_entry key f apps)
      (All-head IsEncodableApp app apps are)
      (replaced_in apps (All-tail IsEncodableApp app apps are))

-- ---- views of which one has a group more

grown_more : (group : List ℕ) (view : View)
    → view_weight block_cost view ≤ view_weight block_cost (grown group view)
unfolding view_weight
grown_more group view = omega (arith, sum_by-append group_weight view.groups (group ∷ []))

grown_by : (group : List ℕ) (c : Bool) (view : View)
    → view_weight block_cost view ≤ view_weight block_cost (cond c (grown group view) view)
grown_by group true view = grown_more group view
grown_by group false view = omega arith

grown_in : (number : ℕ) (group : List ℕ) (views : List View)
    → sum_by (view_weight block_cost) views
    ≤ sum_by (view_weight block_cost) (with_row number (grown group) views)
grown_in number group [] = omega arith
grown_in number group (view ∷ views) =
    omega (
      arith,
      grown_by group (eqb view.number number) view,
      grown_in number group views,
      sum_by-cons (view_weight block_cost) view views,
      sum_by-cons (view_weight block_cost)
          (cond (eqb view.number number) (grown group view) view)
          (with_row number (grown group) views),
    )

-- ---- how long changes are

install_long : (view : View) (contents : List Content) (provider : Target) (now : ℕ)
    → length (change_text (Install view contents provider now))
    ≡ 9 + length (view_field view) + length (list_field content_field contents)
    + length (target_field provider)
unfolding change_text install_text
install_long view contents provider now =
    let v = view_field view in
    let c = list_field content_field contents in
    let p = target_field provider in
    let n = to_be_bytes w64 now in
    omega (
      arith,
      length-append v (c ++ (p ++ n)),
      length-append c (p ++ n),
      length-append p n,
    )

group_long : (number : ℕ) (group : List ℕ) (contents : List Content)
    → length (change_text (Group number group contents))
    ≡ 13 + length group + length (list_field content_field contents)
unfolding change_text group_text
group_long number group contents =
    let n = to_be_bytes w64 number in
    let g = text_field group in
    let c = list_field content_field contents in
    omega (arith, length-text_field group, length-append n (g ++ c), length-append g c)

put_long : (number : ℕ) (file : LocalFile)
    → length (change_text (Put number file)) ≡ 25 + length file.name + 4 * length file.held
unfolding change_text put_text local_field
put_long number file =
    let n = to_be_bytes w64 number in
    let a = text_field file.name in
    let s = to_be_bytes w64 file.length in
    let b = list_field block_field file.held in
    omega (
      arith,
      length-text_field file.name,
      length-blocks_field file.held,
      length-append n (a ++ (s ++ b)),
      length-append a (s ++ b),
      length-append s b,
    )

-- ---- the three that may be long

install_within : (t : Tables) (view : View) (contents : List Content) (provider : Target) (now : ℕ)
    → IsEncodableState t → BringsMeasured (Install view contents provider now)
    → IsEncodableInstall view contents provider now
    → length (change_text (Install view contents provider now))
    ≤ CHANGE_LIMIT
    + (tables_weight (effect (Install view contents provider now) t) - tables_weight t)
unfolding weight_with
install_within t view contents provider now has brings is =
    omega (
      arith,
      install_long view contents provider now,
      view_spare view (has_fields view is.view),
      view_blocks view brings.1,
      brought_within contents is.contents brings.0,
      target_within provider,
      replaced_in view.deployment.identity.key view.number view.deployment provider now t.apps
          has.apps,
      sum_by-append (view_weight block_cost) t.views (view ∷ []),
      sum_by-cons (view_weight block_cost) view [],
      sum_by-append (content_weight block_cost) t.contents contents,
    )

group_within : (t : Tables) (number : ℕ) (group : List ℕ) (contents : List Content)
    → All IsMeasured contents → IsEncodableGroup number group contents
    → length (change_text (Group number group contents))
    ≤ CHANGE_LIMIT
    + (tables_weight (effect (Group number group contents) t) - tables_weight t)
unfolding weight_with
group_within t number group contents brings is =
    omega (
      arith,
      group_long number group contents,
      is.group.within,
      brought_within contents is.contents brings,
      grown_in number group t.views,
      sum_by-append (content_weight block_cost) t.contents contents,
    )

put_within : (number : ℕ) (file : LocalFile) → IsEncodableLocal file → IsMeasuredLocal file
    → file.length ≤ PIECE_LIMIT
    → length (change_text (Put number file)) ≤ CHANGE_LIMIT
put_within number file is brings short =
    omega (
      arith,
      put_long number file,
      name_le file.name is.name,
      brings,
      short,
    )

-- ---- every change

pub changes_within : ChangesAreWithinWeights
changes_within t (Boot boot) are has fits is brings short = omega (arith, change_le (Boot boot) is)
changes_within t (Require key version) are has fits is brings short =
    omega (arith, change_le (Require key version) is)
changes_within t (Install view contents provider now) are has fits is brings short =
    install_within t view contents provider now has brings is
changes_within t (Heard key version minimum now) are has fits is brings short =
    omega (arith, change_le (Heard key version minimum now) is)
changes_within t (Unheard key) are has fits is brings short = omega (arith, change_le (Unheard key) is)
changes_within t (Skip place) are has fits is brings short = omega (arith, change_le (Skip place) is)
changes_within t (Rollback place) are has fits is brings short = omega (arith, change_le (Rollback place) is)
changes_within t (Launch place) are has fits is brings short = omega (arith, change_le (Launch place) is)
changes_within t (Finish lease) are has fits is brings short = omega (arith, change_le (Finish lease) is)
changes_within t (Group number group contents) are has fits is brings short =
    group_within t number group contents brings is
changes_within t (Put number file) are has fits is brings short =
    omega (arith, put_within number file is.1 brings short)
changes_within t (Remove number name) are has fits is brings short =
    omega (arith, change_le (Remove number name) is)
changes_within t Clean are has fits is brings short = omega (arith, change_le Clean is)
