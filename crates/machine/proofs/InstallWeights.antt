-- The weight of a store with one more view.
use Rattle.std.proofs.Common.{◌≡◌, ◌∙◌, ◌++◌, refl, sym, ap, ℕ, List, [], ◌∷◌, map, AllPairs, Option, Some, None, arith}
use Rattle.std.specs.Prelude.{option_and_then, sum_by}
use Rattle.std.specs.declared.cmp.Ordering.TheVariants.{Less}
use Rattle.std.proofs.lemmas.List.{map-append}
use Rattle.std.proofs.lemmas.List.Sums.{sum_by-append}
use Rattle.small_types.specs.declared.target.Target.{Target}
use Rattle.identity.specs.declared.key.Key.{Key}
use Rattle.identity.specs.Printed.{text_cmp}
use Rattle.manifests.specs.declared.facts.Application.{Application}
use Rattle.manifests.specs.declared.facts.Deployment.{Deployment}
use Rattle.manifests.specs.declared.facts.FileEntry.{FileEntry}
use Rattle.manifests.specs.Facts.{AreApplicationFacts}
use Rattle.machine.specs.declared.app.AppState.{AppState}
use Rattle.machine.specs.BareViews.{migrated_data, new_bare}
use Rattle.machine.specs.Blocks.{distinct, standing_files}
use Rattle.machine.specs.Current.{bare_data_of, current_bare, current_of, current_view, data_of, listed_by, view_at}
use Rattle.machine.specs.Entries.{with_entry}
use Rattle.machine.specs.Installed.{AreFetched, installed_app, new_view, with_view}
use Rattle.machine.specs.InstallRow.{weight_installed, with_provider}
use Rattle.machine.specs.Migrated.{Migrated}
use Rattle.machine.specs.Shape.{BareData, BareView, Shape, bare_data, bare_view, shape_of}
use Rattle.machine.specs.Store.{Store, session_over}
use Rattle.machine.specs.Valid.{IsView, Ordered}
use Rattle.machine.specs.Views.{DataFile, ListedFile, View, standing_entries}
use Rattle.machine.specs.Weight.{app_weight, content_weight, data_weight, view_weight, weight_of}
use Rattle.machine.proofs.AppWeights.{alike_sum, same_apps}
use Rattle.machine.proofs.BroughtFiles.{bare_data_current, bare_listed_current}
use Rattle.machine.proofs.Leased.{view_in}
use Rattle.machine.proofs.Members.{all_in}
use Rattle.machine.proofs.MigratedData.{migrated_weight}

-- ---- the last view with its data files in another order

module _ (last : BareView) (files : List BareData) where
  abbrev other : BareView
  other = record last { data_files = files }

  same_contents : (views : List BareView)
      → standing_files (views ++ other ∷ []) ≡ standing_files (views ++ last ∷ [])
  same_contents [] = refl
  same_contents (view ∷ views) =
      ap (λ (es : List FileEntry). standing_entries view.groups view.application ++ es)
      (same_contents views)

  module _ (same : sum_by data_weight files ≡ sum_by data_weight last.data_files) where
    same_view : view_weight other ≡ view_weight last
    unfolding view_weight
    same_view = omega (arith, same)

    same_last : (views : List BareView) (apps : List AppState)
        → weight_of (views ++ other ∷ []) apps ≡ weight_of (views ++ last ∷ []) apps
    unfolding weight_of
    same_last views apps =
        let contents = ap (λ (es : List FileEntry). sum_by content_weight (distinct es))
        (same_contents views) in
        omega (
          arith,
          contents,
          same_view,
          sum_by-append view_weight views (other ∷ []),
          sum_by-append view_weight views (last ∷ []),
        )

-- ---- the data files of the current view are in order

module _ (old : Store) (was : Ordered old) where
  abbrev InOrder : Option View → Type 0
  InOrder view = AllPairs (λ (f g : DataFile). text_cmp f.name g.name ≡ Less) (data_of view)

  order_at : (number : ℕ) (view : Option View) → view_at number old.views ≡ view → InOrder view
  order_at number None is = λ i j d lt within. absurd (omega arith)
  order_at number (Some view) is =
      (all_in IsView old.views view was.views (view_in number old.views view is).0).data_order

  order_then : (number : Option ℕ)
      → InOrder (option_and_then (λ (n : ℕ). view_at n old.views) number)
  order_then None = λ i j d lt within. absurd (omega arith)
  order_then (Some number) = order_at number (view_at number old.views) refl

  current_order : (key : Key) → InOrder (current_view key old)
  current_order key = order_then (current_of key old.apps)

-- ---- the applications

same_provider : (number : ℕ) (d : Deployment) (provider : Target) (now : ℕ) (app : AppState)
    → app_weight (installed_app number d provider now app) ≡ app_weight (with_provider provider app)
unfolding app_weight
same_provider number d provider now app = refl

-- ---- the store

module _ (provider base : Target) (d : Deployment) (a : Application)
    (files originals : List ListedFile) (data_files : List DataFile) (now : ℕ) (old : Store)
    (fetched : AreFetched old a files originals)
    (migrated : Migrated (data_of (current_view d.identity.key old))
    (listed_by (current_view d.identity.key old)) a.files originals data_files)
    (was : Ordered old) (facts : AreApplicationFacts a) where
  abbrev shape : Shape
  shape = shape_of (session_over old)

  abbrev new : Store
  new = with_view provider base d a files data_files now old

  abbrev view : View
  view = new_view old.next_view base d a files data_files

  same_data : sum_by data_weight (map bare_data data_files)
      ≡ sum_by data_weight (new_bare base d a shape).data_files
  same_data =
      migrated_weight (data_of (current_view d.identity.key old))
      (listed_by (current_view d.identity.key old)) a originals
      (current_order old was d.identity.key) facts fetched.deployed
      (λ k file within. (fetched.whole_data k file within).sized) data_files migrated
      ∙ ap (λ (ds : List BareData).
      sum_by data_weight (migrated_data ds (listed_by (current_view d.identity.key old)) a.files))
      (sym (bare_data_current d.identity.key old))
      ∙ ap (λ (es : List FileEntry). sum_by data_weight
      (migrated_data (bare_data_of (current_bare d.identity.key shape)) es a.files))
      (sym (bare_listed_current d.identity.key old))

  pub installed_weight : weight_of (map bare_view new.views) new.apps
      ≡ weight_installed provider base d a shape
  installed_weight =
      ap (λ (views : List BareView). weight_of views new.apps)
      (map-append bare_view old.views (view ∷ []))
      ∙ same_last (new_bare base d a shape) (map bare_data data_files) same_data
      (map bare_view old.views) new.apps
      ∙ same_apps (map bare_view old.views ++ new_bare base d a shape ∷ []) new.apps
      (with_entry d.identity.key (with_provider provider) old.apps)
      (alike_sum d.identity.key (installed_app old.next_view d provider now)
      (with_provider provider) (same_provider old.next_view d provider now) old.apps)
