-- Fewer data files and fewer views weigh no more.
use Rattle.std.proofs.Common.{◌+◌, ◌*◌, ◌≤◌, refl, ap, ℕ, Bool, true, false, cond, not, eqb, List, [], ◌∷◌, map, arith}
use Rattle.std.specs.Prelude.{filter, sum_by}
use Rattle.std.proofs.lemmas.List.Filters.{sum_by-filter_both}
use Rattle.std.proofs.lemmas.List.Sums.{sum_by-cons}
use Rattle.manifests.specs.declared.facts.FileEntry.{FileEntry}
use Rattle.machine.specs.declared.app.AppState.{AppState}
use Rattle.machine.specs.declared.weights.TheConstants.{BLOCK_WEIGHT, CONTENT_WEIGHT}
use Rattle.machine.specs.Blocks.{blocks_of, distinct, standing_files}
use Rattle.machine.specs.Grouped.{with_view_at}
use Rattle.machine.specs.Shape.{BareView, bare_data, bare_view}
use Rattle.machine.specs.Store.{Store}
use Rattle.machine.specs.Views.{ContentKey, DataFile, View}
use Rattle.machine.specs.Weight.{content_weight, data_weight, digests_weight, view_weight, weight_of}
use Rattle.machine.proofs.DataViews.{redone, same_standing}
use Rattle.machine.proofs.GrownViews.{sum_among}
use Rattle.machine.proofs.Members.{In, sum_map}

-- ---- contents

-- what a content weighs by its key
abbrev key_weight : ContentKey → ℕ
key_weight key =
    CONTENT_WEIGHT + digests_weight key.list + BLOCK_WEIGHT * blocks_of key.size

pub contents_among : (xs ys : List FileEntry) → ((x : FileEntry) → In x xs → In x ys)
    → sum_by content_weight (distinct xs) ≤ sum_by content_weight (distinct ys)
unfolding content_weight
contents_among xs ys among = sum_among key_weight xs ys among

-- ---- a view with fewer data files

module _ (number : ℕ) (g : List DataFile → List DataFile) (old : Store)
    (less : (files : List DataFile)
    → sum_by data_weight (map bare_data (g files)) ≤ sum_by data_weight (map bare_data files)) where
  lower_view : (v : View) → view_weight (bare_view (redone g v)) ≤ view_weight (bare_view v)
  unfolding view_weight
  lower_view v = omega (arith, less v.data_files)

  lower_at : (b : Bool) (v : View) (rest : List BareView) (vs : List View)
      → sum_by view_weight rest ≤ sum_by view_weight (map bare_view vs)
      → sum_by view_weight (bare_view (cond b (redone g v) v) ∷ rest)
      ≤ sum_by view_weight (map bare_view (v ∷ vs))
  lower_at true v rest vs le =
      omega (
        arith,
        le,
        lower_view v,
        sum_by-cons view_weight (bare_view (redone g v)) rest,
        sum_by-cons view_weight (bare_view v) (map bare_view vs),
      )
  lower_at false v rest vs le =
      omega (
        arith,
        le,
        sum_by-cons view_weight (bare_view v) rest,
        sum_by-cons view_weight (bare_view v) (map bare_view vs),
      )

  lower_views : (vs : List View)
      → sum_by view_weight (map bare_view (with_view_at number (redone g) vs))
      ≤ sum_by view_weight (map bare_view vs)
  lower_views [] = omega arith
  lower_views (v ∷ vs) =
      lower_at (eqb v.number number) v (map bare_view (with_view_at number (redone g) vs)) vs
      (lower_views vs)

  pub lower_data : weight_of (map bare_view (with_view_at number (redone g) old.views)) old.apps
      ≤ weight_of (map bare_view old.views) old.apps
  unfolding weight_of
  lower_data =
      let files = ap (λ (es : List FileEntry). sum_by content_weight (distinct es))
      (same_standing number g old) in
      omega (arith, files, lower_views old.views)

-- ---- fewer views

pub lower_kept : (keeps : View → Bool) (views : List View) (apps : List AppState)
    → ((entry : FileEntry) → In entry (standing_files (map bare_view (filter keeps views)))
    → In entry (standing_files (map bare_view views)))
    → weight_of (map bare_view (filter keeps views)) apps ≤ weight_of (map bare_view views) apps
unfolding weight_of
lower_kept keeps views apps among =
    let weigh = λ (v : View). view_weight (bare_view v) in
    omega (
      arith,
      contents_among (standing_files (map bare_view (filter keeps views)))
          (standing_files (map bare_view views)) among,
      sum_map bare_view view_weight (filter keeps views),
      sum_map bare_view view_weight views,
      sum_by-filter_both keeps (λ (v : View). not (keeps v)) (λ v. refl) weigh views,
    )
