-- Views without the bytes of their files, of which one is changed.
use Rattle.std.proofs.Common.{◌≡◌, ◌∙◌, refl, ap, ℕ, Bool, true, false, cond, eqb, List, [], ◌∷◌, map}
use Rattle.std.specs.declared.cmp.Ordering.{Ordering}
use Rattle.std.specs.declared.cmp.Ordering.TheVariants.{Less, Equal, Greater}
use Rattle.identity.specs.Printed.{text_cmp}
use Rattle.machine.specs.BareViews.{with_bare_at, with_bare_data, with_bare_group}
use Rattle.machine.specs.DataFiles.{bare_name, data_name, with_data, with_named, with_named_at}
use Rattle.machine.specs.Grouped.{with_group, with_view_at}
use Rattle.machine.specs.Shape.{BareData, BareView, bare_data, bare_view}
use Rattle.machine.specs.Views.{DataFile, ListedFile, View}

-- where f is g without the bytes
module _ (number : ℕ) (f : View → View) (g : BareView → BareView)
    (same : (view : View) → bare_view (f view) ≡ g (bare_view view)) where
  bare_by : (b : Bool) (view : View)
      → bare_view (cond b (f view) view) ≡ cond b (g (bare_view view)) (bare_view view)
  bare_by true view = same view
  bare_by false view = refl

  bare_with : (views : List View)
      → map bare_view (with_view_at number f views) ≡ with_bare_at number g (map bare_view views)
  bare_with [] = refl
  bare_with (view ∷ views) =
      ap (λ (v : BareView). v ∷ map bare_view (with_view_at number f views))
      (bare_by (eqb view.number number) view)
      ∙ ap (λ (vs : List BareView).
      cond (eqb view.number number) (g (bare_view view)) (bare_view view) ∷ vs) (bare_with views)

-- ---- a group

pub bare_grown : (number : ℕ) (group : List ℕ) (program_files : List ListedFile)
    (views : List View)
    → map bare_view (with_view_at number (with_group group program_files) views)
    ≡ with_bare_at number (with_bare_group group) (map bare_view views)
bare_grown number group program_files views =
    bare_with number (with_group group program_files) (with_bare_group group) (λ view. refl) views

-- ---- a data file

module _ (file : DataFile) where
  bare_named_at : (o : Ordering) (other : DataFile) (others rest : List DataFile)
      (bares : List BareData) → map bare_data rest ≡ bares
      → map bare_data (with_named_at o file other others rest)
      ≡ with_named_at o (bare_data file) (bare_data other) (map bare_data others) bares
  bare_named_at Less other others rest bares is =
      ap (λ (ds : List BareData). bare_data other ∷ ds) is
  bare_named_at Equal other others rest bares is = refl
  bare_named_at Greater other others rest bares is = refl

  bare_named : (files : List DataFile)
      → map bare_data (with_named data_name file files)
      ≡ with_named bare_name (bare_data file) (map bare_data files)
  bare_named [] = refl
  bare_named (other ∷ others) =
      bare_named_at (text_cmp other.name file.name) other others (with_named data_name file others)
      (with_named bare_name (bare_data file) (map bare_data others)) (bare_named others)

  pub bare_put : (number : ℕ) (views : List View)
      → map bare_view (with_view_at number (with_data file) views)
      ≡ with_bare_at number (with_bare_data (bare_data file)) (map bare_view views)
  bare_put number views =
      bare_with number (with_data file) (with_bare_data (bare_data file))
      (λ view. ap (λ (ds : List BareData). record (bare_view view) { data_files = ds })
      (bare_named view.data_files)) views
