-- Views without the bytes of their files, of which one is changed.
use Rattle.std.proofs.Common.{◌≡◌, ◌∙◌, refl, sym, ap, ℕ, Bool, true, false, cond, eqb, List, [], ◌∷◌, map}
use Rattle.machine.specs.BareViews.{with_bare_at, with_bare_data, with_bare_group}
use Rattle.machine.specs.DataFiles.{bare_name}
use Rattle.machine.specs.Shape.{BareData, BareView}
use Rattle.store_state.specs.declared.view.LocalFile.{LocalFile}
use Rattle.store_state.specs.declared.view.View.{View}
use Rattle.store_state.specs.Change.{grown}
use Rattle.store_state.specs.Locals.{with_local}
use Rattle.store_state.specs.Rows.{with_row}
use Rattle.store_state.specs.Tables.{bare_local, bare_row}
use Rattle.store_state.proofs.PutItems.{named_shown}

-- where f is g without the bytes
module _ (number : ℕ) (f : View → View) (g : BareView → BareView)
    (same : (view : View) → bare_row (f view) ≡ g (bare_row view)) where
  bare_by : (b : Bool) (view : View)
      → bare_row (cond b (f view) view) ≡ cond b (g (bare_row view)) (bare_row view)
  bare_by true view = same view
  bare_by false view = refl

  bare_with : (views : List View)
      → map bare_row (with_row number f views) ≡ with_bare_at number g (map bare_row views)
  bare_with [] = refl
  bare_with (view ∷ views) =
      ap (λ (v : BareView). v ∷ map bare_row (with_row number f views))
      (bare_by (eqb view.number number) view)
      ∙ ap (λ (vs : List BareView).
      cond (eqb view.number number) (g (bare_row view)) (bare_row view) ∷ vs) (bare_with views)

-- a group
pub bare_grown : (number : ℕ) (group : List ℕ) (views : List View)
    → map bare_row (with_row number (grown group) views)
    ≡ with_bare_at number (with_bare_group group) (map bare_row views)
bare_grown number group views =
    bare_with number (grown group) (with_bare_group group) (λ view. refl) views

-- a data file
pub bare_put : (number : ℕ) (file : LocalFile) (views : List View)
    → map bare_row (with_row number (with_local file) views)
    ≡ with_bare_at number (with_bare_data (bare_local file)) (map bare_row views)
bare_put number file views =
    bare_with number (with_local file) (with_bare_data (bare_local file))
    (λ view. ap (λ (ds : List BareData). record (bare_row view) { data_files = ds })
    (sym (named_shown bare_name bare_local file view.locals))) views
