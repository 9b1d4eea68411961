-- The views that numbers stand for, in a store and in its shape, and their versions.
use Rattle.std.proofs.Common.{◌≡◌, ◌∙◌, refl, sym, ap, ℕ, Option, Some, None}
use Rattle.std.specs.Prelude.{option_and_then, option_map}
use Rattle.identity.specs.declared.version.Version.{Version}
use Rattle.machine.specs.Current.{view_at}
use Rattle.machine.specs.Previous.{numbered_bare, numbered_version}
use Rattle.machine.specs.Shape.{BareView, bare_view, shape_of}
use Rattle.machine.specs.Store.{Store, session_over}
use Rattle.machine.specs.Views.{View, version_of}
use Rattle.machine.proofs.BroughtFiles.{bare_then}
use Rattle.machine.proofs.FirstFound.{map_value, then_value}
use Rattle.machine.proofs.Leased.{view_in}
use Rattle.machine.proofs.Members.{In}

module _ (store : Store) where
  -- the view of that number, where there is one
  abbrev pub numbered_view : Option ℕ → Option View
  numbered_view number = option_and_then (λ (n : ℕ). view_at n store.views) number

  pub bare_numbered : (number : Option ℕ)
      → numbered_bare number (shape_of (session_over store))
      ≡ option_map bare_view (option_and_then (λ (n : ℕ). view_at n store.views) number)
  bare_numbered number = bare_then number store.views

  versions : (o : Option View)
      → option_map (λ (v : BareView). v.deployment.identity.version) (option_map bare_view o)
      ≡ option_map version_of o
  versions None = refl
  versions (Some view) = refl

  pub version_numbered : (number : Option ℕ)
      → numbered_version number (shape_of (session_over store))
      ≡ option_map version_of (option_and_then (λ (n : ℕ). view_at n store.views) number)
  version_numbered number =
      ap (option_map (λ (v : BareView). v.deployment.identity.version)) (bare_numbered number)
      ∙ versions (numbered_view number)

  -- the view that has the version
  pub version_by : (number : Option ℕ) (version : Version)
      → numbered_version number (shape_of (session_over store)) ≡ Some version
      → (view : View) × (option_and_then (λ (n : ℕ). view_at n store.views) number ≡ Some view)
      × (version_of view ≡ version)
  version_by number version is =
      map_value version_of (numbered_view number) version (sym (version_numbered number) ∙ is)

  -- it is one of those that are kept, and of this number
  pub numbered_in : (number : Option ℕ) (view : View)
      → option_and_then (λ (n : ℕ). view_at n store.views) number ≡ Some view
      → In view store.views × (number ≡ Some view.number)
  numbered_in number view is =
      let by = then_value (λ (n : ℕ). view_at n store.views) number view is in
      let known = view_in by.0 store.views view by.2 in
      (known.0, by.1 ∙ ap Some (sym known.1))
