-- The weight of applications of which one is changed.
use Rattle.std.proofs.Common.{◌≡◌, List, [], ◌∷◌, Option, Some, arith}
use Rattle.std.specs.Prelude.{sum_by}
use Rattle.std.specs.declared.cmp.Ordering.{Ordering}
use Rattle.std.specs.declared.cmp.Ordering.TheVariants.{Less, Equal, Greater}
use Rattle.std.proofs.lemmas.List.Sums.{sum_by-cons}
use Rattle.small_types.specs.declared.room.Room.{Room}
use Rattle.identity.specs.declared.key.Key.{Key}
use Rattle.machine.specs.declared.app.AppState.{AppState}
use Rattle.machine.specs.Entries.{entry_at, entry_of, fresh, key_cmp, with_entry, with_entry_at}
use Rattle.machine.specs.Shape.{BareView}
use Rattle.machine.specs.Weight.{IsLight, app_weight, weight_of}
use Rattle.machine.proofs.Lightness.{lighter}

-- f leaves what weighs of an application
abbrev pub KeepsWeight : (AppState → AppState) → Type 0
KeepsWeight f = (app : AppState) → app_weight (f app) ≡ app_weight app

-- applications of one weight
pub same_apps : (views : List BareView) (a b : List AppState)
    → sum_by app_weight a ≡ sum_by app_weight b → weight_of views a ≡ weight_of views b
unfolding weight_of
same_apps views a b same = omega (arith, same)

module _ (key : Key) where
  -- ---- a known application

  module _ (f : AppState → AppState) (keeps : KeepsWeight f) where
    known_at : (o : Ordering) (app : AppState) (apps rest : List AppState)
        (others : Option AppState) (known : AppState)
        → (others ≡ Some known → sum_by app_weight rest ≡ sum_by app_weight apps)
        → entry_at o app others ≡ Some known
        → sum_by app_weight (with_entry_at o key f app apps rest) ≡ sum_by app_weight (app ∷ apps)
    known_at Less app apps rest others known same is =
        let behind = same is in
        omega (arith, behind, sum_by-cons app_weight app rest, sum_by-cons app_weight app apps)
    known_at Equal app apps rest others known same is =
        omega (
          arith,
          keeps app,
          sum_by-cons app_weight (f app) apps,
          sum_by-cons app_weight app apps,
        )
    known_at Greater app apps rest others known same is = absurd cc

    known_sum : (apps : List AppState) (known : AppState) → entry_of key apps ≡ Some known
        → sum_by app_weight (with_entry key f apps) ≡ sum_by app_weight apps
    known_sum [] known is = absurd cc
    known_sum (app ∷ apps) known is =
        known_at (key_cmp app.key key) app apps (with_entry key f apps) (entry_of key apps) known
        (known_sum apps known) is

    pub known_light : (room : Room) (views : List BareView) (apps : List AppState)
        (known : AppState) → entry_of key apps ≡ Some known → IsLight room (weight_of views apps)
        → IsLight room (weight_of views (with_entry key f apps))
    known_light room views apps known is light =
        let same = same_apps views (with_entry key f apps) apps (known_sum apps known is) in
        lighter room (weight_of views (with_entry key f apps)) (weight_of views apps)
        (omega (arith, same)) light

  -- ---- two changes that leave one weight

  module _ (f g : AppState → AppState)
      (alike : (app : AppState) → app_weight (f app) ≡ app_weight (g app)) where
    alike_at : (o : Ordering) (app : AppState) (apps xs ys : List AppState)
        → sum_by app_weight xs ≡ sum_by app_weight ys
        → sum_by app_weight (with_entry_at o key f app apps xs)
        ≡ sum_by app_weight (with_entry_at o key g app apps ys)
    alike_at Less app apps xs ys same =
        omega (arith, same, sum_by-cons app_weight app xs, sum_by-cons app_weight app ys)
    alike_at Equal app apps xs ys same =
        omega (
          arith,
          alike app,
          sum_by-cons app_weight (f app) apps,
          sum_by-cons app_weight (g app) apps,
        )
    alike_at Greater app apps xs ys same =
        omega (
          arith,
          alike (fresh key),
          sum_by-cons app_weight (f (fresh key)) (app ∷ apps),
          sum_by-cons app_weight (g (fresh key)) (app ∷ apps),
        )

    pub alike_sum : (apps : List AppState)
        → sum_by app_weight (with_entry key f apps) ≡ sum_by app_weight (with_entry key g apps)
    alike_sum [] =
        omega (
          arith,
          alike (fresh key),
          sum_by-cons app_weight (f (fresh key)) [],
          sum_by-cons app_weight (g (fresh key)) [],
        )
    alike_sum (app ∷ apps) =
        alike_at (key_cmp app.key key) app apps (with_entry key f apps) (with_entry key g apps)
        (alike_sum apps)
