-- What a command asks of its links.
use Rattle.std.specs.Prelude.{◌≡◌, ◌⊎◌, ℕ, true, List, [], ◌∷◌, map, Some, None, Ok}
use Rattle.small_types.specs.declared.target.Target.{Target}
use Rattle.addresses.specs.Address.{target_of_text}
use Rattle.addresses.specs.Join.{file_target_of}
use Rattle.identity.specs.declared.key.Key.{Key}
use Rattle.machine.specs.CheckRow.{provider_of}
use Rattle.machine.specs.Current.{current_of}
use Rattle.machine.specs.GroupRow.{OfComing, room_refusals}
use Rattle.machine.specs.Groups.{group_stands, group_wanted}
use Rattle.machine.specs.InstallRow.{OfDeployment, OfRelease, address_refusals, base_of, deployment_refusals, release_refusals}
use Rattle.machine.specs.Leases.{leased_bare}
use Rattle.machine.specs.Rows.{PassesAll}
use Rattle.machine.specs.Shape.{BareView, Shape}
use Rattle.machine.specs.Wanted.{wanted}

-- ---- an install

module _ (url : List ℕ) (heard : List (List ℕ)) (shape : Shape) where
  -- the wanted files, where the release is not refused
  abbrev pub AsksFiles : List Target → Type 0
  AsksFiles asked =
      ((PassesAll (release_refusals url heard shape) → ⊥) × (asked ≡ []))
      ⊎ (PassesAll (release_refusals url heard shape)
      × OfRelease heard (λ d a. (base : Target) × (base_of url d ≡ Ok base)
      × (map (λ entry. file_target_of base d.mapped entry.name) (wanted shape.views a)
      ≡ map Ok asked)))

  -- the application manifest and what follows, where the deployment is not refused
  abbrev pub AsksApplication : List Target → Type 0
  AsksApplication asked =
      ((PassesAll (deployment_refusals url heard shape) → ⊥) × (asked ≡ []))
      ⊎ (PassesAll (deployment_refusals url heard shape)
      × ((base : Target) × (rest : List Target) × (asked ≡ base ∷ rest)
      × OfDeployment heard (λ d. base_of url d ≡ Ok base) × AsksFiles rest))

  -- the given address and what follows, where it is one
  abbrev pub AsksInstall : List Target → Type 0
  AsksInstall asked =
      ((PassesAll (address_refusals url) → ⊥) × (asked ≡ []))
      ⊎ ((target : Target) × (rest : List Target) × (asked ≡ target ∷ rest)
      × (target_of_text url ≡ Ok target) × AsksApplication rest)

-- ---- a check

-- the provider, where a view is current
abbrev pub AsksCheck : Key → Shape → List Target → Type 0
AsksCheck key shape asked =
    ((current_of key shape.apps ≡ None) × (asked ≡ []))
    ⊎ ((target : Target) × (current_of key shape.apps ≡ None → ⊥)
    × (provider_of key shape.apps ≡ Some target) × (asked ≡ target ∷ []))

-- ---- a group

-- the leased view has it already
abbrev pub HasGroup : ℕ → List ℕ → Shape → Type 0
HasGroup lease group shape =
    (view : BareView) × (leased_bare lease shape ≡ Some view)
    × (group_stands group view.groups ≡ true)

-- the wanted files of one that does not stand, where it is not refused
abbrev pub AsksGroup : ℕ → List ℕ → Shape → List Target → Type 0
AsksGroup lease group shape asked =
    ((PassesAll (room_refusals lease group shape) → ⊥) × (asked ≡ []))
    ⊎ (HasGroup lease group shape × (asked ≡ []))
    ⊎ (PassesAll (room_refusals lease group shape)
    × OfComing lease group shape (λ view.
    map (λ entry. file_target_of view.base view.deployment.mapped entry.name)
    (group_wanted shape.views group view.application) ≡ map Ok asked))
