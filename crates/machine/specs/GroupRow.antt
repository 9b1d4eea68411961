-- group L GROUP: the files of the group stand in the leased view.
use Rattle.std.specs.Prelude.{◌≡◌, ◌⊎◌, ◌<◌, ℕ, true, false, List, [], ◌∷◌, ◌++◌, Any, length, Some, None, Result, Ok, Err}
use Rattle.small_types.specs.declared.target.Target.{Target}
use Rattle.addresses.specs.declared.fault.UrlFault.{UrlFault}
use Rattle.addresses.specs.declared.fault.UrlFault.TheVariants.{BadUrl}
use Rattle.addresses.specs.Join.{file_target_of}
use Rattle.machine.specs.declared.reply.Reply.{Reply}
use Rattle.machine.specs.declared.reply.Reply.TheVariants as says
use Rattle.machine.specs.BareViews.{with_bare_at, with_bare_group}
use Rattle.machine.specs.Blocks.{free_blocks}
use Rattle.machine.specs.Grouped.{Grouped}
use Rattle.machine.specs.Groups.{group_files, group_need, group_stands, group_wanted}
use Rattle.machine.specs.Leases.{lease_of, leased_bare, leased_view}
use Rattle.machine.specs.Rows.{Refusal, exactly, exactly_with}
use Rattle.machine.specs.Shape.{BareView, Shape}
use Rattle.machine.specs.Store.{Session, Store}
use Rattle.machine.specs.Unheard.{may_be_unheard}
use Rattle.machine.specs.Views.{View}
use Rattle.machine.specs.Weight.{IsTooHeavy, table_room, told_weight, weight_of}

-- ---- conditions

-- no program file of the leased view's release has the group
abbrev pub LacksGroup : ℕ → List ℕ → Shape → Type 0
LacksGroup lease group shape =
    (view : BareView) × (leased_bare lease shape ≡ Some view)
    × (group_files group view.application ≡ [])

-- it holds of the leased view, in which the group does not stand
abbrev pub OfComing : ℕ → List ℕ → Shape → (BareView → Type 0) → Type 0
OfComing lease group shape holds =
    (view : BareView) × (leased_bare lease shape ≡ Some view)
    × (group_stands group view.groups ≡ false) × holds view

-- the address of a wanted file is so
abbrev pub OfMissing : ℕ → List ℕ → Shape → (Result Target UrlFault → Type 0) → Type 0
OfMissing lease group shape holds =
    OfComing lease group shape (λ view.
    Any (λ entry. holds (file_target_of view.base view.deployment.mapped entry.name))
    (group_wanted shape.views group view.application))

-- what the tables weigh once the group stands in the view of the number
abbrev pub weight_grown : ℕ → List ℕ → Shape → ℕ
weight_grown number group shape =
    weight_of (with_bare_at number (with_bare_group group) shape.views) shape.apps

-- ---- refusals

-- No lease has the number, or no file the group. Where the group does not stand yet: a wanted file
-- has no address, or there are not as many blocks.
abbrev pub place_refusals : ℕ → List ℕ → Shape → List (Refusal Reply Session)
place_refusals lease group shape =
    exactly (lease_of lease shape.leases ≡ None) says.NoLease
    ∷ exactly (LacksGroup lease group shape) says.NoGroup
    ∷ exactly (OfMissing lease group shape (λ target. target ≡ Err BadUrl)) says.BadUrl
    ∷ exactly_with
    (λ need. OfComing lease group shape (λ view.
    (need ≡ group_need shape.views group view.application) × (free_blocks shape < need)))
    (λ need. says.Full need (free_blocks shape))
    ∷ []

-- the tables would have no room for a group that does not stand yet
abbrev pub weight_refusals : ℕ → List ℕ → Shape → List (Refusal Reply Session)
weight_refusals lease group shape =
    exactly_with
    (λ weight. OfComing lease group shape (λ view.
    (weight ≡ weight_grown view.number group shape) × IsTooHeavy shape.room weight))
    (λ weight. says.TableFull (told_weight weight) (table_room shape.room))
    ∷ []

-- there is no room for the group
abbrev pub room_refusals : ℕ → List ℕ → Shape → List (Refusal Reply Session)
room_refusals lease group shape =
    place_refusals lease group shape ++ weight_refusals lease group shape

-- no link gives a wanted file, which is a free choice
abbrev pub missing_refusals : ℕ → List ℕ → Shape → List (Refusal Reply Session)
missing_refusals lease group shape =
    may_be_unheard (λ target. OfMissing lease group shape (λ read. read ≡ Ok target)) ∷ []

abbrev pub group_refusals : ℕ → List ℕ → Shape → List (Refusal Reply Session)
group_refusals lease group shape =
    room_refusals lease group shape ++ missing_refusals lease group shape

-- ---- the effect

-- a group that stands leaves the store as it was; any other one comes to stand
abbrev pub Comes : List ℕ → View → Store → Store → Type 0
Comes group view old new =
    ((group_stands group view.groups ≡ true) × (new ≡ old))
    ⊎ ((group_stands group view.groups ≡ false) × Grouped group view old new)

-- the reply shows the number of its files
pub record GroupEffect (lease : ℕ) (group : List ℕ) (old : Session) (reply : Reply) (new : Session)
    : Type 0 where
  pub view : View
  pub leased : leased_view lease old.store ≡ Some view
  pub replied : reply ≡ says.Group (length (group_files group view.application))
  pub store : Store
  pub comes : Comes group view old.store store
  pub is : new ≡ record old { store = store }
