-- put L NAME HEX: the data file of the leased view has these bytes.
use Rattle.std.specs.Prelude.{◌≡◌, ◌⊎◌, ◌<◌, ◌≤◌, ℕ, List, [], ◌∷◌, ◌++◌, count_by, length, not, Some, None}
use Rattle.small_types.specs.declared.limit.Limit.TheVariants.{Locals}
use Rattle.small_types.specs.declared.limits.TheConstants.{LOCAL_COUNT_LIMIT, LOCAL_NAME_LIMIT}
use Rattle.small_types.specs.Name.{IsBelowPre}
use Rattle.manifests.specs.Applications.{is_below_pre}
use Rattle.machine.specs.declared.reply.Reply.{Reply}
use Rattle.machine.specs.declared.reply.Reply.TheVariants as says
use Rattle.machine.specs.BareViews.{with_bare_at, with_bare_data}
use Rattle.machine.specs.Blocks.{blocks_of, free_blocks}
use Rattle.machine.specs.DataFiles.{bare_data_named, put_in}
use Rattle.machine.specs.Leases.{lease_of, leased_bare, leased_view}
use Rattle.machine.specs.Rows.{Refusal, exactly, exactly_with}
use Rattle.machine.specs.Shape.{BareData, BareView, Shape}
use Rattle.machine.specs.Store.{Session}
use Rattle.machine.specs.Views.{View}
use Rattle.machine.specs.Weight.{IsTooHeavy, table_room, told_weight, weight_of}

-- ---- conditions

-- no data file can be put under the name: it is below `.pre` or too long
abbrev pub IsBadName : List ℕ → Type 0
IsBadName name = IsBelowPre name ⊎ (LOCAL_NAME_LIMIT < length name)

-- how many of the data files are outside `.pre`
abbrev pub outside_count : List BareData → ℕ
outside_count files = count_by (λ file. not (is_below_pre file.name)) files

-- the leased view has no data file of the name, and as many outside `.pre` as may be
abbrev pub IsOneTooMany : ℕ → List ℕ → Shape → Type 0
IsOneTooMany lease name shape =
    (view : BareView) × (leased_bare lease shape ≡ Some view)
    × (bare_data_named name view.data_files ≡ None)
    × (LOCAL_COUNT_LIMIT ≤ outside_count view.data_files)

-- what the tables weigh once the view of the number has the data file
abbrev pub weight_put : ℕ → BareData → Shape → ℕ
weight_put number file shape =
    weight_of (with_bare_at number (with_bare_data file) shape.views) shape.apps

-- ---- refusals

-- No lease has the number; the name is a bad one; it is a new one too many; or there are not as
-- many blocks. The new bytes have their blocks beside those of the old ones.
abbrev pub place_refusals : ℕ → List ℕ → List ℕ → Shape → List (Refusal Reply Session)
place_refusals lease name bytes shape =
    exactly (lease_of lease shape.leases ≡ None) says.NoLease
    ∷ exactly (IsBadName name) says.BadName
    ∷ exactly (IsOneTooMany lease name shape) (says.TooMany Locals LOCAL_COUNT_LIMIT)
    ∷ exactly_with
    (λ need. (need ≡ blocks_of (length bytes)) × (free_blocks shape < need))
    (λ need. says.Full need (free_blocks shape))
    ∷ []

-- the tables would have no room
abbrev pub weight_refusals : ℕ → List ℕ → List ℕ → Shape → List (Refusal Reply Session)
weight_refusals lease name bytes shape =
    exactly_with
    (λ weight. (view : BareView) × (leased_bare lease shape ≡ Some view)
    × (weight ≡ weight_put view.number (record { name = name; length = length bytes }) shape)
    × IsTooHeavy shape.room weight)
    (λ weight. says.TableFull (told_weight weight) (table_room shape.room))
    ∷ []

-- the data file may not be put
abbrev pub put_refusals : ℕ → List ℕ → List ℕ → Shape → List (Refusal Reply Session)
put_refusals lease name bytes shape =
    place_refusals lease name bytes shape ++ weight_refusals lease name bytes shape

-- ---- the effect

pub record PutEffect (lease : ℕ) (name bytes : List ℕ) (old : Session) (reply : Reply)
    (new : Session)
    : Type 0 where
  pub view : View
  pub leased : leased_view lease old.store ≡ Some view
  pub replied : reply ≡ says.Put
  pub is : new ≡ record old {
    store = put_in view.number (record { name = name; bytes = bytes }) old.store;
  }
