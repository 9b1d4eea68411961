-- require KEY V: the application's minimum is the greater of what it was and the version.
use Rattle.std.specs.Prelude.{◌≡◌, ◌≤◌, List, [], ◌∷◌, length, None}
use Rattle.small_types.specs.declared.limit.Limit.TheVariants.{Applications}
use Rattle.small_types.specs.declared.limits.TheConstants.{APPLICATION_LIMIT}
use Rattle.identity.specs.declared.key.Key.{Key}
use Rattle.identity.specs.declared.version.Version.{Version}
use Rattle.machine.specs.declared.app.AppState.{AppState}
use Rattle.machine.specs.declared.reply.Reply.{Reply}
use Rattle.machine.specs.declared.reply.Reply.TheVariants as says
use Rattle.machine.specs.Entries.{entry_of, with_entry}
use Rattle.machine.specs.Minimums.{minimum_of, raised, raised_app}
use Rattle.machine.specs.Rows.{Refusal, exactly, exactly_with}
use Rattle.machine.specs.Shape.{Shape}
use Rattle.machine.specs.Store.{Session}
use Rattle.machine.specs.Weight.{IsTooHeavy, table_room, told_weight, weight_of}

-- an unknown key has an entry from then on
abbrev pub required : Key → Version → List AppState → List AppState
required key version apps = with_entry key (raised_app version) apps

-- refused where the key is new, and there are as many applications as may be, or the tables would
-- have no room
abbrev pub require_refusals : Key → Version → Shape → List (Refusal Reply Session)
require_refusals key version shape =
    exactly ((entry_of key shape.apps ≡ None) × (APPLICATION_LIMIT ≤ length shape.apps))
    (says.TooMany Applications APPLICATION_LIMIT)
    ∷ exactly_with
    (λ weight. (entry_of key shape.apps ≡ None)
    × (weight ≡ weight_of shape.views (required key version shape.apps))
    × IsTooHeavy shape.room weight)
    (λ weight. says.TableFull (told_weight weight) (table_room shape.room))
    ∷ []

-- the reply shows the minimum that then holds
abbrev pub require_effect : Key → Version → Session → Reply → Session → Type 0
require_effect key version old reply new =
    (reply ≡ says.Minimum (raised (minimum_of key old.store.apps) version))
    × (new ≡ record old { store = record old.store { apps = required key version old.store.apps } })
