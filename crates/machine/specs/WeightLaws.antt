-- The weight that a refusal compares is that of the tables of the store that the command would
-- leave.
use Rattle.std.specs.Prelude.{◌≡◌, ℕ, false, List, length, Some}
use Rattle.identity.specs.declared.key.Key.{Key}
use Rattle.identity.specs.declared.version.Version.{Version}
use Rattle.machine.specs.declared.reply.Reply.{Reply}
use Rattle.machine.specs.GroupRow.{GroupEffect, weight_grown}
use Rattle.machine.specs.Groups.{group_stands}
use Rattle.machine.specs.InstallLaws.{IsInstall}
use Rattle.machine.specs.InstallRow.{IsWeightOf, OfRelease}
use Rattle.machine.specs.Leases.{leased_bare}
use Rattle.machine.specs.PutRow.{PutEffect, weight_put}
use Rattle.machine.specs.RequireRow.{require_effect, required}
use Rattle.machine.specs.Shape.{BareView, shape_of}
use Rattle.machine.specs.Store.{Session}
use Rattle.machine.specs.Valid.{Valid}
use Rattle.machine.specs.Weight.{weight_of}

-- what the tables of a session's store weigh
abbrev pub session_weight : Session → ℕ
session_weight session = weight_of (shape_of session).views (shape_of session).apps

abbrev pub RequiresWeigh : Type 0
RequiresWeigh = (key : Key) (version : Version) (old : Session) (reply : Reply) (new : Session)
    → require_effect key version old reply new
    → session_weight new
    ≡ weight_of (shape_of old).views (required key version (shape_of old).apps)

abbrev pub PutsWeigh : Type 0
PutsWeigh = (lease : ℕ) (name bytes : List ℕ) (old : Session) (reply : Reply) (new : Session)
    (view : BareView) → leased_bare lease (shape_of old) ≡ Some view
    → PutEffect lease name bytes old reply new
    → session_weight new
    ≡ weight_put view.number (record { name = name; length = length bytes }) (shape_of old)

abbrev pub GroupsWeigh : Type 0
GroupsWeigh = (lease : ℕ) (group : List ℕ) (old : Session) (reply : Reply) (new : Session)
    (view : BareView) → leased_bare lease (shape_of old) ≡ Some view
    → group_stands group view.groups ≡ false → GroupEffect lease group old reply new
    → session_weight new ≡ weight_grown view.number group (shape_of old)

abbrev pub InstallsWeigh : Type 0
InstallsWeigh = (url : List ℕ) (heard : List (List ℕ)) (now : ℕ) (old : Session)
    (reply : Reply) (new : Session) → IsInstall url heard now old reply new → Valid old.store
    → OfRelease heard (λ d a. IsWeightOf url (shape_of old) d a (session_weight new))
