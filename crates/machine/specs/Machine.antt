-- The machine: what an event may answer, and what it leaves.
use Rattle.std.specs.Prelude.{◌≡◌, ℕ, List, [], ◌∷◌, Option, Some, None, unwrap_or}
use Rattle.machine.specs.declared.command.Command.{Command}
use Rattle.machine.specs.declared.command.Command.TheVariants.{At, Require, Install, Check, Skip, Rollback, Launch, Read, Local, Put, Remove, Group, Finish, Clean, Show}
use Rattle.machine.specs.declared.command.Command.TheVariants as asks
use Rattle.machine.specs.declared.event.Event.{Event}
use Rattle.machine.specs.declared.event.Event.TheVariants.{Boot, Line, Unread}
use Rattle.machine.specs.declared.event.Heard.{Heard}
use Rattle.machine.specs.declared.reply.Reply.{Reply}
use Rattle.machine.specs.declared.reply.Reply.TheVariants as says
use Rattle.machine.specs.AtRow.{at_refusals, at_effect}
use Rattle.machine.specs.RequireRow.{require_refusals, require_effect}
use Rattle.machine.specs.InstallRow.{HearsRelease, InstallEffect, install_refusals}
use Rattle.machine.specs.CheckRow.{CheckEffect, HearsOffer, check_refusals}
use Rattle.machine.specs.SkipRow.{SkipEffect, skip_refusals}
use Rattle.machine.specs.RollbackRow.{RollbackEffect, rollback_refusals}
use Rattle.machine.specs.LaunchRow.{LaunchEffect, launch_refusals}
use Rattle.machine.specs.ReadRow.{ReadEffect, read_refusals}
use Rattle.machine.specs.LocalRow.{LocalEffect, local_refusals}
use Rattle.machine.specs.PutRow.{PutEffect, put_refusals}
use Rattle.machine.specs.RemoveRow.{RemoveEffect, remove_refusals}
use Rattle.machine.specs.GroupRow.{GroupEffect, group_refusals}
use Rattle.machine.specs.FinishRow.{finish_effect, finish_refusals}
use Rattle.machine.specs.CleanRow.{clean_effect, clean_refusals}
use Rattle.machine.specs.ListRow.{list_effect, list_refusals}
use Rattle.machine.specs.ShowRow.{ShowEffect, show_refusals}
use Rattle.machine.specs.Rows.{Refusal, maybe, FirstOf}
use Rattle.machine.specs.Shape.{Shape, shape_of}
use Rattle.machine.specs.Store.{Session, booted}

-- ---- commands

-- the manifest texts that a command may hear: an install and a check hear some, any other none
abbrev pub Hears : Shape → Command → List (List ℕ) → Type 0
Hears shape (Install url) heard = HearsRelease url shape heard
Hears shape (Check key) heard = HearsOffer key shape heard
Hears shape _ heard = heard ≡ []

-- the refusals of a command at a moment, in their order, by what it heard and by the shape of the
-- session
abbrev pub refusals : ℕ → List (List ℕ) → Shape → Command → List (Refusal Reply Session)
refusals now heard shape (At next) = at_refusals
refusals now heard shape (Require key version) = require_refusals key version shape
refusals now heard shape (Install url) = install_refusals url heard shape
refusals now heard shape (Check key) = check_refusals key heard shape
refusals now heard shape (Skip key) = skip_refusals key now shape
refusals now heard shape (Rollback key) = rollback_refusals key shape
refusals now heard shape (Launch key) = launch_refusals key now shape
refusals now heard shape (Read lease name from count) = read_refusals lease name shape
refusals now heard shape (Local lease name from count) = local_refusals lease name shape
refusals now heard shape (Put lease name bytes) = put_refusals lease name bytes shape
refusals now heard shape (Remove lease name) = remove_refusals lease name shape
refusals now heard shape (Group lease group) = group_refusals lease group shape
refusals now heard shape (Finish lease) = finish_refusals lease shape
refusals now heard shape Clean = clean_refusals
refusals now heard shape asks.List = list_refusals
refusals now heard shape (Show key) = show_refusals key shape

-- its effect where none of them holds
abbrev pub effect : ℕ → List (List ℕ) → Command → Session → Reply → Session → Type 0
effect now heard (At next) = at_effect next
effect now heard (Require key version) = require_effect key version
effect now heard (Install url) = InstallEffect url heard now
effect now heard (Check key) = CheckEffect key heard now
effect now heard (Skip key) = SkipEffect key
effect now heard (Rollback key) = RollbackEffect key
effect now heard (Launch key) = LaunchEffect key now
effect now heard (Read lease name from count) = ReadEffect lease name from count
effect now heard (Local lease name from count) = LocalEffect lease name from count
effect now heard (Put lease name bytes) = PutEffect lease name bytes
effect now heard (Remove lease name) = RemoveEffect lease name
effect now heard (Group lease group) = GroupEffect lease group
effect now heard (Finish lease) = finish_effect lease
effect now heard Clean = clean_effect
effect now heard asks.List = list_effect
effect now heard (Show key) = ShowEffect key

-- Any command may find no memory, which changes nothing. Else the first refusal that holds is the
-- reply, and where none holds the effect is that of the row.
abbrev pub Answers : ℕ → List (List ℕ) → Session → Command → Reply → Session → Type 0
Answers now heard old command reply new =
    FirstOf (maybe says.Memory ∷ refusals now heard (shape_of old) command)
    (effect now heard command) old reply new

-- ---- events

-- a line is run at the session's moment, hears what its command may hear, and is answered
pub record IsLineStep (now : ℕ) (old : Session) (command : Command) (at : ℕ) (heard : Heard)
    (reply : Option Reply) (new : Session) : Type 0 where
  pub moment : at ≡ now
  pub hears : Hears (shape_of old) command heard.texts
  pub answer : Reply
  pub replied : reply ≡ Some answer
  pub answers : Answers now heard.texts old command answer new

-- from old, the event may give this reply at this moment and lead to new
abbrev pub Step : ℕ → Session → Event → Option Reply → Session → Type 0
-- a boot has no reply
Step now old (Boot boot) reply new =
    (reply ≡ None) × (new ≡ record old { store = booted boot old.store })
Step now old (Line command at heard) reply new = IsLineStep now old command at heard reply new
-- a line that is no command is answered with its fault, and changes nothing
Step now old (Unread fault) reply new = (reply ≡ Some (says.Line fault)) × (new ≡ old)

-- the moment that a reply sets: that of an answered `at`
abbrev pub moment_set : Option Reply → Option ℕ
moment_set (Some (says.At next)) = Some next
moment_set _ = None

-- the moment of the next line
abbrev pub moment_after : ℕ → Option Reply → ℕ
moment_after now reply = unwrap_or (moment_set reply) now

-- one step after another, from a moment on
abbrev pub Run : ℕ → Session → List Event → List (Option Reply) → Session → Type 0
Run now old [] [] new = new ≡ old
Run now old [] (reply ∷ replies) new = ⊥
Run now old (event ∷ events) [] new = ⊥
Run now old (event ∷ events) (reply ∷ replies) new =
    (mid : Session) × Step now old event reply mid
    × Run (moment_after now reply) mid events replies new
