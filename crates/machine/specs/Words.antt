-- Events as a session makes them: their words keep their forms.
use Rattle.std.specs.Prelude.{◌≤◌, ℕ, List, All, length}
use Rattle.small_types.specs.declared.limits.TheConstants.{NAME_LIMIT, NUMBER_LIMIT, PIECE_LIMIT, URL_LIMIT}
use Rattle.small_types.specs.Name.{IsName}
use Rattle.identity.specs.Key.{IsKey}
use Rattle.identity.specs.Version.{IsVersion}
use Rattle.machine.specs.declared.command.Command.{Command}
use Rattle.machine.specs.declared.command.Command.TheVariants.{At, Require, Install, Check, Skip, Rollback, Launch, Read, Local, Put, Remove, Group, Finish, Clean, Show}
use Rattle.machine.specs.declared.command.Command.TheVariants as asks
use Rattle.machine.specs.declared.event.Event.{Event}
use Rattle.machine.specs.declared.event.Event.TheVariants.{Boot, Line, Unread}
use Rattle.machine.specs.Fields.{IsShort}

-- an address as a line gives it: 1 to 2,048 bytes, each from 33 to 126
pub record IsUrl (url : List ℕ) : Type 0 where
  pub some : 1 ≤ length url
  pub few : length url ≤ URL_LIMIT
  pub visible : All (λ (b : ℕ). (33 ≤ b) × (b ≤ 126)) url

-- a group as a line gives it: UTF-8 of 1 to 240 bytes
pub record IsGroup (group : List ℕ) : Type 0 where
  pub some : 1 ≤ length group
  pub short : IsShort NAME_LIMIT group

-- the words of a command have their forms
abbrev pub IsCommand : Command → Type 0
IsCommand (At now) = now ≤ NUMBER_LIMIT
IsCommand (Require key version) = IsKey key × IsVersion version
IsCommand (Install url) = IsUrl url
IsCommand (Check key) = IsKey key
IsCommand (Skip key) = IsKey key
IsCommand (Rollback key) = IsKey key
IsCommand (Launch key) = IsKey key
IsCommand (Read lease name from count) =
    (lease ≤ NUMBER_LIMIT) × IsName name × (from ≤ NUMBER_LIMIT) × (count ≤ PIECE_LIMIT)
IsCommand (Local lease name from count) =
    (lease ≤ NUMBER_LIMIT) × IsName name × (from ≤ NUMBER_LIMIT) × (count ≤ PIECE_LIMIT)
IsCommand (Put lease name bytes) =
    (lease ≤ NUMBER_LIMIT) × IsName name × (length bytes ≤ PIECE_LIMIT)
IsCommand (Remove lease name) = (lease ≤ NUMBER_LIMIT) × IsName name
IsCommand (Group lease group) = (lease ≤ NUMBER_LIMIT) × IsGroup group
IsCommand (Finish lease) = lease ≤ NUMBER_LIMIT
IsCommand Clean = Unit {0}
IsCommand asks.List = Unit {0}
IsCommand (Show key) = IsKey key

-- numbers are at most 2 ^ 62, and the words of a command have their forms
abbrev pub IsEvent : Event → Type 0
IsEvent (Boot boot) = boot ≤ NUMBER_LIMIT
IsEvent (Line command now heard) = IsCommand command × (now ≤ NUMBER_LIMIT)
IsEvent (Unread fault) = Unit {0}
