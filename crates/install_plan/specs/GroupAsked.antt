-- What a group asked of its links, from the beginning of its line to the end.
use Rattle.std.specs.Prelude.{◌≡◌, ℕ, List, ◌∷◌, [], ◌++◌, All, Any, Some, Ok, map}
use Rattle.small_types.specs.declared.target.Target.{Target}
use Rattle.addresses.specs.Join.{file_target_of}
use Rattle.causes.specs.declared.cause.Cause.{Cause}
use Rattle.digest_list.specs.declared.digest.Digest.{Digest}
use Rattle.digest_list.specs.Matches.{Matches}
use Rattle.manifests.specs.declared.facts.FileEntry.{FileEntry}
use Rattle.machine.specs.declared.reply.Reply.{Reply}
use Rattle.machine.specs.declared.reply.Reply.TheVariants.{AllLinks, Memory}
use Rattle.machine.specs.Asked.{AsksGroup}
use Rattle.machine.specs.GroupRow.{OfComing}
use Rattle.machine.specs.Groups.{group_wanted}
use Rattle.machine.specs.Leases.{leased_view}
use Rattle.machine.specs.Shape.{BareView, Shape}
use Rattle.machine.specs.Store.{Store}
use Rattle.machine.specs.Views.{View}
use Rattle.links.specs.Links.{LinksState}
use Rattle.fetcher.specs.Causes.{IsFileCause}
use Rattle.fetcher.specs.Fetched.{KeptBut}
use Rattle.install_plan.specs.Brought.{IsFileFrom, IsHeldOrCame}
use Rattle.install_plan.specs.Given.{IsUngiven}
use Rattle.install_plan.specs.InstallHeard.{IsFront, IsListedFor, WereGiven}

-- ---- what was asked

-- No link gave one of the wanted files. Those before it were given, and nothing behind it was asked
-- for.
pub record LacksOfGroup (shape : Shape) (group : List ℕ) (before after : LinksState)
    (asked : List Target) (named : Target) (reasons : List Cause) (view : BareView) : Type 0 where
  pub earlier : List FileEntry
  pub entry : FileEntry
  pub later : List FileEntry
  pub wants : group_wanted shape.views group view.application ≡ earlier ++ entry ∷ later
  pub targets : List Target
  pub each : map (λ file. file_target_of view.base view.deployment.mapped file.name) earlier
      ≡ map Ok targets
  pub at : file_target_of view.base view.deployment.mapped entry.name ≡ Ok named
  pub order : asked ≡ targets ++ named ∷ []
  pub gave : WereGiven before after earlier targets
  pub ungiven : IsUngiven (IsFileCause entry.list entry.size named)
      (Matches entry.list entry.size) named before after after reasons

-- what was asked is what the group asks for, unless a file was not given or there was no memory
abbrev pub AccountsGroup :
    ℕ → List ℕ → Shape → LinksState → LinksState → List Target → Reply → Type 0
AccountsGroup lease group shape before after asked (AllLinks named reasons) =
    OfComing lease group shape (LacksOfGroup shape group before after asked named reasons)
AccountsGroup lease group shape before after asked Memory = Unit {0}
AccountsGroup lease group shape before after asked _ = AsksGroup lease group shape asked

-- what is listed at an address is the size and digests of a file that the group wants
abbrev pub IsListedOfGroup : ℕ → List ℕ → Shape → Target → List Digest → ℕ → Type 0
IsListedOfGroup lease group shape target list size =
    OfComing lease group shape (λ view.
    Any (IsListedFor view.base view.deployment.mapped target list size)
    (group_wanted shape.views group view.application))

-- No target was asked for but the first of those that the group asks for. Of the links that tell
-- only those went that gave other bytes than are listed.
pub record GroupServed (lease : ℕ) (group : List ℕ) (shape : Shape) (before after : LinksState)
    (reply : Reply) : Type 0 where
  pub kept : KeptBut (IsListedOfGroup lease group shape) before after
  pub asked : List Target
  pub grown : after.asked ≡ before.asked ++ asked
  pub front : (all : List Target) → AsksGroup lease group shape all → IsFront asked all
  pub accounts : AccountsGroup lease group shape before after asked reply

-- ---- the files of the view

-- All program files of the leased view, once a group is answered to a store of this shape: a kept
-- view has their contents, or they were got for a file that the group wants.
pub record AreBrought (lease : ℕ) (group : List ℕ) (shape : Shape) (before after : LinksState)
    (new : Store) : Type 0 where
  pub files : (view : View) → leased_view lease new ≡ Some view
      → All (IsHeldOrCame (IsFileFrom before after) shape
      (group_wanted shape.views group view.application) view) view.program_files
