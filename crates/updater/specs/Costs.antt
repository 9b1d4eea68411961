-- What a step may write.
use Rattle.std.specs.Prelude.{◌≡◌, ◌⊎◌, ◌+◌, ◌≤◌, ℕ, List, length}
use Rattle.links.specs.Links.{LinksState}
use Rattle.machine.specs.declared.command.Command.{Command}
use Rattle.machine.specs.declared.command.Command.TheVariants.{Group, Install, Put}
use Rattle.machine.specs.declared.reply.Reply.{Reply}
use Rattle.machine.specs.Shape.{Shape, shape_of}
use Rattle.machine.specs.Store.{Session, Store}
use Rattle.record_codec.specs.Codec.{IsChange}
use Rattle.store_state.specs.declared.change.Change.{Change}
use Rattle.store_state.specs.Change.{Fits}
use Rattle.store_state.specs.Measured.{BringsMeasured}
use Rattle.store_state.specs.Shows.{Shows}
use Rattle.store_state.specs.Tables.{Tables}
use Rattle.install_plan.specs.FileCosts.{IsGroupCost, IsInstallCost}
use Rattle.install_plan.specs.LeadsIn.{HasNew}
use Rattle.install_plan.specs.Prepared.{MayLeaveFiles}
use Rattle.updater.specs.KeepsChange.{LeadsBetween}
use Rattle.updater.specs.StepCosts.{CostsOf}

-- Tables that show the old store come to show the new one by the change, which fits them and has an
-- encoding. The files that it brings have as many blocks as their lengths need, and the image has
-- their bytes.
pub record IsChangeBetween (old new : Store) (change : Change) : Type 0 where
  pub tables : Tables
  pub image : List ℕ
  pub shows : Shows old.room tables image old
  pub fits : Fits tables change
  pub has : IsChange change
  pub measured : BringsMeasured change
  pub leads : LeadsBetween change tables image old new
  pub brings : HasNew old.room change leads.bytes image

-- nothing where the store stays; else what a change costs that leads from the one to the other
abbrev pub Costs : Store → Store → ℕ → Type 0
Costs old new bytes =
    ((new ≡ old) × (bytes ≡ 0))
    ⊎ ((change : Change) × (between : IsChangeBetween old new change)
    × CostsOf change between.tables bytes)

-- ---- files

-- What a command may write of files, from the links as they were before it to those behind it: an install
-- and a group what they fetch, from each link once more, and an install what it carries over; a put its
-- bytes. Any other command writes none.
abbrev pub FileCosts :
    Command → Shape → List (List ℕ) → LinksState → LinksState → ℕ → Type 0
FileCosts (Install url) shape heard before after most = IsInstallCost shape heard before after most
FileCosts (Group lease group) shape heard before after most =
    IsGroupCost lease group shape before after most
FileCosts (Put lease name bytes) shape heard before after most = most ≤ length bytes
FileCosts _ shape heard before after most = most ≡ 0

-- a command that writes no files
abbrev pub WritesNoFiles : Command → Type 0
WritesNoFiles (Install url) = ⊥
WritesNoFiles (Group lease group) = ⊥
WritesNoFiles (Put lease name bytes) = ⊥
WritesNoFiles _ = Unit {0}

-- no file is left in free blocks: the command brings none, or its reply is one behind which none is
abbrev pub LeavesNoFiles : Command → Reply → Type 0
LeavesNoFiles command reply = MayLeaveFiles reply → WritesNoFiles command

-- What a step of a command may write: a change, where the store comes to be another one, and files.
pub record StepCosts (command : Command) (heard : List (List ℕ)) (before after : LinksState)
    (old new : Session) (bytes : ℕ) : Type 0 where
  pub change : ℕ
  pub costs : Costs old.store new.store change
  pub still : new.store ≡ old.store → change ≡ 0
  pub files : ℕ
  pub brings : FileCosts command (shape_of old) heard before after files
  pub all : bytes ≡ change + files
