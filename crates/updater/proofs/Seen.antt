-- An updater as contracts see it, and as its fields are.
use Rattle.std.proofs.Common.{◌≡◌, ℕ, List, Result, subst, sym}
use Rattle.outside.specs.declared.failed.Failed.{Failed}
use Rattle.disks.specs.declared.disk.Disk.{Ghosts}
use Rattle.links.specs.declared.links.Links.{Ghosts as LinksGhosts}
use Rattle.machine.specs.declared.command.Command.{Command}
use Rattle.machine.specs.declared.reply.Reply.{Reply}
use Rattle.store_state.specs.declared.change.Change.{Change}
use Rattle.table_log.specs.declared.fault.StepFault.{StepFault}
use Rattle.updater.specs.declared.updater.Updater.TheInside.{Inside}
use Rattle.updater.specs.Commanded.{Commanded}
use Rattle.updater.specs.KeepsChange.{KeepsChange}
use Rattle.updater.specs.Shown.{Updater}

abbrev pub seen : Inside → Updater
seen inside = record { log = inside.log; room = inside.room; state = inside.state }

module _ {D L : Type 0} {on : Ghosts D} {net : LinksGhosts L} {now : ℕ} {heard : List (List ℕ)} {command : Command} {fields updater : Updater} {disk disk_new : D} {links_old links_new : L} {result : Result Reply Failed} where
  -- a command that leaves its updater
  pub rested_as : fields ≡ updater → Commanded on net now heard command fields disk links_old result fields disk_new links_new → Commanded on net now heard command updater disk links_old result updater disk_new links_new
  rested_as same commanded = subst (λ (u : Updater). Commanded on net now heard command u disk links_old result u disk_new links_new) same commanded

  -- one that makes another of its fields
  pub begun_as : {updater_new : Updater} → fields ≡ updater → Commanded on net now heard command fields disk links_old result updater_new disk_new links_new → Commanded on net now heard command updater disk links_old result updater_new disk_new links_new
  begun_as {updater_new = updater_new} same commanded = subst (λ (u : Updater). Commanded on net now heard command u disk links_old result updater_new disk_new links_new) same commanded

  -- and one that tries a change
  pub kept_as : {T : Type 0} {change : Change} {tried : Result T StepFault} {updater_new : Updater} → fields ≡ updater → KeepsChange on change updater disk tried updater_new disk_new
      → (KeepsChange on change fields disk tried updater_new disk_new → Commanded on net now heard command fields disk links_old result updater_new disk_new links_new)
      → Commanded on net now heard command updater disk links_old result updater_new disk_new links_new
  kept_as {change = change} {tried = tried} {updater_new = updater_new} same keeps by =
      begun_as same (by (subst (λ (u : Updater). KeepsChange on change u disk tried updater_new disk_new) (sym same) keeps))
