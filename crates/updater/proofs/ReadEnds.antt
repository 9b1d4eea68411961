-- How commands end that only read the disk.
use Rattle.std.proofs.Common.{◌≡◌, ◌≤◌, ℕ, List, [], Some, Result, Ok, Err, inl, refl}
use Rattle.small_types.specs.declared.limits.TheConstants.{NUMBER_LIMIT}
use Rattle.outside.specs.declared.failed.Failed.{Failed}
use Rattle.disks.specs.declared.disk.Disk.{Ghosts}
use Rattle.disks.specs.Moments.{Untouched}
use Rattle.disks.specs.Spends.{Spends}
use Rattle.links.specs.declared.links.Links.{Ghosts as LinksGhosts}
use Rattle.machine.specs.declared.command.Command.{Command}
use Rattle.machine.specs.declared.reply.Reply.{Reply}
use Rattle.machine.specs.declared.reply.Reply.TheVariants as says
use Rattle.machine.specs.Machine.{moment_after}
use Rattle.machine.specs.Store.{Session}
use Rattle.store_state.specs.Tables.{table_shape}
use Rattle.install_plan.specs.Downs.{CountsDowns}
use Rattle.install_plan.proofs.Downs.{counts_none}
use Rattle.updater.specs.Shown.{Updater}
use Rattle.updater.specs.Commanded.{Commanded, MayLack}
use Rattle.updater.specs.Costs.{FileCosts}
use Rattle.updater.specs.Updater.{room_of, tables_of}
use Rattle.updater.proofs.CommandEnds.{IsPlain, LeavesStore, Shown, costs_none, failed_on, left_on, nothing_served, rested_on, unlinked}
use Rattle.updater.proofs.Passed.{passed_reading, rests_reading}

module _ {D L : Type 0} (on : Ghosts D) (net : LinksGhosts L) (now : ℕ) (command : Command)
    (updater : Updater) (disk mid : D) (links : L) (seen_left : left_on on mid (on.seen mid))
    (moment : now ≤ NUMBER_LIMIT) (plain : IsPlain command) (fault : Type 0)
    (still : Untouched on disk mid) (spends : Spends on 0 0 disk mid fault) where
  files_none : FileCosts command (table_shape (room_of updater) (tables_of updater)) []
      (net.links links) (net.links links) 0
  files_none =
      costs_none command (table_shape (room_of updater) (tables_of updater)) [] (net.links links) (net.links links)

  -- what was read is answered
  pub read_over : (fault → ⊥) → (reply : Reply) → moment_after now (Some reply) ≤ NUMBER_LIMIT
      → CountsDowns (net.links links) (net.links links) reply → (reply ≡ says.Memory → MayLack command)
      → (on.tells mid → (old : Session) → Shown (on.seen mid) command updater old
      → LeavesStore now [] command (net.links links) (net.links links) old reply)
      → Commanded on net now [] command updater disk links (Ok reply) updater mid links
  read_over none reply few downs lack rests =
      rested_on on net now [] command updater disk mid links links seen_left moment
      (unlinked net command updater links) 0 files_none fault
      (passed_reading on updater disk mid fault still spends) none reply
      (λ quiet. rests_reading on disk mid fault still spends) few downs lack rests

  missed_rests : (old : Session) → Shown (on.seen mid) command updater old
      → LeavesStore now [] command (net.links links) (net.links links) old says.Memory
  missed_rests old s = record {
    new = old;
    step = inl (inl (refl, refl));
    same = refl;
    served = nothing_served command [] (net.links links) (net.links links) old says.Memory old plain;
  }

  -- there was no memory
  pub read_missed : (fault → ⊥) → MayLack command
      → Commanded on net now [] command updater disk links (Ok says.Memory) updater mid links
  read_missed none may =
      read_over none says.Memory moment (counts_none refl) (λ e. may) (λ told old s. missed_rests old s)

  -- the disk failed
  pub read_failed : fault → (result : Result Reply Failed) → result ≡ Err (record {})
      → Commanded on net now [] command updater disk links result updater mid links
  read_failed is result failed =
      failed_on on net now [] command updater disk mid links links seen_left moment
      (unlinked net command updater links) 0 files_none fault
      (passed_reading on updater disk mid fault still spends) is says.Memory
      (λ told old s. missed_rests old s) result failed
