-- How puts end that write their bytes.
use Rattle.std.proofs.Common.{◌≡◌, ◌≤◌, ℕ, List, [], Some, Result, Ok, Err, inl, refl, sym, subst}
use Rattle.small_types.specs.declared.limits.TheConstants.{NUMBER_LIMIT, PIECE_LIMIT}
use Rattle.small_types.specs.Name.{IsName}
use Rattle.std.specs.Prelude.{length, option_map}
use Rattle.outside.specs.declared.failed.Failed.{Failed}
use Rattle.disks.specs.declared.disk.Disk.{Ghosts}
use Rattle.disks.specs.Moments.{Each}
use Rattle.links.specs.declared.links.Links.{Ghosts as LinksGhosts}
use Rattle.machine.specs.declared.command.Command.{Command}
use Rattle.machine.specs.declared.command.Command.TheVariants.{Put}
use Rattle.machine.specs.declared.reply.Reply.{Reply}
use Rattle.machine.specs.declared.reply.Reply.TheVariants as says
use Rattle.machine.specs.DataLaws.{PutsAreThere}
use Rattle.machine.specs.Store.{Session}
use Rattle.store_state.specs.declared.change.Change.TheVariants as change
use Rattle.store_state.specs.declared.view.LocalFile.{LocalFile}
use Rattle.store_state.specs.Laws.{PutsShowTheFile}
use Rattle.store_state.specs.Locals.{local_at}
use Rattle.store_state.specs.Shows.{Shows}
use Rattle.small_types.specs.declared.room.Room.{Room}
use Rattle.store_state.specs.Stored.{data_bytes}
use Rattle.install_plan.proofs.Downs.{counts_none}
use Rattle.table_log.specs.declared.fault.StepFault.{StepFault}
use Rattle.table_log.specs.declared.fault.StepFault.TheVariants as step
use Rattle.updater.specs.Shown.{Updater}
use Rattle.updater.specs.Answer.{IsAnswer}
use Rattle.updater.specs.Commanded.{Commanded}
use Rattle.updater.specs.KeepsChange.{KeepsChange}
use Rattle.updater.specs.PutStep.{IsPutStep, file_of}
use Rattle.updater.specs.Updater.{Holds, room_of, tables_of}
use Rattle.updater.proofs.CommandEnds.{Does, LeavesStore, Linked, Shown, failed_on, kept_on, left_on, nothing_served, rested_on, unlinked}
use Rattle.updater.proofs.DataPut.{put_does}
use Rattle.updater.proofs.Passed.{Passed}

no_disk_fault : ◌≡◌ {A = StepFault} step.Memory step.DiskFault → ⊥
no_disk_fault e = cc

pub disk_fault : {T : Type 0} {tried : StepFault} → ◌≡◌ {A = Result T StepFault} (Err tried) (Err step.DiskFault)
    → tried ≡ step.DiskFault
disk_fault e = cc

module _ {D L : Type 0} (on : Ghosts D) (net : LinksGhosts L) (now lease : ℕ) (name bytes : List ℕ)
    (updater : Updater) (disk mid : D) (links : L) (seen_left : left_on on mid (on.seen mid))
    (moment : now ≤ NUMBER_LIMIT) (most : ℕ) (few : most ≤ length bytes) (fault : Type 0)
    (passed : Passed on updater disk mid most fault) where
  abbrev command : Command
  command = Put lease name bytes

  linked : Linked net [] command updater links links
  linked = unlinked net command updater links

  missed_rests : (old : Session) → Shown (on.seen mid) command updater old
      → LeavesStore now [] command (net.links links) (net.links links) old says.Memory
  missed_rests old s = record {
    new = old;
    step = inl (inl (refl, refl));
    same = refl;
    served = nothing_served command [] (net.links links) (net.links links) old says.Memory old tt;
  }

  -- there was no memory
  pub put_missed : (fault → ⊥)
      → Commanded on net now [] command updater disk links (Ok says.Memory) updater mid links
  put_missed none =
      rested_on on net now [] command updater disk mid links links seen_left moment linked most few
      fault passed none says.Memory (λ quiet. absurd (quiet tt)) moment (counts_none refl) (λ e. tt)
      (λ told old s. missed_rests old s)

  -- the bytes did not come to stand in blocks
  pub put_unkept : (T : Type 0) (tried : StepFault) → (tried ≡ step.DiskFault → fault) → (fault → tried ≡ step.DiskFault)
      → (result : Result Reply Failed) → IsAnswer {T = T} says.Put (Err tried) result
      → Commanded on net now [] command updater disk links result updater mid links
  put_unkept T step.Memory to from result is =
      subst (λ (r : Result Reply Failed). Commanded on net now [] command updater disk links r updater mid links)
      (sym is) (put_missed (λ failed. no_disk_fault (from failed)))
  put_unkept T step.DiskFault to from result is =
      failed_on on net now [] command updater disk mid links links seen_left moment linked most few
      fault passed (to refl) says.Memory (λ told old s. missed_rests old s) result is

  -- they did, and the change was tried
  module _ (none : fault → ⊥) (words : (lease ≤ NUMBER_LIMIT) × IsName name × (length bytes ≤ PIECE_LIMIT))
      (number : ℕ) (of : IsPutStep (room_of updater) lease name bytes (tables_of updater) number)
      (puts : PutsShowTheFile) (there : PutsAreThere) (blocks : List ℕ)
      (first_left : left_on on disk (on.seen disk))
      (has : Each on mid (λ image. data_bytes (room_of updater) image (file_of name (length bytes) blocks) ≡ bytes))
      (differs : on.tells mid → (old : Session) → Shows (room_of updater) (tables_of updater) (on.seen disk) old.store
      → option_map (data_bytes (room_of updater) (on.seen disk)) (local_at number name (tables_of updater)) ≡ Some bytes → ⊥)
    where
      does : on.tells mid → (old : Session) → Holds on updater disk old → Shown (on.seen mid) command updater old
          → Does now [] command (net.links links) (net.links links) (change.Put number (file_of name (length bytes) blocks))
          (tables_of updater) (on.seen mid) (left_on on mid) old says.Put
      does told old holds s =
          let shows = subst (λ (n : Room). Shows n (tables_of updater) (on.seen disk) old.store) (sym holds.room) (holds.shows (on.seen disk) first_left) in
          put_does now lease (room_of updater) name bytes (tables_of updater) (on.seen mid)
          (net.links links) (net.links links) old s.jobs s.shows s.valid words moment number of
          blocks puts there (on.seen disk) shows (differs told old shows) (left_on on mid) has

      pub put_kept : {T : Type 0} (file : LocalFile) → file ≡ file_of name (length bytes) blocks
          → (updater_new : Updater) (disk_new : D) (tried : Result T StepFault) (result : Result Reply Failed)
          → KeepsChange on (change.Put number file) updater mid tried updater_new disk_new
          → IsAnswer says.Put tried result
          → Commanded on net now [] command updater disk links result updater_new disk_new links
      put_kept file made updater_new disk_new tried result keeps is =
          kept_on on net now [] command updater disk mid links links seen_left moment linked most few
          fault passed none (change.Put number (file_of name (length bytes) blocks)) says.Put moment (counts_none refl) (λ e. tt) does
          (λ takes. put_missed none) updater_new disk_new tried result
          (subst (λ (f : LocalFile). KeepsChange on (change.Put number f) updater mid tried updater_new disk_new) made keeps) is
