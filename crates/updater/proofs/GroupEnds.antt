-- How groups end.
use Rattle.std.proofs.Common.{◌≤◌, ◌⊎◌, ℕ, List, [], Some, Result, Ok, Err, ◌≡◌, inl, refl, sym, subst}
use Rattle.small_types.specs.declared.room.Room.{Room}
use Rattle.small_types.specs.declared.limits.TheConstants.{NUMBER_LIMIT}
use Rattle.outside.specs.declared.failed.Failed.{Failed}
use Rattle.disks.specs.declared.disk.Disk.{Ghosts}
use Rattle.disks.specs.Moments.{Each, Rests}
use Rattle.links.specs.declared.links.Links.{Ghosts as LinksGhosts}
use Rattle.links.specs.Links.{LinksState}
use Rattle.machine.specs.declared.command.Command.TheVariants.{Group}
use Rattle.machine.specs.declared.event.Event.TheVariants.{Line}
use Rattle.machine.specs.declared.reply.Reply.{Reply}
use Rattle.machine.specs.declared.reply.Reply.TheVariants as says
use Rattle.machine.specs.Store.{Session}
use Rattle.machine.specs.Words.{IsGroup}
use Rattle.machine.proofs.KeptSteps.{step_valid}
use Rattle.store_state.specs.declared.change.Change.{Change}
use Rattle.store_state.specs.Tables.{table_shape}
use Rattle.install_plan.specs.Checks.{LedBy}
use Rattle.install_plan.specs.GroupReady.{GroupStep, IsGroupOver, IsGroupReady}
use Rattle.install_plan.proofs.Downs.{counts_none}
use Rattle.install_plan.proofs.LeasedRows.{still_brought}
use Rattle.install_plan.specs.FileCosts.{IsGroupCost}
use Rattle.install_plan.specs.Prepared.{MayLeaveFiles}
use Rattle.install_plan.specs.LeadsIn.{HasNew, LeadsIn}
use Rattle.table_log.specs.declared.fault.StepFault.{StepFault}
use Rattle.updater.specs.Shown.{Updater}
use Rattle.updater.specs.Answer.{IsAnswer}
use Rattle.updater.specs.Commanded.{Commanded}
use Rattle.updater.specs.KeepsChange.{KeepsChange, LeadsBetween}
use Rattle.updater.specs.Updater.{room_of, tables_of}
use Rattle.updater.proofs.CommandEnds.{Does, Linked, LeavesStore, Shown, failed_on, kept_on, left_on, left_quiet, rested_on}
use Rattle.updater.proofs.Passed.{Passed}

module _ (now lease : ℕ) (group : List ℕ) (before after : LinksState) (updater : Updater)
    (image : List ℕ) (words : (lease ≤ NUMBER_LIMIT) × IsGroup group)
    (moment : now ≤ NUMBER_LIMIT) where
  over_rests : (reply : Reply)
      → IsGroupOver (room_of updater) (tables_of updater) lease group before after reply
      → (old : Session) → Shown image (Group lease group) updater old
      → LeavesStore now [] (Group lease group) before after old reply
  over_rests reply over old s =
      let step = over.step image now old s.jobs s.shows s.sound in
      record {
        new = step.new;
        step = step.step;
        same = step.leaves;
        served = (step.served, step.brought);
      }

  module _ (change : Change) (reply : Reply)
      (ready : IsGroupReady image (room_of updater) (tables_of updater) lease group before after change
      reply) where
    step_of : (old : Session) → Shown image (Group lease group) updater old
        → GroupStep lease group before after now reply old
        (LedBy (room_of updater) (tables_of updater) change image ready.bytes old.store)
    step_of old s = ready.step now old s.jobs s.shows s.sound

    abbrev leads_by : (old : Session) (s : Shown image (Group lease group) updater old)
        → LeadsBetween change (tables_of updater) image old.store (step_of old s).new.store
    leads_by old s = let step = step_of old s in record {
      bytes = ready.bytes;
      shows = subst
          (λ (n : Room). LeadsIn n change (tables_of updater) image ready.bytes step.new.store) s.room
          step.leaves.leads;
      valid = step_valid now old (Line (Group lease group) now (record { texts = [] }))
          (Some reply) step.new (words, moment)
          (record {
            moment = refl;
            hears = refl;
            answer = reply;
            replied = refl;
            answers = step.step;
          }) s.valid;
    }

    ready_does : (Left : List ℕ → Type 0)
        → ((later : List ℕ) → Left later → HasNew (room_of updater) change ready.bytes later)
        → (old : Session) → Shown image (Group lease group) updater old
        → Does now [] (Group lease group) before after change (tables_of updater) image Left old reply
    ready_does Left has old s = let step = step_of old s in record {
      new = step.new;
      step = step.step;
      leads = leads_by old s;
      brings = λ later left. subst (λ (n : Room). HasNew n change ready.bytes later) s.room (has later left);
      other = step.leaves.other;
      served = (step.served, step.brought);
    }

    -- there was no memory at its end
    missed_rests : (old : Session) → Shown image (Group lease group) updater old
        → LeavesStore now [] (Group lease group) before after old says.Memory
    missed_rests old s = let served = (step_of old s).served in record {
      new = old;
      step = inl (inl (refl, refl));
      same = refl;
      served = (
        record {
          kept = served.kept;
          asked = served.asked;
          grown = served.grown;
          front = served.front;
          accounts = tt;
        },
        still_brought lease group old before after s.valid.ordered,
      );
    }

module _ {D L : Type 0} (on : Ghosts D) (net : LinksGhosts L) (now lease : ℕ) (group : List ℕ)
    (updater : Updater) (disk mid : D) (links_old links_new : L)
    (seen_left : left_on on mid (on.seen mid))
    (words : (lease ≤ NUMBER_LIMIT) × IsGroup group) (moment : now ≤ NUMBER_LIMIT) (most : ℕ)
    (files : IsGroupCost lease group (table_shape (room_of updater) (tables_of updater))
    (net.links links_old) (net.links links_new) most)
    (fault : Type 0) (passed : Passed on updater disk mid most fault) where
  abbrev before : LinksState
  before = net.links links_old

  abbrev after : LinksState
  after = net.links links_new

  over_linked : (reply : Reply)
      → IsGroupOver (room_of updater) (tables_of updater) lease group before after reply
      → Linked net [] (Group lease group) updater links_old links_new
  over_linked reply over = record { kept = over.kept; left = tt; hears = refl }

  -- nothing is changed
  pub group_over : (fault → ⊥) → (reply : Reply) → MayLeaveFiles reply ⊎ Rests on disk mid
      → IsGroupOver (room_of updater) (tables_of updater) lease group before after reply
      → Commanded on net now [] (Group lease group) updater disk links_old (Ok reply) updater mid
      links_new
  group_over none reply leaves over =
      rested_on on net now [] (Group lease group) updater disk mid links_old links_new seen_left moment
      (over_linked reply over) most files fault passed none reply (left_quiet on disk mid reply leaves)
      (subst (λ (n : ℕ). n ≤ NUMBER_LIMIT) (sym (over.still now)) moment) over.downs (λ e. tt)
      (λ told old s. over_rests now lease group before after updater (on.seen mid) words moment reply over old s)

  -- the disk failed
  pub group_failed : fault
      → IsGroupOver (room_of updater) (tables_of updater) lease group before after says.Memory
      → (result : Result Reply Failed) → result ≡ Err (record {})
      → Commanded on net now [] (Group lease group) updater disk links_old result updater mid
      links_new
  group_failed is over result failed =
      failed_on on net now [] (Group lease group) updater disk mid links_old links_new seen_left moment
      (over_linked says.Memory over) most files fault passed is says.Memory
      (λ told old s. over_rests now lease group before after updater (on.seen mid) words moment says.Memory over old s)
      result failed

  -- the files were fetched, and the change was tried
  pub group_kept : {T : Type 0} → (fault → ⊥) → (change : Change) (reply : Reply)
      (ready : IsGroupReady (on.seen mid) (room_of updater) (tables_of updater) lease group before after change reply)
      → Each on mid (HasNew (room_of updater) change ready.bytes)
      → (updater_new : Updater) (disk_new : D) (tried : Result T StepFault)
      (result : Result Reply Failed) → KeepsChange on change updater mid tried updater_new disk_new
      → IsAnswer reply tried result
      → Commanded on net now [] (Group lease group) updater disk links_old result updater_new
      disk_new links_new
  group_kept none change reply ready has updater_new disk_new tried result keeps is =
      let linked : Linked net [] (Group lease group) updater links_old links_new =
      record { kept = ready.kept; left = tt; hears = refl } in
      kept_on on net now [] (Group lease group) updater disk mid links_old links_new seen_left moment
      linked most files fault passed none change reply
      (subst (λ (n : ℕ). n ≤ NUMBER_LIMIT) (sym (ready.still now)) moment) ready.downs (λ e. tt)
      (λ told old holds s. ready_does now lease group before after updater (on.seen mid) words moment change reply
      ready (left_on on mid) has old s)
      (λ takes. rested_on on net now [] (Group lease group) updater disk mid links_old links_new seen_left moment
      linked most files fault passed none says.Memory (λ quiet. absurd (quiet tt)) moment (counts_none refl) (λ e. tt)
      (λ told old s. missed_rests now lease group before after updater (on.seen mid) words moment change reply
      ready old s))
      updater_new disk_new tried result keeps is
