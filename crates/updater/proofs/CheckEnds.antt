-- How checks end.
use Rattle.std.proofs.Common.{◌≤◌, ℕ, List, Some, Result, Ok, inl, refl, sym, subst}
use Rattle.small_types.specs.declared.room.Room.{Room}
use Rattle.small_types.specs.declared.limits.TheConstants.{NUMBER_LIMIT}
use Rattle.outside.specs.declared.failed.Failed.{Failed}
use Rattle.disks.specs.declared.disk.Disk.{Ghosts}
use Rattle.links.specs.declared.links.Links.{Ghosts as LinksGhosts}
use Rattle.links.specs.Links.{LinksState}
use Rattle.identity.specs.declared.key.Key.{Key}
use Rattle.identity.specs.Key.{IsKey}
use Rattle.machine.specs.declared.command.Command.TheVariants.{Check}
use Rattle.machine.specs.declared.event.Event.TheVariants.{Line}
use Rattle.machine.specs.declared.reply.Reply.{Reply}
use Rattle.machine.specs.declared.reply.Reply.TheVariants as says
use Rattle.machine.specs.CheckRow.{HearsOffer}
use Rattle.machine.specs.Shape.{Shape}
use Rattle.machine.specs.Store.{Session}
use Rattle.machine.proofs.KeptSteps.{step_valid}
use Rattle.store_state.specs.declared.change.Change.{Change}
use Rattle.store_state.specs.declared.change.Change.TheVariants.{Heard, Unheard}
use Rattle.fetcher.proofs.Liars.{but_all}
use Rattle.install_plan.specs.Checks.{CheckStep, IsCheckOver, IsCheckReady, IsOfCheck, LedBy}
use Rattle.install_plan.specs.LeadsIn.{HasNew, LeadsIn, no_bytes}
use Rattle.install_plan.proofs.Downs.{counts_none}
use Rattle.table_log.specs.declared.fault.StepFault.{StepFault}
use Rattle.updater.specs.Shown.{Updater}
use Rattle.updater.specs.Answer.{IsAnswer}
use Rattle.updater.specs.Commanded.{Commanded, IsListedOf}
use Rattle.updater.specs.KeepsChange.{KeepsChange, LeadsBetween}
use Rattle.store_state.specs.Tables.{table_shape}
use Rattle.updater.specs.Updater.{room_of, tables_of}
use Rattle.updater.proofs.CommandEnds.{Does, Linked, LeavesStore, Shown, kept, rested}

-- a check brings no file
check_has : (room : Room) (key : Key) (change : Change) (image : List ℕ) → IsOfCheck key change
    → HasNew room change no_bytes image
check_has room key (Heard other version minimum now) image is = record { measured = tt; are = refl }
check_has room key (Unheard other) image is = record { measured = tt; are = refl }
check_has room key _ image is = absurd is

module _ (now : ℕ) (key : Key) (heard : List (List ℕ)) (before after : LinksState)
    (updater : Updater) (image : List ℕ) (is_key : IsKey key) (moment : now ≤ NUMBER_LIMIT) where
  over_rests : (reply : Reply)
      → IsCheckOver (room_of updater) (tables_of updater) key heard before after now reply
      → (old : Session) → Shown image (Check key) updater old
      → LeavesStore now heard (Check key) before after old reply
  over_rests reply over old s =
      let step = over.step image old s.jobs s.shows s.valid in
      record { new = step.new; step = step.step; same = step.leaves; served = step.served }

  module _ (change : Change) (reply : Reply)
      (ready : IsCheckReady (room_of updater) (tables_of updater) key heard before after now
      change reply) where
    step_of : (old : Session) → Shown image (Check key) updater old
        → CheckStep key heard before after now reply old
        (LedBy (room_of updater) (tables_of updater) change image no_bytes old.store)
    step_of old s = ready.step image old s.jobs s.shows s.valid

    abbrev leads_by : (old : Session) (s : Shown image (Check key) updater old)
        → LeadsBetween change (tables_of updater) image old.store (step_of old s).new.store
    leads_by old s = let step = step_of old s in record {
      bytes = no_bytes;
      shows = subst
          (λ (n : Room). LeadsIn n change (tables_of updater) image no_bytes step.new.store) s.room
          step.leaves.leads;
      valid = step_valid now old (Line (Check key) now (record { texts = heard })) (Some reply)
          step.new (is_key, moment)
          (record {
            moment = refl;
            hears = subst (λ (shape : Shape). HearsOffer key shape heard) (sym s.shape) ready.hears;
            answer = reply;
            replied = refl;
            answers = step.step;
          }) s.valid;
    }

    ready_does : {Left : List ℕ → Type 0} (old : Session) → Shown image (Check key) updater old
        → Does now heard (Check key) before after change (tables_of updater) image Left old reply
    ready_does old s = let step = step_of old s in record {
      new = step.new;
      step = step.step;
      leads = leads_by old s;
      brings = λ later left. check_has old.store.room key change later ready.of;
      other = step.leaves.other;
      served = step.served;
    }

    -- there was no memory at its end
    missed_rests : (old : Session) → Shown image (Check key) updater old
        → LeavesStore now heard (Check key) before after old says.Memory
    missed_rests old s = record {
      new = old;
      step = inl (inl (refl, refl));
      same = refl;
      served = record { hearing = (step_of old s).served.hearing; accounts = tt };
    }

module _ {D L : Type 0} (on : Ghosts D) (net : LinksGhosts L) (now : ℕ) (key : Key)
    (heard : List (List ℕ)) (updater : Updater) (disk : D) (links_old links_new : L)
    (seen_left : on.left_at disk (on.moment disk) (on.seen disk)) (is_key : IsKey key)
    (moment : now ≤ NUMBER_LIMIT) where
  abbrev before : LinksState
  before = net.links links_old

  abbrev after : LinksState
  after = net.links links_new

  -- nothing is changed
  pub check_over : (reply : Reply)
      → IsCheckOver (room_of updater) (tables_of updater) key heard before after now reply
      → Commanded on net now heard (Check key) updater disk links_old (Ok reply) updater disk
      links_new
  check_over reply over =
      rested on net now heard (Check key) updater disk links_old links_new seen_left moment
      (record { kept = but_all (IsListedOf (Check key) (table_shape (room_of updater) (tables_of updater)) heard) before after over.kept; left = tt; hears = over.hears }) reply
      (subst (λ (n : ℕ). n ≤ NUMBER_LIMIT) (sym over.still) moment) over.downs (λ e. tt)
      (over_rests now key heard before after updater (on.seen disk) is_key moment reply over)

  -- what was heard or not is noted
  pub check_kept : {T : Type 0} (change : Change) (reply : Reply)
      → IsCheckReady (room_of updater) (tables_of updater) key heard before after now change reply
      → (updater_new : Updater) (disk_new : D) (tried : Result T StepFault)
      (result : Result Reply Failed) → KeepsChange on change updater disk tried updater_new disk_new
      → IsAnswer reply tried result
      → Commanded on net now heard (Check key) updater disk links_old result updater_new disk_new
      links_new
  check_kept change reply ready updater_new disk_new tried result keeps is =
      let linked : Linked net heard (Check key) updater links_old links_new =
      record { kept = but_all (IsListedOf (Check key) (table_shape (room_of updater) (tables_of updater)) heard) before after ready.kept; left = tt; hears = ready.hears } in
      kept on net now heard (Check key) updater disk links_old links_new seen_left moment linked
      change reply (subst (λ (n : ℕ). n ≤ NUMBER_LIMIT) (sym ready.still) moment) ready.downs (λ e. tt)
      (ready_does now key heard before after updater (on.seen disk) is_key moment change reply ready)
      (λ takes. rested on net now heard (Check key) updater disk links_old links_new seen_left moment linked
      says.Memory moment (counts_none refl) (λ e. tt)
      (missed_rests now key heard before after updater (on.seen disk) is_key moment change reply
      ready))
      updater_new disk_new tried result keeps is
