-- How installs end.
use Rattle.std.proofs.Common.{◌≡◌, ◌≢◌, ◌⊎◌, ◌≤◌, ◌+◌, ◌++◌, ◌∷◌, ℕ, List, [], length, length-append, Some, Result, Ok, Err, inl, inr, refl, sym, ap, subst, ◌∙◌, arith}
use Rattle.small_types.specs.declared.room.Room.{Room}
use Rattle.small_types.specs.declared.limits.TheConstants.{NUMBER_LIMIT}
use Rattle.outside.specs.declared.failed.Failed.{Failed}
use Rattle.disks.specs.declared.disk.Disk.{Ghosts}
use Rattle.disks.specs.Moments.{Each, Rests}
use Rattle.links.specs.declared.links.Links.{Ghosts as LinksGhosts}
use Rattle.links.specs.Links.{LinksState}
use Rattle.machine.specs.declared.command.Command.TheVariants.{Install}
use Rattle.machine.specs.declared.reply.Reply.{Reply}
use Rattle.machine.specs.declared.reply.Reply.TheVariants as says
use Rattle.machine.specs.InstallRow.{InstallEffect, install_refusals}
use Rattle.machine.specs.Machine.{Answers, moment_after}
use Rattle.machine.specs.Rows.{PassesAll, Refuses}
use Rattle.machine.specs.Shape.{Shape, shape_of}
use Rattle.machine.specs.Store.{Session, Store}
use Rattle.machine.proofs.InstallSteps.{left_valid}
use Rattle.store_state.specs.declared.change.Change.{Change}
use Rattle.store_state.specs.Shows.{Shows}
use Rattle.store_state.specs.Tables.{table_shape}
use Rattle.install_plan.specs.Downs.{CountsDowns}
use Rattle.install_plan.specs.InstallHeard.{InstallServed}
use Rattle.install_plan.specs.Plans.{IsRefused}
use Rattle.install_plan.specs.Ready.{IsReady, IsStep}
use Rattle.install_plan.specs.FileCosts.{IsInstallCost}
use Rattle.install_plan.specs.Prepared.{MayLeaveFiles}
use Rattle.install_plan.specs.LeadsIn.{HasNew, LeadsIn}
use Rattle.install_plan.proofs.Downs.{counts_none}
use Rattle.table_log.specs.declared.fault.StepFault.{StepFault}
use Rattle.updater.specs.Shown.{Updater}
use Rattle.updater.specs.Answer.{IsAnswer}
use Rattle.updater.specs.Commanded.{Commanded, LinksServe}
use Rattle.updater.specs.KeepsChange.{KeepsChange, LeadsBetween}
use Rattle.updater.specs.Updater.{room_of, tables_of}
use Rattle.updater.proofs.CommandEnds.{Does, Linked, LeavesStore, Shown, effect_answers, failed_on, kept_on, left_on, left_quiet, refused_answers, rested_on}
use Rattle.updater.proofs.Passed.{Passed}

-- no list is one item longer than itself
pub one_more : {X : Type 0} (xs : List X) (x : X) → xs ≡ xs ++ x ∷ [] → ⊥
one_more xs x same = let long : length xs ≡ length (xs ++ x ∷ []) = ap length same in omega (arith, length-append xs (x ∷ []))

-- a step that leaves the store brings no view
serves_same : (url : List ℕ) (heard : List (List ℕ)) (before after : LinksState) (shape : Shape) (old : Session) (reply : Reply) → shape_of old ≡ shape → InstallServed shape url heard before after reply → LinksServe (Install url) heard before after old reply old
serves_same url heard before after shape old reply same served =
    (subst (λ (s : Shape). InstallServed s url heard before after reply) (sym same) served, λ view more. absurd (one_more old.store.views view more))

-- an install raises the number of the next view
other_store : (now : ℕ) (heard : List (List ℕ)) (url : List ℕ) (old : Session) (reply : Reply) (new : Session) → InstallEffect url heard now old reply new → new.store ≢ old.store
other_store now heard url old reply new done same =
    let next : new.store.next_view ≡ old.store.next_view + 1 = ap (λ (s : Session). s.store.next_view) done.is ∙ ap (λ (s : Store). s.next_view) done.installed.is in
    let still : new.store.next_view ≡ old.store.next_view = ap (λ (s : Store). s.next_view) same in
    omega (arith, next, still)

module _ (now : ℕ) (url : List ℕ) (heard : List (List ℕ)) (before after : LinksState) (updater : Updater) (image : List ℕ) (moment : now ≤ NUMBER_LIMIT) where
  -- what an install that was refused is to a session
  pub refused_rests : (reply : Reply) → IsRefused (table_shape (room_of updater) (tables_of updater)) url heard before after reply → (old : Session) → Shown image (Install url) updater old → LeavesStore now heard (Install url) before after old reply
  refused_rests reply refused old s = record {
    new = old;
    step = by refused.refused;
    same = refl;
    served = serves_same url heard before after (table_shape (room_of updater) (tables_of updater)) old reply s.shape refused.served;
  }
    where
      by : (reply ≡ says.Memory) ⊎ ((old : Session) → Refuses (install_refusals url heard (table_shape (room_of updater) (tables_of updater))) old reply old) → Answers now heard old (Install url) reply old
      by (inl memory) = inl (inl (memory, refl))
      by (inr refuses) = refused_answers now heard (room_of updater) (tables_of updater) old s.shape (Install url) reply old (refuses old)

  -- and one that found no memory at its end
  pub missed_rests : InstallServed (table_shape (room_of updater) (tables_of updater)) url heard before after says.Memory → (old : Session) → Shown image (Install url) updater old → LeavesStore now heard (Install url) before after old says.Memory
  missed_rests served old s = record {
    new = old;
    step = inl (inl (refl, refl));
    same = refl;
    served = serves_same url heard before after (table_shape (room_of updater) (tables_of updater)) old says.Memory s.shape served;
  }

  module _ (told : Type 0) (here : List ℕ) (change : Change) (reply : Reply) (ready : IsReady told here image (room_of updater) (tables_of updater) url heard before after now change reply) where
    module _ (known : told) (Left : List ℕ → Type 0) (old : Session) (shows : Shows (room_of updater) (tables_of updater) here old.store)
        (has : (later : List ℕ) → Left later → HasNew (room_of updater) change ready.bytes later) (s : Shown image (Install url) updater old) where
      -- the step of a session
      step_of : IsStep (room_of updater) (tables_of updater) url heard before after now change reply image ready.bytes old
      step_of = ready.step known old s.jobs shows s.sound

      passes_by : PassesAll (install_refusals url heard (shape_of old))
      passes_by = subst (λ (shape : Shape). PassesAll (install_refusals url heard shape)) (sym s.shape) ready.passes

      abbrev leads_by : LeadsBetween change (tables_of updater) image old.store step_of.new.store
      leads_by = let step = step_of in record {
        bytes = ready.bytes;
        shows = subst (λ (n : Room). LeadsIn n change (tables_of updater) image ready.bytes step.new.store) s.room step.leads;
        valid = left_valid (record { moment = moment; passes = passes_by; effect = step.installs }) s.valid;
      }

      pub ready_does : Does now heard (Install url) before after change (tables_of updater) image Left old reply
      ready_does = let step = step_of in record {
        new = step.new;
        step = effect_answers now heard (room_of updater) (tables_of updater) old s.shape (Install url) reply step.new ready.passes step.installs;
        leads = leads_by;
        brings = λ later left. subst (λ (n : Room). HasNew n change ready.bytes later) s.room (has later left);
        other = other_store now heard url old reply step.new step.installs;
        served = (
          subst (λ (shape : Shape). InstallServed shape url heard before after reply) (sym s.shape) ready.served,
          step.brought,
        );
      }

    -- its reply sets no moment
    pub ready_moment : moment_after now (Some reply) ≤ NUMBER_LIMIT
    ready_moment = subst (λ (r : Reply). moment_after now (Some r) ≤ NUMBER_LIMIT) (sym ready.replied.3) moment

    -- want of memory tells nothing of what was asked
    pub ready_served : InstallServed (table_shape (room_of updater) (tables_of updater)) url heard before after says.Memory
    ready_served = record { hearing = ready.served.hearing; accounts = tt }

module _ {D L : Type 0} (on : Ghosts D) (net : LinksGhosts L) (now : ℕ) (url : List ℕ) (heard : List (List ℕ)) (updater : Updater) (disk mid : D) (links_old links_new : L)
    (seen_left : left_on on mid (on.seen mid)) (moment : now ≤ NUMBER_LIMIT) (most : ℕ)
    (files : IsInstallCost (table_shape (room_of updater) (tables_of updater)) heard (net.links links_old) (net.links links_new) most)
    (fault : Type 0) (passed : Passed on updater disk mid most fault) where
  abbrev before : LinksState
  before = net.links links_old

  abbrev after : LinksState
  after = net.links links_new

  refused_linked : (reply : Reply) → IsRefused (table_shape (room_of updater) (tables_of updater)) url heard before after reply
      → Linked net heard (Install url) updater links_old links_new
  refused_linked reply refused = record { kept = refused.served.hearing.kept; left = tt; hears = refused.hears }

  -- it was refused, or there was no memory
  pub install_refused : (fault → ⊥) → (reply : Reply) → MayLeaveFiles reply ⊎ Rests on disk mid → IsRefused (table_shape (room_of updater) (tables_of updater)) url heard before after reply
      → Commanded on net now heard (Install url) updater disk links_old (Ok reply) updater mid links_new
  install_refused none reply leaves refused =
      rested_on on net now heard (Install url) updater disk mid links_old links_new seen_left moment
      (refused_linked reply refused) most files fault passed none reply (left_quiet on disk mid reply leaves)
      (subst (λ (n : ℕ). n ≤ NUMBER_LIMIT) (sym (refused.still now)) moment)
      refused.downs (λ e. tt)
      (λ told old s. refused_rests now url heard before after updater (on.seen mid) moment reply refused old s)

  -- the disk failed
  pub install_failed : fault → IsRefused (table_shape (room_of updater) (tables_of updater)) url heard before after says.Memory
      → (result : Result Reply Failed) → result ≡ Err (record {})
      → Commanded on net now heard (Install url) updater disk links_old result updater mid links_new
  install_failed is refused result failed =
      failed_on on net now heard (Install url) updater disk mid links_old links_new seen_left moment
      (refused_linked says.Memory refused) most files fault passed is says.Memory
      (λ told old s. refused_rests now url heard before after updater (on.seen mid) moment says.Memory refused old s)
      result failed

  -- all was fetched, and the change was tried
  pub install_kept : {T : Type 0} → (fault → ⊥) → left_on on disk (on.seen disk) → (change : Change) (reply : Reply)
      (ready : IsReady (on.tells mid) (on.seen disk) (on.seen mid) (room_of updater) (tables_of updater) url heard before after now change reply)
      → (on.tells mid → (store : Store) → Shows (room_of updater) (tables_of updater) (on.seen disk) store
      → Each on mid (HasNew (room_of updater) change ready.bytes))
      → (updater_new : Updater) (disk_new : D) (tried : Result T StepFault) (result : Result Reply Failed) → KeepsChange on change updater mid tried updater_new disk_new → IsAnswer reply tried result
      → Commanded on net now heard (Install url) updater disk links_old result updater_new disk_new links_new
  install_kept none first_left change reply ready has updater_new disk_new tried result keeps is =
      let linked : Linked net heard (Install url) updater links_old links_new = record { kept = ready.served.hearing.kept; left = tt; hears = ready.hears } in
      kept_on on net now heard (Install url) updater disk mid links_old links_new seen_left moment linked most files fault passed none change reply
      (ready_moment now url heard before after updater (on.seen mid) moment (on.tells mid) (on.seen disk) change reply ready)
      (subst (CountsDowns before after) (sym ready.replied.3) (counts_none refl)) (λ e. tt)
      (λ told old holds s.
      let shows = subst (λ (n : Room). Shows n (tables_of updater) (on.seen disk) old.store) (sym holds.room) (holds.shows (on.seen disk) first_left) in
      ready_does now url heard before after updater (on.seen mid) moment (on.tells mid) (on.seen disk) change reply ready told (left_on on mid) old shows (has told old.store shows) s)
      (λ takes. rested_on on net now heard (Install url) updater disk mid links_old links_new seen_left moment linked most files fault passed none says.Memory (λ quiet. absurd (quiet tt)) moment (counts_none refl) (λ e. tt)
      (λ told old s. missed_rests now url heard before after updater (on.seen mid) moment (ready_served now url heard before after updater (on.seen mid) moment (on.tells mid) (on.seen disk) change reply ready) old s))
      updater_new disk_new tried result keeps is
