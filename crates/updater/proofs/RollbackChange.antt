-- A rollback: the step that it is, and the change that it makes.
use Rattle.std.proofs.Common.{◌≡◌, ◌≢◌, ◌≤◌, ◌∙◌, ℕ, List, [], Some, refl, sym, ap, subst}
use Rattle.std.proofs.lemmas.Option.{none-some}
use Rattle.small_types.specs.declared.room.Room.{Room}
use Rattle.small_types.specs.declared.limits.TheConstants.{NUMBER_LIMIT}
use Rattle.identity.specs.declared.key.Key.{Key}
use Rattle.identity.specs.Key.{IsKey}
use Rattle.machine.specs.declared.app.AppState.{AppState}
use Rattle.machine.specs.declared.command.Command.TheVariants as command
use Rattle.machine.specs.declared.event.Event.TheVariants.{Line}
use Rattle.machine.specs.declared.reply.Reply.{Reply}
use Rattle.machine.specs.declared.reply.Reply.TheVariants as says
use Rattle.machine.specs.Current.{current_version}
use Rattle.machine.specs.Entries.{AreInOrder}
use Rattle.machine.specs.Machine.{Answers}
use Rattle.machine.specs.Previous.{previous_version}
use Rattle.machine.specs.RollbackRow.{rolled_back, rolled_back_app}
use Rattle.machine.specs.Shape.{shape_of}
use Rattle.machine.specs.Store.{Session, Store}
use Rattle.machine.specs.Valid.{Valid}
use Rattle.machine.proofs.RollbackFacts.{back_keys, previous_by}
use Rattle.machine.proofs.KeptSteps.{step_valid}
use Rattle.store_state.specs.declared.change.Change.TheVariants as change
use Rattle.store_state.specs.Shows.{Shows}
use Rattle.store_state.specs.Tables.{Tables}
use Rattle.store_state.proofs.RolledBack.{shows_rolled_back}
use Rattle.store_state.proofs.ShownTables.{shape_shown}
use Rattle.links.specs.Links.{LinksState}
use Rattle.install_plan.proofs.Entry.{entry_same}
use Rattle.install_plan.specs.LeadsIn.{LeadsIn, no_bytes}
use Rattle.updater.specs.declared.rollback_step.RollbackStep.{RollbackStep}
use Rattle.updater.specs.RollbackStep.{IsRollbackStep}
use Rattle.updater.specs.KeepsChange.{LeadsBetween}
use Rattle.updater.proofs.ChangedStores.{leads_none}
use Rattle.updater.proofs.CommandEnds.{Does, effect_answers}

module _ (now : ℕ) (key : Key) (room : Room) (tables : Tables) (image : List ℕ)
    (before after : LinksState) (old : Session) (no_jobs : old.jobs ≡ []) (shows : Shows room tables image old.store)
    (valid : Valid old.store) (is_key : IsKey key) (moment : now ≤ NUMBER_LIMIT)
    (going : RollbackStep) (is : IsRollbackStep key tables going) where
  abbrev reply : Reply
  reply = says.Current going.version

  abbrev new : Session
  new = record old { store = rolled_back key is.have old.store }

  same_apps : old.store.apps ≡ tables.apps
  same_apps = ap (λ (s : Store). s.apps) shows.is

  in_order : AreInOrder tables.apps
  in_order = subst AreInOrder same_apps valid.ordered.order

  earlier : previous_version key (shape_of old) ≡ Some going.version
  earlier = ap (previous_version key) (shape_shown old no_jobs shows) ∙ is.previous room

  step : Answers now [] old (command.Rollback key) reply new
  step = effect_answers now [] room tables old (shape_shown old no_jobs shows) (command.Rollback key) reply new
      (is.passes now room) (record {
        have = is.have;
        current = ap (current_version key) (shape_shown old no_jobs shows) ∙ is.current room;
        version = going.version;
        previous = earlier;
        replied = refl;
        is = refl;
      })

  abbrev leads : LeadsBetween (change.Rollback going.app) tables image old.store new.store
  leads = record {
    bytes = no_bytes;
    shows = subst
        (λ (n : Room). LeadsIn n (change.Rollback going.app) tables image no_bytes new.store)
        (sym (ap (λ (s : Store). s.room) shows.is))
        (leads_none image (λ later same. shows_rolled_back room tables key going.app is.have image
        later old.store shows same in_order is.app (is.current room)));
    valid = step_valid now old (Line (command.Rollback key) now (record { texts = [] }))
        (Some reply) new (is_key, moment)
        (record { moment = refl; hears = refl; answer = reply; replied = refl; answers = step })
        valid;
  }

  -- the application had a previous view, and has none then
  other : new.store ≢ old.store
  other same =
      let by = previous_by key old.store going.version earlier in
      none-some by.0 (ap (λ (app : AppState). app.previous)
      (entry_same key (rolled_back_app is.have) by.1 (back_keys is.have) old.store.apps by.2
      (ap (λ (s : Store). s.apps) same)) ∙ by.3)

  pub rolled_back_does : {Left : List ℕ → Type 0} → Does now [] (command.Rollback key) before after
      (change.Rollback going.app) tables image Left old reply
  rolled_back_does = record {
    new = new;
    step = step;
    leads = leads;
    brings = λ later left. record { measured = tt; are = refl };
    other = other;
    served = tt;
  }
