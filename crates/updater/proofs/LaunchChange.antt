-- A launch: the step that it is, and the change that it makes.
use Rattle.std.proofs.Common.{◌≡◌, ◌≤◌, ◌+◌, ◌∙◌, ℕ, List, [], Option, Some, refl, sym, ap, subst, arith}
use Rattle.std.specs.Prelude.{option_and_then, option_map}
use Rattle.small_types.specs.declared.room.Room.{Room}
use Rattle.small_types.specs.declared.limits.TheConstants.{NUMBER_LIMIT}
use Rattle.identity.specs.declared.key.Key.{Key}
use Rattle.identity.specs.declared.version.Version.{Version}
use Rattle.identity.specs.Key.{IsKey}
use Rattle.machine.specs.declared.app.AppState.{AppState}
use Rattle.machine.specs.declared.command.Command.TheVariants as command
use Rattle.machine.specs.declared.due.Due.TheVariants.{Clear}
use Rattle.machine.specs.declared.event.Event.TheVariants.{Line}
use Rattle.machine.specs.declared.reply.Reply.{Reply}
use Rattle.machine.specs.declared.reply.Reply.TheVariants as says
use Rattle.machine.specs.Current.{current_of, current_view}
use Rattle.machine.specs.Due.{due}
use Rattle.machine.specs.Entries.{AreInOrder}
use Rattle.machine.specs.LaunchRow.{launched}
use Rattle.machine.specs.Machine.{Answers}
use Rattle.machine.specs.Shape.{Shape}
use Rattle.machine.specs.Store.{Session, Store}
use Rattle.machine.specs.Valid.{Valid}
use Rattle.machine.specs.Views.{View as KeptView}
use Rattle.machine.proofs.Leased.{current_entry}
use Rattle.machine.proofs.KeptSteps.{step_valid}
use Rattle.store_state.specs.declared.change.Change.TheVariants as change
use Rattle.store_state.specs.Shows.{Shows, shown_view}
use Rattle.store_state.specs.Tables.{Tables}
use Rattle.store_state.proofs.ShownTables.{shape_shown, shows_launched}
use Rattle.links.specs.Links.{LinksState}
use Rattle.install_plan.proofs.Currents.{current_shown}
use Rattle.install_plan.specs.LeadsIn.{LeadsIn, no_bytes}
use Rattle.updater.specs.declared.launch_step.LaunchStep.{LaunchStep}
use Rattle.updater.specs.KeepsChange.{LeadsBetween}
use Rattle.updater.specs.LaunchStep.{IsLaunchStep}
use Rattle.updater.proofs.ChangedStores.{leads_none}
use Rattle.updater.proofs.CommandEnds.{Does, effect_answers}

module _ (now : ℕ) (key : Key) (room : Room) (tables : Tables) (image : List ℕ)
    (before after : LinksState) (old : Session) (no_jobs : old.jobs ≡ []) (shows : Shows room tables image old.store)
    (valid : Valid old.store) (is_key : IsKey key) (moment : now ≤ NUMBER_LIMIT)
    (start : LaunchStep) (is : IsLaunchStep key now tables start) where
  abbrev view : KeptView
  view = shown_view room image tables.contents is.row

  abbrev reply : Reply
  reply = says.Lease start.lease start.version start.check_due

  abbrev new : Session
  new = record old { store = launched key is.row.number old.store }

  is_current : current_view key old.store ≡ Some view
  is_current = current_shown shows key
      ∙ ap (option_map (shown_view room image tables.contents)) is.current

  next_shown : old.store.next_lease ≡ tables.next_lease
  next_shown = ap (λ (s : Store). s.next_lease) shows.is

  blocks_shown : old.store.room ≡ room
  blocks_shown = ap (λ (s : Store). s.room) shows.is

  in_order : AreInOrder tables.apps
  in_order = subst (λ (s : Store). AreInOrder s.apps) shows.is valid.ordered.order

  step : Answers now [] old (command.Launch key) reply new
  step = effect_answers now [] room tables old (shape_shown old no_jobs shows) (command.Launch key) reply new
      (is.passes room) (record {
        view = view;
        current = is_current;
        check_due = start.check_due;
        clear = subst (λ (s : Shape). due key s now ≡ Some (Clear start.check_due))
            (sym (shape_shown old no_jobs shows)) (is.clear room);
        replied =
            ap (λ (n : ℕ). says.Lease n start.version start.check_due) (is.lease ∙ sym next_shown)
            ∙ ap (λ (v : Version). says.Lease old.store.next_lease v start.check_due) is.version;
        is = refl;
      })

  -- the application is the one at the place
  number_is : current_of key tables.apps ≡ Some is.row.number
  number_is =
      let app = current_entry key old.store view is_current in
      ap (λ (s : Store). current_of key s.apps) (sym shows.is)
      ∙ ap (λ (o : Option AppState). option_and_then (λ (a : AppState). a.current) o) app.1
      ∙ app.2

  abbrev leads : LeadsBetween (change.Launch start.app) tables image old.store new.store
  leads = record {
    bytes = no_bytes;
    shows = subst
        (λ (n : Room). LeadsIn n (change.Launch start.app) tables image no_bytes new.store)
        (sym blocks_shown)
        (leads_none image (λ later same. shows_launched room tables key start.app is.row.number image
        later old.store shows same in_order is.app number_is));
    valid = step_valid now old (Line (command.Launch key) now (record { texts = [] })) (Some reply)
        new (is_key, moment)
        (record { moment = refl; hears = refl; answer = reply; replied = refl; answers = step })
        valid;
  }

  pub launched_does : {Left : List ℕ → Type 0} → Does now [] (command.Launch key) before after (change.Launch start.app)
      tables image Left old reply
  launched_does = record {
    new = new;
    step = step;
    leads = leads;
    brings = λ later left. record { measured = tt; are = refl };
    other = λ same. (let more : old.store.next_lease + 1 ≡ old.store.next_lease =
        ap (λ (s : Store). s.next_lease) same in omega arith);
    served = tt;
  }
