-- A skip: the step that it is, and the change that it makes.
use Rattle.std.proofs.Common.{◌≡◌, ◌≤◌, ◌∙◌, ℕ, true, false, List, [], Option, Some, refl, sym, ap, subst}
use Rattle.std.specs.Prelude.{option_and_then}
use Rattle.small_types.specs.declared.room.Room.{Room}
use Rattle.small_types.specs.declared.limits.TheConstants.{NUMBER_LIMIT}
use Rattle.identity.specs.declared.key.Key.{Key}
use Rattle.identity.specs.Key.{IsKey}
use Rattle.machine.specs.declared.app.AppState.{AppState}
use Rattle.machine.specs.declared.command.Command.TheVariants as command
use Rattle.machine.specs.declared.event.Event.TheVariants.{Line}
use Rattle.machine.specs.declared.reply.Reply.{Reply}
use Rattle.machine.specs.declared.reply.Reply.TheVariants as says
use Rattle.machine.specs.Entries.{AreInOrder, with_entry}
use Rattle.machine.specs.Machine.{Answers}
use Rattle.machine.specs.SkipRow.{offer_of, skipped, skipped_app}
use Rattle.machine.specs.Store.{Session, Store}
use Rattle.machine.specs.Valid.{Valid}
use Rattle.machine.proofs.SkipFacts.{skips_keys}
use Rattle.machine.proofs.KeptSteps.{step_valid}
use Rattle.store_state.specs.declared.change.Change.TheVariants as change
use Rattle.store_state.specs.Shows.{Shows}
use Rattle.store_state.specs.Tables.{Tables}
use Rattle.store_state.proofs.CheckedApps.{shows_skipped}
use Rattle.store_state.proofs.ShownTables.{shape_shown}
use Rattle.links.specs.Links.{LinksState}
use Rattle.install_plan.proofs.Entry.{entry_same, entry_stays}
use Rattle.install_plan.specs.LeadsIn.{LeadsIn, no_bytes}
use Rattle.updater.specs.declared.skip_step.SkipStep.{SkipStep}
use Rattle.updater.specs.KeepsChange.{LeadsBetween}
use Rattle.updater.specs.SkipStep.{IsSkipStep}
use Rattle.updater.proofs.ChangedStores.{leads_none}
use Rattle.updater.proofs.CommandEnds.{Does, LeavesStore, effect_answers}

skipped_same : (app : AppState) → app.skipped ≡ app.offer → skipped_app app ≡ app
skipped_same app is = ap (λ v. record app { skipped = v }) (sym is)

module _ (now : ℕ) (key : Key) (room : Room) (tables : Tables) (image : List ℕ)
    (before after : LinksState) (old : Session) (no_jobs : old.jobs ≡ []) (shows : Shows room tables image old.store)
    (valid : Valid old.store) (is_key : IsKey key) (moment : now ≤ NUMBER_LIMIT)
    (skipping : SkipStep) (is : IsSkipStep key now tables skipping) where
  abbrev reply : Reply
  reply = says.Skipped skipping.offer

  abbrev new : Session
  new = record old { store = skipped key old.store }

  same_apps : old.store.apps ≡ tables.apps
  same_apps = ap (λ (s : Store). s.apps) shows.is

  offered : offer_of key tables.apps ≡ Some skipping.offer
  offered =
      ap (λ (o : Option AppState). option_and_then (λ (app : AppState). app.offer) o) is.entry
      ∙ is.offered

  in_order : AreInOrder tables.apps
  in_order = subst AreInOrder same_apps valid.ordered.order

  step : Answers now [] old (command.Skip key) reply new
  step = effect_answers now [] room tables old (shape_shown old no_jobs shows) (command.Skip key) reply new
      (is.passes room) (record {
        offer = skipping.offer;
        offered = ap (offer_of key) same_apps ∙ offered;
        replied = refl;
        is = refl;
      })

  -- what is skipped already stays so
  pub skipped_rests : skipping.stands ≡ true
      → LeavesStore now [] (command.Skip key) before after old reply
  skipped_rests stands = record {
    new = new;
    step = step;
    same = ap (λ (apps : List AppState). record old.store { apps = apps })
        (subst (λ (apps : List AppState). with_entry key skipped_app apps ≡ apps) (sym same_apps)
        (entry_stays key skipped_app is.known tables.apps is.entry
        (skipped_same is.known (is.stands stands))));
    served = tt;
  }

  abbrev leads : LeadsBetween (change.Skip skipping.app) tables image old.store new.store
  leads = record {
    bytes = no_bytes;
    shows = subst
        (λ (n : Room). LeadsIn n (change.Skip skipping.app) tables image no_bytes new.store)
        (sym (ap (λ (s : Store). s.room) shows.is))
        (leads_none image (λ later same. shows_skipped room tables key skipping.app skipping.offer
        image later old.store shows same in_order is.app offered));
    valid = step_valid now old (Line (command.Skip key) now (record { texts = [] })) (Some reply)
        new (is_key, moment)
        (record { moment = refl; hears = refl; answer = reply; replied = refl; answers = step })
        valid;
  }

  pub skipped_does : {Left : List ℕ → Type 0} → skipping.stands ≡ false
      → Does now [] (command.Skip key) before after (change.Skip skipping.app) tables image Left
      old reply
  skipped_does stands = record {
    new = new;
    step = step;
    leads = leads;
    brings = λ later left. record { measured = tt; are = refl };
    other = λ same. is.other stands (sym (ap (λ (app : AppState). app.skipped)
        (entry_same key skipped_app is.known skips_keys tables.apps is.entry
        (subst (λ (apps : List AppState). with_entry key skipped_app apps ≡ apps) same_apps
        (ap (λ (s : Store). s.apps) same)))));
    served = tt;
  }
