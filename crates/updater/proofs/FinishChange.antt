-- A finish: the step that it is, and the change that it makes.
use Rattle.std.proofs.Common.{◌≡◌, ◌≤◌, ◌∙◌, ℕ, List, [], Option, Some, None, IsSome, refl, sym, ap, subst}
use Rattle.small_types.specs.declared.room.Room.{Room}
use Rattle.small_types.specs.declared.limits.TheConstants.{NUMBER_LIMIT}
use Rattle.machine.specs.declared.command.Command.TheVariants as command
use Rattle.machine.specs.declared.event.Event.TheVariants.{Line}
use Rattle.machine.specs.declared.lease.Lease.{Lease}
use Rattle.machine.specs.declared.reply.Reply.TheVariants as says
use Rattle.machine.specs.FinishRow.{finished}
use Rattle.machine.specs.Leases.{lease_of}
use Rattle.machine.specs.Machine.{Answers, refusals}
use Rattle.machine.specs.Rows.{PassesAll}
use Rattle.machine.specs.Store.{Session, Store, plain_room}
use Rattle.machine.specs.Valid.{Valid}
use Rattle.machine.proofs.LeaseLists.{lease_gone}
use Rattle.machine.proofs.KeptSteps.{step_valid}
use Rattle.store_state.specs.declared.change.Change.TheVariants as change
use Rattle.store_state.specs.Change.{Fits}
use Rattle.store_state.specs.Shows.{Shows}
use Rattle.store_state.specs.Tables.{Tables, table_shape}
use Rattle.store_state.proofs.ShownTables.{shape_shown, shows_finished}
use Rattle.links.specs.Links.{LinksState}
use Rattle.install_plan.specs.LeadsIn.{LeadsIn, no_bytes}
use Rattle.updater.specs.KeepsChange.{LeadsBetween}
use Rattle.updater.proofs.ChangedStores.{leads_none}
use Rattle.updater.proofs.CommandEnds.{Does, effect_answers}

-- it fits where the row's refusal is passed
pub finished_fits : (tables : Tables) (lease : ℕ)
    → ((now : ℕ) (room : Room)
    → PassesAll (refusals now [] (table_shape room tables) (command.Finish lease)))
    → Fits tables (change.Finish lease)
finished_fits tables lease passes = by (lease_of lease tables.leases) (passes 0 (plain_room 0)).0
  where
    by : (found : Option Lease) → ¬ (found ≡ None) → IsSome found
    by None some = absurd (some refl)
    by (Some found) some = refl

module _ (now lease : ℕ) (room : Room) (tables : Tables) (image : List ℕ) (before after : LinksState)
    (old : Session) (no_jobs : old.jobs ≡ []) (shows : Shows room tables image old.store) (valid : Valid old.store)
    (few : lease ≤ NUMBER_LIMIT) (moment : now ≤ NUMBER_LIMIT)
    (passes : PassesAll (refusals now [] (table_shape room tables) (command.Finish lease))) where
  abbrev new : Session
  new = record old { store = finished lease old.store }

  step : Answers now [] old (command.Finish lease) (says.Finished lease) new
  step = effect_answers now [] room tables old (shape_shown old no_jobs shows) (command.Finish lease)
      (says.Finished lease) new passes (refl, refl)

  abbrev leads : LeadsBetween (change.Finish lease) tables image old.store new.store
  leads = record {
    bytes = no_bytes;
    shows = subst
        (λ (n : Room). LeadsIn n (change.Finish lease) tables image no_bytes new.store)
        (sym (ap (λ (s : Store). s.room) shows.is))
        (leads_none image (λ later same. shows_finished later lease same shows));
    valid = step_valid now old (Line (command.Finish lease) now (record { texts = [] }))
        (Some (says.Finished lease)) new (few, moment)
        (record {
          moment = refl;
          hears = refl;
          answer = says.Finished lease;
          replied = refl;
          answers = step;
        }) valid;
  }

  pub finished_does : {Left : List ℕ → Type 0} → Does now [] (command.Finish lease) before after (change.Finish lease)
      tables image Left old (says.Finished lease)
  finished_does = record {
    new = new;
    step = step;
    leads = leads;
    brings = λ later left. record { measured = tt; are = refl };
    other = λ same. passes.0 (ap (λ (s : Store). lease_of lease s.leases) (sym shows.is)
        ∙ ap (λ (s : Store). lease_of lease s.leases) (sym same)
        ∙ lease_gone lease old.store.leases);
    served = tt;
  }
