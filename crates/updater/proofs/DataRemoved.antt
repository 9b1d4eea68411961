-- A removal of a data file: the step that it is, and the change that it makes.
use Rattle.std.proofs.Common.{◌≡◌, ◌≤◌, ◌∙◌, ℕ, List, [], Option, Some, None, IsSome, refl, sym, ap, subst}
use Rattle.std.specs.Prelude.{option_and_then, option_map}
use Rattle.small_types.specs.declared.room.Room.{Room}
use Rattle.small_types.specs.declared.limits.TheConstants.{NUMBER_LIMIT}
use Rattle.small_types.specs.Name.{IsName}
use Rattle.machine.specs.declared.command.Command.TheVariants as command
use Rattle.machine.specs.declared.event.Event.TheVariants.{Line}
use Rattle.machine.specs.declared.reply.Reply.TheVariants as says
use Rattle.machine.specs.DataFiles.{data_named, removed_in}
use Rattle.machine.specs.DataLaws.{HasData, RemovedFilesAreGone}
use Rattle.machine.specs.Leases.{leased_view}
use Rattle.machine.specs.Machine.{Answers}
use Rattle.machine.specs.Store.{Session, Store, plain_room}
use Rattle.machine.specs.Valid.{Valid}
use Rattle.machine.specs.Views.{DataFile}
use Rattle.machine.specs.Views.{View as KeptView}
use Rattle.machine.proofs.KeptSteps.{step_valid}
use Rattle.store_state.specs.declared.change.Change.TheVariants as change
use Rattle.store_state.specs.declared.view.LocalFile.{LocalFile}
use Rattle.store_state.specs.declared.view.View.{View}
use Rattle.store_state.specs.Change.{Fits}
use Rattle.store_state.specs.Laws.{RemovalsShowTheRest}
use Rattle.store_state.specs.Locals.{local_at, local_named}
use Rattle.store_state.specs.Rows.{leased_row}
use Rattle.store_state.specs.Shows.{Shows, shown_data, shown_view}
use Rattle.store_state.specs.Tables.{Tables}
use Rattle.store_state.proofs.ShownTables.{shape_shown}
use Rattle.links.specs.Links.{LinksState}
use Rattle.install_plan.specs.LeadsIn.{LeadsIn, no_bytes}
use Rattle.updater.specs.DataFiles.{IsRemoval}
use Rattle.updater.specs.KeepsChange.{LeadsBetween}
use Rattle.updater.proofs.ChangedStores.{leads_none}
use Rattle.updater.proofs.CommandEnds.{Does, effect_answers}
use Rattle.updater.proofs.LeasedData.{is_row, local_passes, none_there, shown_named}
use Rattle.updater.proofs.ShownViews.{leased_shown}

-- where the store stays, the leased view had under the name what it has now
pub still_named : {room : Room} {tables : Tables} {image : List ℕ} {old new : Store}
    → Shows room tables image old → (lease : ℕ) (name : List ℕ) (file : Option DataFile)
    (row : View) → leased_row lease tables ≡ Some row → HasData lease name file old new
    → new ≡ old → option_map (shown_data room image) (local_named name row.locals) ≡ file
still_named {room = room} {tables = tables} {image = image} {old = old} shows lease name file row
    leased has same =
    let found : leased_view lease old ≡ Some (shown_view room image tables.contents row) =
    leased_shown shows lease ∙ ap (option_map (shown_view room image tables.contents)) leased in
    let one : Some (shown_view room image tables.contents row) ≡ Some has.later =
    sym found ∙ sym (ap (leased_view lease) same) ∙ has.after in
    let is : shown_view room image tables.contents row ≡ has.later = cc in
    sym (shown_named room image name row.locals)
    ∙ ap (λ (view : KeptView). data_named name view.data_files) is ∙ has.there

none_shown : (room : Room) (image : List ℕ) (o : Option LocalFile) → IsSome o
    → option_map (shown_data room image) o ≡ None → ⊥
none_shown room image o there none = by o refl
  where
    by : (p : Option LocalFile) → o ≡ p → ⊥
    by None is = none_there o there is
    by (Some file) is =
        let clash : Some (shown_data room image file) ≡ None =
        sym (ap (option_map (shown_data room image)) is) ∙ none in cc

-- it fits where the view has such a file
pub removal_fits : (lease : ℕ) (name : List ℕ) (tables : Tables) (number : ℕ)
    → IsRemoval lease name tables number → Fits tables (change.Remove number name)
removal_fits lease name tables number of =
    subst (λ (o : Option LocalFile). IsSome o)
    (sym (ap (λ (n : ℕ). local_at n name tables) of.numbered
    ∙ ap (λ (o : Option View). option_and_then (λ (view : View). local_named name view.locals) o)
    (is_row lease name (plain_room 0) tables of.row of.leased))) of.there

module _ (now lease : ℕ) (room : Room) (name : List ℕ) (tables : Tables) (image : List ℕ)
    (before after : LinksState) (old : Session) (no_jobs : old.jobs ≡ []) (shows : Shows room tables image old.store)
    (valid : Valid old.store) (words : (lease ≤ NUMBER_LIMIT) × IsName name)
    (moment : now ≤ NUMBER_LIMIT) (number : ℕ) (of : IsRemoval lease name tables number)
    (rest : RemovalsShowTheRest) (gone : RemovedFilesAreGone) where
  abbrev new : Session
  new = record old { store = removed_in of.row.number name old.store }

  step : Answers now [] old (command.Remove lease name) says.Removed new
  step = effect_answers now [] room tables old (shape_shown old no_jobs shows) (command.Remove lease name)
      says.Removed new (local_passes lease name room tables of.row of.leased of.there) (record {
        view = shown_view room image tables.contents of.row;
        leased = leased_shown shows lease
            ∙ ap (option_map (shown_view room image tables.contents)) of.leased;
        replied = refl;
        is = refl;
      })

  abbrev leads : LeadsBetween (change.Remove number name) tables image old.store new.store
  leads = record {
    bytes = no_bytes;
    shows = subst
        (λ (n : Room). LeadsIn n (change.Remove number name) tables image no_bytes new.store)
        (sym (ap (λ (s : Store). s.room) shows.is))
        (subst (λ (n : ℕ). LeadsIn room (change.Remove n name) tables image no_bytes new.store)
        (sym of.numbered)
        (leads_none image (λ later same. rest room tables of.row.number name image later old.store
        shows same)));
    valid = step_valid now old (Line (command.Remove lease name) now (record { texts = [] }))
        (Some says.Removed) new (words, moment)
        (record {
          moment = refl;
          hears = refl;
          answer = says.Removed;
          replied = refl;
          answers = step;
        }) valid;
  }

  pub removal_does : {Left : List ℕ → Type 0} → Does now [] (command.Remove lease name) before after
      (change.Remove number name) tables image Left old says.Removed
  removal_does = record {
    new = new;
    step = step;
    leads = leads;
    brings = λ later left. record { measured = tt; are = refl };
    other = λ same. none_shown room image (local_named name of.row.locals) of.there
        (still_named shows lease name None of.row of.leased
        (gone now [] old lease name new valid step) same);
    served = tt;
  }
