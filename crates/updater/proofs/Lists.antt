-- What is shown of applications: the steps that change nothing.
use Rattle.std.proofs.Common.{◌≡◌, ◌∙◌, ℕ, List, [], map, Some, None, inl, refl, sym, ap}
use Rattle.std.proofs.lemmas.Option.{none-some}
use Rattle.small_types.specs.declared.room.Room.{Room}
use Rattle.identity.specs.declared.key.Key.{Key}
use Rattle.machine.specs.declared.app.AppState.{AppState}
use Rattle.machine.specs.declared.command.Command.TheVariants as command
use Rattle.machine.specs.declared.reply.Reply.TheVariants as says
use Rattle.machine.specs.declared.rows.ListRow.{ListRow}
use Rattle.machine.specs.declared.rows.ShowRow.{ShowRow}
use Rattle.machine.specs.Entries.{entry_of}
use Rattle.machine.specs.ListRow.{list_row}
use Rattle.machine.specs.Rows.{Refuses}
use Rattle.machine.specs.Shape.{Shape}
use Rattle.machine.specs.ShowRow.{show_refusals, show_row}
use Rattle.machine.specs.Store.{Session, Store, plain_room}
use Rattle.store_state.specs.Shows.{Shows}
use Rattle.store_state.specs.Tables.{Tables, table_shape}
use Rattle.store_state.proofs.ShownTables.{shape_shown}
use Rattle.links.specs.Links.{LinksState}
use Rattle.updater.proofs.CommandEnds.{LeavesStore, effect_answers}

-- a key that has no entry
pub not_shown : (key : Key) (room : Room) (tables : Tables) (old : Session)
    → entry_of key tables.apps ≡ None
    → Refuses (show_refusals key (table_shape room tables)) old says.NotInstalled old
not_shown key room tables old none = inl ((none, refl), refl)

module _ (now : ℕ) (room : Room) (tables : Tables) (image : List ℕ) (before after : LinksState)
    (old : Session) (no_jobs : old.jobs ≡ []) (shows : Shows room tables image old.store) where
  same_apps : tables.apps ≡ old.store.apps
  same_apps = sym (ap (λ (s : Store). s.apps) shows.is)

  pub listed_rests : (rows : List ListRow)
      → rows ≡ map (list_row (table_shape (plain_room 0) tables)) tables.apps
      → LeavesStore now [] command.List before after old (says.Listed rows)
  listed_rests rows is = record {
    new = old;
    step = effect_answers now [] room tables old (shape_shown old no_jobs shows) command.List
        (says.Listed rows) old tt (
          ap says.Listed (is
              ∙ ap (map (list_row (table_shape room tables))) same_apps
              ∙ ap (λ (s : Shape). map (list_row s) old.store.apps) (sym (shape_shown old no_jobs shows))),
          refl,
        );
    same = refl;
    served = tt;
  }

  pub shown_rests : (key : Key) (app : AppState) (row : ShowRow)
      → entry_of key tables.apps ≡ Some app → row ≡ show_row (table_shape (plain_room 0) tables) app
      → LeavesStore now [] (command.Show key) before after old (says.Shown row)
  shown_rests key app row known is = record {
    new = old;
    step = effect_answers now [] room tables old (shape_shown old no_jobs shows) (command.Show key)
        (says.Shown row) old
        ((λ none. none-some app (sym none ∙ known)), tt)
        (record {
          app = app;
          known = ap (entry_of key) (sym same_apps) ∙ known;
          replied = ap says.Shown (is
              ∙ ap (λ (s : Shape). show_row s app) (sym (shape_shown old no_jobs shows)));
          is = refl;
        });
    same = refl;
    served = tt;
  }
