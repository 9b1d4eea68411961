-- The data files of a leased view, in tables and in the store that they show.
use Rattle.std.proofs.Common.{◌≡◌, ◌∙◌, inl, inr, refl, sym, ap, ℕ, List, [], map, length, bytes_eq, Option, Some, None, IsSome}
use Rattle.std.specs.Prelude.{option_map}
use Rattle.std.proofs.lemmas.Option.{none-some}
use Rattle.small_types.specs.declared.room.Room.{Room}
use Rattle.machine.specs.declared.command.Command.TheVariants as command
use Rattle.machine.specs.declared.reply.Reply.TheVariants as says
use Rattle.machine.specs.DataFiles.{bare_data_named, data_named}
use Rattle.machine.specs.Leases.{lease_of, leased_bare}
use Rattle.machine.specs.LocalRow.{LacksData, local_refusals}
use Rattle.machine.specs.ReadRow.{part}
use Rattle.machine.specs.Rows.{PassesAll, Refuses}
use Rattle.machine.specs.Shape.{BareData, BareView}
use Rattle.machine.specs.Store.{Session}
use Rattle.machine.specs.Views.{DataFile}
use Rattle.machine.proofs.FirstFound.{find-map}
use Rattle.store_state.specs.declared.view.LocalFile.{LocalFile}
use Rattle.store_state.specs.declared.view.View.{View}
use Rattle.store_state.specs.Locals.{local_named}
use Rattle.store_state.specs.Rows.{leased_row, row_at}
use Rattle.store_state.specs.Shows.{Shows, shown_data, shown_view}
use Rattle.store_state.specs.Stored.{data_bytes}
use Rattle.store_state.specs.Tables.{Tables, bare_local, bare_row, table_shape}
use Rattle.store_state.proofs.ShownTables.{shape_shown}
use Rattle.links.specs.Links.{LinksState}
use Rattle.install_plan.proofs.LeasedRows.{IsLeased, lease_lives, row_is}
use Rattle.updater.specs.DataFiles.{IsLocalOf}
use Rattle.updater.proofs.CommandEnds.{LeavesStore, effect_answers}
use Rattle.updater.proofs.ShownViews.{leased_bare_row, leased_shown}

-- ---- by name

pub bare_named : (name : List ℕ) (files : List LocalFile)
    → bare_data_named name (map bare_local files) ≡ option_map bare_local (local_named name files)
bare_named name files =
    find-map bare_local (λ (file : BareData). bytes_eq file.name name) files

pub shown_named : (room : Room) (image name : List ℕ) (files : List LocalFile)
    → data_named name (map (shown_data room image) files)
    ≡ option_map (shown_data room image) (local_named name files)
shown_named room image name files =
    find-map (shown_data room image) (λ (file : DataFile). bytes_eq file.name name) files

pub none_there : {X : Type 0} (o : Option X) → IsSome o → o ≡ None → ⊥
none_there {X} None some is = let there : IsSome {T = X} None = some in cc
none_there (Some x) some is = none-some x (sym is)

pub there_some : {X : Type 0} (o : Option X) (x : X) → o ≡ Some x → IsSome o
there_some None x is = absurd (none-some x is)
there_some (Some y) x is = refl

module _ (lease : ℕ) (name : List ℕ) (room : Room) (tables : Tables) where
  module _ (row : View) (leased : leased_row lease tables ≡ Some row) where
    pub bare : leased_bare lease (table_shape room tables) ≡ Some (bare_row row)
    bare = leased_bare_row lease room tables ∙ ap (option_map bare_row) leased

    pub is_leased : IsLeased room tables lease row
    is_leased = record { row = leased; bare = bare }

    pub lives : ¬ (lease_of lease tables.leases ≡ None)
    lives none = lease_lives is_leased none

    pub is_row : row_at row.number tables.views ≡ Some row
    is_row = row_is is_leased

    -- a view that is leased is the row
    pub one_bare : (view : BareView) → leased_bare lease (table_shape room tables) ≡ Some view
        → bare_row row ≡ view
    one_bare view found =
        let same : Some (bare_row row) ≡ Some view = sym bare ∙ found in cc

    pub bare_none : local_named name row.locals ≡ None
        → bare_data_named name (bare_row row).data_files ≡ None
    bare_none none = bare_named name row.locals ∙ ap (option_map bare_local) none

    pub none_bare : (view : BareView) → leased_bare lease (table_shape room tables) ≡ Some view
        → bare_data_named name view.data_files ≡ None → local_named name row.locals ≡ None
    none_bare view found none = by (local_named name row.locals) refl
      where
        shown : option_map bare_local (local_named name row.locals) ≡ None
        shown =
            sym (bare_named name row.locals)
            ∙ ap (λ (v : BareView). bare_data_named name v.data_files) (one_bare view found) ∙ none

        by : (o : Option LocalFile) → local_named name row.locals ≡ o
            → local_named name row.locals ≡ None
        by None is = is
        by (Some file) is =
            absurd (none-some (bare_local file)
            (sym shown ∙ ap (option_map bare_local) is))

  -- ---- refusals

  pub no_lease : (old : Session) → lease_of lease tables.leases ≡ None
      → Refuses (local_refusals lease name (table_shape room tables)) old says.NoLease old
  no_lease old none = inl ((none, refl), refl)

  pub no_file : (old : Session) (row : View) → leased_row lease tables ≡ Some row
      → local_named name row.locals ≡ None
      → Refuses (local_refusals lease name (table_shape room tables)) old says.NoFile old
  no_file old row leased none =
      inr (
        lives row leased,
        inl (((bare_row row, bare row leased, bare_none row leased none), refl), refl),
      )

  -- a file that is found is passed by both
  pub local_passes : (row : View) → leased_row lease tables ≡ Some row
      → IsSome (local_named name row.locals)
      → PassesAll (local_refusals lease name (table_shape room tables))
  local_passes row leased there = (lives row leased, (has, tt))
    where
      has : ¬ (LacksData lease name (table_shape room tables))
      has lacks =
          none_there (local_named name row.locals) there (none_bare row leased lacks.0 lacks.1 lacks.2)

  -- ---- what is read

  pub data_rests : (now from count : ℕ) (image : List ℕ) (before after : LinksState)
      (old : Session) → old.jobs ≡ [] → Shows room tables image old.store → (file : LocalFile)
      → IsLocalOf lease name tables file → (size : ℕ) (shown : List ℕ)
      → size ≡ length (data_bytes room image file) → shown
      ≡ part from count (data_bytes room image file)
      → LeavesStore now [] (command.Local lease name from count) before after old (says.Read size shown)
  data_rests now from count image before after old no_jobs shows file of size shown long is = record {
    new = old;
    step = effect_answers now [] room tables old (shape_shown old no_jobs shows)
        (command.Local lease name from count) (says.Read size shown) old
        (local_passes of.row of.leased (there_some (local_named name of.row.locals) file of.found))
        (record {
          view = shown_view room image tables.contents of.row;
          leased = leased_shown shows lease
              ∙ ap (option_map (shown_view room image tables.contents)) of.leased;
          file = shown_data room image file;
          found = shown_named room image name of.row.locals
              ∙ ap (option_map (shown_data room image)) of.found;
          replied = ap (λ (n : ℕ). says.Read n shown) long
              ∙ ap (says.Read (length (data_bytes room image file))) is;
          is = refl;
        });
    same = refl;
    served = tt;
  }
