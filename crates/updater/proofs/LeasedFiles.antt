-- The file that is read on a lease.
use Rattle.std.proofs.Common.{◌≡◌, ◌∙◌, ℕ, List, [], length, map, false, Option, Some, None, IsSome, inl, inr, refl, sym, ap, subst}
use Rattle.std.specs.Prelude.{bytes_eq, is_some, option_and_then, option_map}
use Rattle.small_types.specs.declared.room.Room.{Room}
use Rattle.manifests.specs.declared.facts.FileEntry.{FileEntry}
use Rattle.machine.specs.declared.command.Command.TheVariants as command
use Rattle.machine.specs.declared.lease.Lease.{Lease}
use Rattle.machine.specs.declared.reply.Reply.TheVariants as says
use Rattle.machine.specs.Leases.{lease_of}
use Rattle.machine.specs.Machine.{Answers, refusals}
use Rattle.machine.specs.ReadRow.{LacksFile, entry_named, file_named, part}
use Rattle.machine.specs.Rows.{PassesAll, Refuses}
use Rattle.machine.specs.Shape.{BareView}
use Rattle.machine.specs.Store.{Session}
use Rattle.machine.specs.Views.{ListedFile, standing_entries}
use Rattle.machine.proofs.FirstFound.{find-map}
use Rattle.store_state.specs.declared.view.Content.{Content}
use Rattle.store_state.specs.declared.view.View.{View}
use Rattle.store_state.specs.Contents.{content_of}
use Rattle.store_state.specs.Kept.{AreTables}
use Rattle.store_state.specs.Named.{content_at, named_at, named_in}
use Rattle.store_state.specs.Rows.{leased_row, row_at}
use Rattle.store_state.specs.Shows.{Shows, bytes_in, shown_file, shown_view}
use Rattle.store_state.specs.Stored.{content_bytes}
use Rattle.store_state.specs.Tables.{Tables, bare_row, table_shape}
use Rattle.store_state.proofs.ContentsNamed.{contents_named}
use Rattle.store_state.proofs.ShownTables.{shape_shown}
use Rattle.links.specs.Links.{LinksState}
use Rattle.updater.specs.Leased.{IsLeasedFile, KeepsView}
use Rattle.updater.proofs.CommandEnds.{LeavesStore, effect_answers}
use Rattle.updater.proofs.ShownViews.{leased_bare_row, leased_shown}

file_shown : (room : Room) (image : List ℕ) (contents : List Content) (name : List ℕ)
    (entries : List FileEntry)
    → file_named name (map (shown_file room image contents) entries)
    ≡ option_map (shown_file room image contents) (entry_named name entries)
file_shown room image contents name entries =
    find-map (shown_file room image contents) (λ (file : ListedFile). bytes_eq file.entry.name name)
    entries

none_of : {X : Type 0} (o : Option X) → is_some o ≡ false → o ≡ None
none_of None is = refl
none_of (Some x) is = absurd cc

module _ (number : ℕ) (name : List ℕ) (tables : Tables) where
  row_of : (lease : Lease) (row : Option View) → Some lease ≡ lease_of number tables.leases
      → row_at lease.view tables.views ≡ row → leased_row number tables ≡ row
  row_of lease row found is =
      ap (λ (o : Option Lease). option_and_then (λ (l : Lease). row_at l.view tables.views) o)
      (sym found) ∙ is

  -- a content that is found is that of a file of the leased view
  pub file_of : (lease : Lease) (content : Content) → Some lease ≡ lease_of number tables.leases
      → Some content ≡ content_at lease.view name tables
      → IsLeasedFile number name tables content
  file_of lease content found is = by (row_at lease.view tables.views) refl is
    where
      in_row : (row : View) (entry : Option FileEntry) → row_at lease.view tables.views ≡ Some row
          → named_in name row ≡ entry
          → Some content ≡ option_and_then (content_of tables.contents) entry
          → IsLeasedFile number name tables content
      in_row row None at named is = absurd cc
      in_row row (Some entry) at named is = record {
        row = row;
        leased = row_of lease (Some row) found at;
        entry = entry;
        named = named;
        is = sym is;
      }

      by : (row : Option View) → row_at lease.view tables.views ≡ row
          → Some content
          ≡ option_and_then (content_of tables.contents) (option_and_then (named_in name) row)
          → IsLeasedFile number name tables content
      by None at is = absurd cc
      by (Some row) at is = in_row row (named_in name row) at refl is

  -- ---- refusals

  module _ (now : ℕ) (room : Room) (from count : ℕ) (old : Session) where
    pub no_lease : None ≡ lease_of number tables.leases
        → Refuses (refusals now [] (table_shape room tables)
        (command.Read number name from count)) old says.NoLease old
    no_lease none = inl ((sym none, refl), refl)

    -- the view is among those of the tables, and has no such file
    pub no_file : AreTables tables → (lease : Lease) → Some lease ≡ lease_of number tables.leases
        → None ≡ content_at lease.view name tables → KeepsView number tables
        → Refuses (refusals now [] (table_shape room tables)
        (command.Read number name from count)) old says.NoFile old
    no_file are lease found none keeps =
        inr (is_leased, inl ((by (row_at lease.view tables.views) refl unnamed, refl), refl))
      where
        is_leased : ¬ (lease_of number tables.leases ≡ None)
        is_leased other = let clash : Some lease ≡ None = found ∙ other in cc

        -- each file has its content
        unnamed : named_at lease.view name tables ≡ None
        unnamed =
            none_of (named_at lease.view name tables)
            (sym (contents_named tables lease.view name are) ∙ ap is_some (sym none))

        by : (row : Option View) → row_at lease.view tables.views ≡ row
            → option_and_then (named_in name) row ≡ None
            → LacksFile number name (table_shape room tables)
        by None at is =
            absurd (let some : IsSome {T = View} None =
            subst (λ (o : Option View). IsSome o) (row_of lease None found at)
            (keeps (subst (λ (o : Option Lease). IsSome o) found refl)) in cc)
        by (Some row) at is = (
          bare_row row,
          leased_bare_row number room tables
              ∙ ap (option_map bare_row) (row_of lease (Some row) found at),
          is,
        )

  -- a file that is found is passed by both
  file_passes : (now : ℕ) (room : Room) (from count : ℕ) (content : Content)
      → IsLeasedFile number name tables content
      → PassesAll (refusals now [] (table_shape room tables)
      (command.Read number name from count))
  file_passes now room from count content file = (is_leased, (has_file, tt))
    where
      is_leased : ¬ (lease_of number tables.leases ≡ None)
      is_leased none =
          let clash : None ≡ Some file.row =
          sym (ap (λ (o : Option Lease).
          option_and_then (λ (l : Lease). row_at l.view tables.views) o) none) ∙ file.leased in cc

      has_file : ¬ (LacksFile number name (table_shape room tables))
      has_file lacks =
          let same : Some lacks.0 ≡ Some (bare_row file.row) =
          sym lacks.1 ∙ leased_bare_row number room tables
          ∙ ap (option_map bare_row) file.leased in
          let view : lacks.0 ≡ bare_row file.row = cc in
          let none : named_in name file.row ≡ None =
          subst
          (λ (v : BareView). entry_named name (standing_entries v.groups v.application) ≡ None)
          view lacks.2 in
          let clash : None ≡ Some file.entry = sym none ∙ file.named in cc

  -- ---- what is read

  pub read_rests : (now : ℕ) (room : Room) (from count : ℕ) (image : List ℕ) (before after : LinksState)
      (old : Session) → old.jobs ≡ [] → Shows room tables image old.store → (content : Content) (shown : List ℕ)
      (size : ℕ) → IsLeasedFile number name tables content
      → size ≡ length (content_bytes room image content)
      → shown ≡ part from count (content_bytes room image content)
      → LeavesStore now [] (command.Read number name from count) before after old (says.Read size shown)
  read_rests now room from count image before after old no_jobs shows content shown size file long is =
      record { new = old; step = step; same = refl; served = tt }
    where
      replied : says.Read size shown
          ≡ says.Read (length (bytes_in room image (content_of tables.contents file.entry)))
          (part from count (bytes_in room image (content_of tables.contents file.entry)))
      replied =
          ap (λ (n : ℕ). says.Read n shown) long
          ∙ ap (says.Read (length (content_bytes room image content))) is
          ∙ ap (λ (o : Option Content). says.Read (length (bytes_in room image o))
          (part from count (bytes_in room image o))) (sym file.is)

      step : Answers now [] old (command.Read number name from count) (says.Read size shown) old
      step = effect_answers now [] room tables old (shape_shown old no_jobs shows)
          (command.Read number name from count) (says.Read size shown) old
          (file_passes now room from count content file) (record {
            view = shown_view room image tables.contents file.row;
            leased = leased_shown shows number
                ∙ ap (option_map (shown_view room image tables.contents)) file.leased;
            file = shown_file room image tables.contents file.entry;
            found = file_shown room image tables.contents name
                (standing_entries file.row.groups file.row.application)
                ∙ ap (option_map (shown_file room image tables.contents)) file.named;
            replied = replied;
            is = refl;
          })
