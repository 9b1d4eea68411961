-- The view that is leased, in tables and in a sound store that they show.
use Rattle.std.proofs.Common.{◌≡◌, ◌∙◌, ℕ, true, inl, eqb, eqb-true, List, map, Option, Some, None, IsSome, refl, sym, ap, subst}
use Rattle.std.specs.Prelude.{option_and_then, option_map}
use Rattle.std.proofs.lemmas.Option.{none-some}
use Rattle.small_types.specs.declared.room.Room.{Room}
use Rattle.manifests.specs.declared.facts.FileEntry.{FileEntry}
use Rattle.machine.specs.declared.lease.Lease.{Lease}
use Rattle.machine.specs.Blocks.{standing_files}
use Rattle.machine.specs.Current.{view_at}
use Rattle.machine.specs.Fields.{IsApplication}
use Rattle.machine.specs.Groups.{group_wanted}
use Rattle.machine.specs.Leases.{lease_of, leased_bare, leased_view}
use Rattle.machine.specs.Shape.{BareView, bare_view, shape_of}
use Rattle.machine.specs.Sound.{Sound}
use Rattle.machine.specs.Store.{Session, Store}
use Rattle.machine.specs.Valid.{IsView, Ordered}
use Rattle.machine.specs.Views.{ListedFile, same_content, standing_entries}
use Rattle.machine.specs.Views.{View as KeptView}
use Rattle.machine.proofs.FirstFound.{find-map, find_in, then_value}
use Rattle.machine.proofs.Leased.{leased_in, leased_kept, leased_valid}
use Rattle.machine.proofs.Members.{In, all_in, in_all, in_flat_map, in_map}
use Rattle.machine.proofs.OwnContents.{in_passes, is_same}
use Rattle.store_state.specs.declared.view.Content.{Content}
use Rattle.store_state.specs.declared.view.View.{View}
use Rattle.store_state.specs.Rows.{leased_row, row_at}
use Rattle.store_state.specs.Shows.{Shows, shown_view}
use Rattle.store_state.specs.Tables.{Tables, bare_row, table_shape}
use Rattle.links.specs.Links.{LinksState}
use Rattle.install_plan.specs.Brought.{IsFileFrom, IsHeldOrCame}
use Rattle.install_plan.specs.GroupAsked.{AreBrought}

-- it is a view of the tables, that of its own number
pub record IsLeased (room : Room) (tables : Tables) (lease : ℕ) (view : View) : Type 0 where
  pub row : leased_row lease tables ≡ Some view
  pub bare : leased_bare lease (table_shape room tables) ≡ Some (bare_row view)

-- ---- in tables

module _ {room : Room} {tables : Tables} {lease : ℕ} {view : View}
    (leased : IsLeased room tables lease view) where
  named : (one : Lease) × (lease_of lease tables.leases ≡ Some one)
      × (row_at one.view tables.views ≡ Some view)
  named =
      then_value (λ (l : Lease). row_at l.view tables.views) (lease_of lease tables.leases) view
      leased.row

  found : In view tables.views × (eqb view.number named.0.view ≡ true)
  found = find_in (λ (v : View). eqb v.number named.0.view) tables.views view named.2

  pub row_there : In view tables.views
  row_there = found.0

  pub row_is : row_at view.number tables.views ≡ Some view
  row_is =
      ap (λ (n : ℕ). row_at n tables.views) (eqb-true view.number named.0.view found.1) ∙ named.2

  pub lease_lives : lease_of lease tables.leases ≡ None → ⊥
  lease_lives none = none-some named.0 (sym none ∙ named.1)

-- ---- in the store

leased_by : (room : Room) (image : List ℕ) (contents : List Content) (views : List View)
    (lease : Option Lease)
    → option_and_then (λ (l : Lease). view_at l.view (map (shown_view room image contents) views))
    lease
    ≡ option_map (shown_view room image contents)
    (option_and_then (λ (l : Lease). row_at l.view views) lease)
leased_by room image contents views None = refl
leased_by room image contents views (Some lease) =
    find-map (shown_view room image contents) (λ (view : KeptView). eqb view.number lease.view)
    views

module _ {room : Room} {tables : Tables} {image : List ℕ} {store : Store}
    (shows : Shows room tables image store) where
  leased_shown : (lease : ℕ) → leased_view lease store
      ≡ option_map (shown_view room image tables.contents) (leased_row lease tables)
  leased_shown lease =
      ap (leased_view lease) shows.is
      ∙ leased_by room image tables.contents tables.views (lease_of lease tables.leases)

  pub view_shown : {lease : ℕ} {view : View} → IsLeased room tables lease view
      → leased_view lease store ≡ Some (shown_view room image tables.contents view)
  view_shown {lease = lease} leased =
      leased_shown lease ∙ ap (option_map (shown_view room image tables.contents)) leased.row

  pub view_valid : {lease : ℕ} {view : View} → IsLeased room tables lease view → Sound store
      → IsApplication view.application
  view_valid {lease = lease} {view = view} leased sound =
      (leased_valid lease store (shown_view room image tables.contents view) sound.valid.ordered
      (view_shown leased)).application

  -- where no view is leased there is no such lease
  pub no_lease : (lease : ℕ) → Ordered store → leased_row lease tables ≡ None
      → lease_of lease tables.leases ≡ None
  no_lease lease was none = by (lease_of lease tables.leases) refl
    where
      by : (o : Option Lease) → lease_of lease tables.leases ≡ o
          → lease_of lease tables.leases ≡ None
      by None is = is
      by (Some one) is =
          let lives : IsSome (lease_of lease store.leases) =
          subst (λ (s : Store). IsSome (lease_of lease s.leases)) (sym shows.is)
          (subst (λ (o : Option Lease). IsSome o) (sym is) refl) in
          let kept = leased_kept lease store was lives in
          absurd (none-some kept.0
          (sym (leased_shown lease ∙ ap (option_map (shown_view room image tables.contents)) none) ∙
          kept.1))

-- ---- the files of a leased view

-- the program files of a kept view are held by it
pub still_brought : (lease : ℕ) (group : List ℕ) (old : Session) (a c : LinksState)
    → Ordered old.store → AreBrought lease group (shape_of old) a c old.store
still_brought lease group old a c was = record {
  files = λ view leased.
      let there = leased_in lease old.store view leased in
      let is = all_in IsView old.store.views view was.views there in
      in_all (IsHeldOrCame (IsFileFrom a c) (shape_of old)
      (group_wanted (shape_of old).views group view.application) view) view.program_files (λ file of.
      inl (in_passes (same_content file.entry) (standing_files (map bare_view old.store.views))
      file.entry
      (in_flat_map (λ (v : BareView). standing_entries v.groups v.application)
      (map bare_view old.store.views) (bare_view view) file.entry
      (in_map bare_view old.store.views view there)
      (subst (λ (es : List FileEntry). In file.entry es) is.files
      (in_map (λ (f : ListedFile). f.entry) view.program_files file of)))
      (is_same file.entry file.entry refl)));
}
