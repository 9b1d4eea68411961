-- The files of a leased view once a group stands in it: a kept view has their contents, or they
-- came.
use Rattle.std.proofs.Common.{◌≡◌, ◌≢◌, ◌∙◌, ◌⊎◌, ◌++◌, inl, inr, refl, sym, ap, subst, ℕ, Bool, true, false, cond, eq-eqb, List, [], ◌∷◌, map, All, Option, Some, None, IsSome, Ok}
use Rattle.std.specs.Prelude.{Any, option_and_then}
use Rattle.std.proofs.lemmas.Bool.{false≢true}
use Rattle.std.proofs.lemmas.List.Elements.{All-append}
use Rattle.std.proofs.lemmas.Option.{same_Some}
use Rattle.small_types.specs.declared.room.Room.{Room}
use Rattle.small_types.specs.declared.target.Target.{Target}
use Rattle.digest_list.specs.declared.digest.Digest.{Digest}
use Rattle.digest_list.specs.Matches.{Matches}
use Rattle.manifests.specs.declared.facts.FileEntry.{FileEntry}
use Rattle.machine.specs.declared.lease.Lease.{Lease}
use Rattle.machine.specs.Blocks.{standing_files}
use Rattle.machine.specs.Current.{view_at}
use Rattle.machine.specs.Grouped.{AreOfGroup, Grouped, grouped, with_group}
use Rattle.machine.specs.Groups.{group_files, group_stands, group_wanted}
use Rattle.machine.specs.Leases.{leased_view}
use Rattle.machine.specs.Sound.{IsWhole, Sound, program_files_of}
use Rattle.machine.specs.Store.{Store}
use Rattle.machine.specs.Views.{ListedFile, content_key, same_content, standing_entries}
use Rattle.machine.specs.Views.{View as KeptView}
use Rattle.machine.specs.Wanted.{is_held}
use Rattle.machine.proofs.GrownViews.{standing_more}
use Rattle.machine.proofs.GroupKept.{grouped_at}
use Rattle.machine.proofs.GroupStands.{now_stands}
use Rattle.machine.proofs.Leased.{leased_by}
use Rattle.machine.proofs.Members.{In, all_in, in_all, in_contains, map_in}
use Rattle.machine.proofs.OwnContents.{in_passes, is_same}
use Rattle.store_state.specs.declared.view.Content.{Content}
use Rattle.store_state.specs.declared.view.View.{View}
use Rattle.store_state.specs.Contents.{AreContentsOf, Brings, content_of, held_key, is_content_of}
use Rattle.store_state.specs.Laws.{ShowsGroup, came_files, stand_files}
use Rattle.store_state.specs.Shows.{Shows, bytes_in, shown_file, shown_view}
use Rattle.store_state.specs.Stored.{content_bytes}
use Rattle.store_state.specs.Tables.{Tables, bare_row, table_shape}
use Rattle.store_state.proofs.Keyed.{of_key}
use Rattle.links.specs.Links.{LinksState}
use Rattle.install_plan.specs.Brought.{AreContentsFor, IsFileFrom, IsHeldOrCame}
use Rattle.install_plan.specs.Given.{IsFromLeft}
use Rattle.install_plan.specs.GroupAsked.{AreBrought}
use Rattle.install_plan.specs.GroupReady.{address_in}
use Rattle.install_plan.proofs.WantedPlaces.{for_one}
use Rattle.install_plan.proofs.Keyed.{find_right, found}
use Rattle.install_plan.proofs.LeasedRows.{IsLeased, row_there, view_shown}
use Rattle.install_plan.proofs.NewView.{HasBytesIn, files_row, kept_bytes, share_in, whole_after}
use Rattle.install_plan.proofs.InstallContents.{IsWholeContent}
use Rattle.install_plan.proofs.Wants.{in_any}

module _ (room : Room) (tables : Tables) (image : List ℕ) (lease : ℕ) (group : List ℕ)
    (view : View) (leased : IsLeased room tables lease view) (contents : List Content)
    (are : AreContentsOf (standing_files (map bare_row tables.views)) tables.contents)
    (brings : Brings tables.contents (group_files group view.application) contents) where
  abbrev held : List FileEntry
  held = standing_files (map bare_row tables.views)

  abbrev after : List Content
  after = tables.contents ++ contents

  -- the view before and after, as it is shown
  abbrev before_view : KeptView
  before_view = shown_view room image tables.contents view

  abbrev files : List ListedFile
  files = stand_files room image tables contents group view

  abbrev grown_view : KeptView
  grown_view = with_group group files before_view

  -- ---- the contents of its files

  module _ (a c : LinksState) (targets : List Target)
      (fetched : AreContentsFor room image a c
      (group_wanted (map bare_row tables.views) group view.application) targets contents)
      (named : map (address_in view)
      (group_wanted (map bare_row tables.views) group view.application) ≡ map Ok targets) where
    abbrev wants : List FileEntry
    wants = group_wanted (map bare_row tables.views) group view.application

    -- the file came for one of the same content
    IsFor : FileEntry → FileEntry → Type 0
    IsFor entry wish = (target : Target)
        × (address_in view wish ≡ Ok target)
        × (same_content wish entry ≡ true)
        × IsFromLeft (Matches wish.list wish.size) target a c (shown_file room image after entry).bytes

    kept_one : (entry : FileEntry) → IsSome (content_of tables.contents entry)
        → is_held held entry ≡ true
    kept_one entry some =
        let first = found (is_content_of entry) tables.contents some in
        let of = all_in
        (λ (content : Content). Any (λ (file : FileEntry). is_content_of file content ≡ true) held)
        tables.contents first.item are.only first.there in
        in_passes (same_content entry) held of.1 (in_contains held of.1 (of.0, of.2, of.3))
        (is_same entry of.1 (of_key entry first.item first.passes
        ∙ sym (of_key of.1 first.item of.4)))

    new_one : (entry : FileEntry) → content_of tables.contents entry ≡ None
        → IsSome (content_of after entry) → Any (IsFor entry) wants
    unfolding IsFor
    new_one entry none some =
        let right = find_right (is_content_of entry) tables.contents contents none in
        let first = found (is_content_of entry) contents
        (subst (λ (o : Option Content). IsSome o) right some) in
        let one = for_one room image a c (address_in view) wants targets contents first.item fetched named
        first.there in
        let bytes : (shown_file room image after entry).bytes ≡ content_bytes room image first.item =
        ap (bytes_in room image) (right ∙ first.is) in
        let key : held_key first.item ≡ content_key one.entry =
        ap (λ (n : ℕ). record (held_key first.item) { size = n }) one.is.size
        ∙ ap (λ (l : List Digest). record (content_key one.entry) { list = l }) one.is.list in
        in_any (IsFor entry) wants one.entry one.there (
          one.target,
          one.named,
          is_same one.entry entry (sym key ∙ sym (of_key entry first.item first.passes)),
          subst (λ (bs : List ℕ).
              IsFromLeft (Matches one.entry.list one.entry.size) one.target a c bs) (sym bytes)
              one.is.from,
        )

    either : (entry : FileEntry) → IsSome (content_of after entry)
        → (is_held held entry ≡ true) ⊎ Any (IsFor entry) wants
    either entry some = by (content_of tables.contents entry) refl
      where
        by : (o : Option Content) → content_of tables.contents entry ≡ o
            → (is_held held entry ≡ true) ⊎ Any (IsFor entry) wants
        by None e = inr (new_one entry e some)
        by (Some content) e =
            inl (kept_one entry (subst (λ (o : Option Content). IsSome o) (sym e) refl))

    standing : (entry : FileEntry)
        → In entry (standing_entries view.groups view.application)
        ⊎ In entry (group_files group view.application)
        → (is_held held entry ≡ true) ⊎ Any (IsFor entry) wants
    standing entry (inl stood) =
        inl (in_passes (same_content entry) held entry
        (files_row tables.views view entry (row_there leased) stood) (is_same entry entry refl))
    standing entry (inr of) =
        either entry (all_in (λ (e : FileEntry). IsSome (content_of after e))
        (group_files group view.application) entry brings.each of)

    abbrev IsHere : KeptView → ListedFile → Type 0
    IsHere one =
        IsHeldOrCame (IsFileFrom a c) (table_shape room tables)
        (group_wanted (map bare_row tables.views) group one.application) one

    grown_files : All (IsHere grown_view) files
    unfolding IsFor
    grown_files =
        in_all (IsHere grown_view) files
        (λ file there. (
        let stand = standing_entries (view.groups ++ group ∷ []) view.application in
        let from = map_in (shown_file room image after) stand file there in
        subst (IsHere grown_view) from.2
        (standing from.0 (standing_more view.groups group view.application from.0 from.1))
        ))

    -- ---- the leased view of the new store

    module _ (store : Store) (shows : Shows room tables image store) where
      abbrev led_store : Store
      led_store = grouped view.number group files store

      led_view : leased_view lease led_store ≡ Some grown_view
      led_view =
          let by = leased_by lease store before_view (view_shown shows leased) in
          ap (λ (o : Option Lease).
          option_and_then (λ (l : Lease). view_at l.view led_store.views) o) by.1
          ∙ grouped_at view.number group files store by.0.view before_view by.2
          ∙ ap (λ (b : Bool). Some (cond b grown_view before_view))
          (eq-eqb view.number view.number refl)

      pub led_brought : AreBrought lease group (table_shape room tables) a c led_store
      led_brought = record {
        files = λ one is.
            subst (λ (v : KeptView).
            All (IsHere v) v.program_files)
            (same_Some grown_view one (sym led_view ∙ is)) grown_files;
      }

      pub led_other : group_stands group view.groups ≡ false → led_store ≢ store
      led_other absent same =
          let view_same : grown_view ≡ before_view =
          same_Some grown_view before_view
          (sym led_view ∙ ap (leased_view lease) same ∙ view_shown shows leased) in
          absurd (false≢true (sym absent
          ∙ ap (λ (v : KeptView). group_stands group v.groups) (sym view_same)
          ∙ now_stands view.groups group))

      -- ---- they are those of the group

      abbrev came : List ListedFile
      came = came_files room image tables contents group view

      came_group : Sound store → All (IsWholeContent room image) contents
          → map (λ (file : ListedFile). file.entry) came ≡ group_files group view.application
          → AreOfGroup group store before_view came
      came_group sound whole listed = record {
        listed = listed;
        whole = in_all IsWhole came (λ file there. (
            let from = map_in (shown_file room image after) (group_files group view.application)
            file there in
            subst IsWhole from.2
            (whole_after room tables image store contents shows are sound whole from.0
            (all_in (λ (e : FileEntry). IsSome (content_of after e))
            (group_files group view.application) from.0 brings.each from.1))
            ));
        shared = share_in room image after (program_files_of store ++ came)
            (All-append (HasBytesIn room image after) (program_files_of store) came
            (in_all (HasBytesIn room image after) (program_files_of store)
            (kept_bytes room tables image store contents shows are))
            (in_all (HasBytesIn room image after) came (λ file there. (
            let from = map_in (shown_file room image after) (group_files group view.application)
            file there in
            subst (HasBytesIn room image after) from.2 refl
            ))));
      }

      pub led_grouped : Sound store → All (IsWholeContent room image) contents
          → ShowsGroup room tables view.number group contents view image store
          → Grouped group before_view store led_store
      led_grouped sound whole law = record {
        files = came;
        fetched = came_group sound whole law.listed;
        program_files = files;
        among = law.among;
        is = refl;
      }
