-- The files of the new view: each is whole, and files with equal content keys have equal bytes.
use Rattle.std.proofs.Common.{◌≡◌, ◌∙◌, ◌⊎◌, ◌++◌, ◌<◌, inl, inr, refl, sym, ap, subst, ℕ, true, List, [], ◌∷◌, length, map, All, Option, Some, None, IsSome, arith}
use Rattle.std.specs.Prelude.{filter, slice_index_or}
use Rattle.std.proofs.lemmas.List.Elements.{All-append}
use Rattle.small_types.specs.declared.room.Room.{Room}
use Rattle.digest_list.specs.Matches.{Matches}
use Rattle.manifests.specs.declared.facts.Application.{Application}
use Rattle.manifests.specs.declared.facts.FileEntry.{FileEntry}
use Rattle.machine.specs.Blocks.{standing_files}
use Rattle.machine.specs.Installed.{AreFetched}
use Rattle.machine.specs.Shape.{BareView}
use Rattle.machine.specs.Sound.{IsSoundView, IsWhole, ShareBytes, Sound, program_files_of}
use Rattle.machine.specs.Store.{Store}
use Rattle.machine.specs.Views.{ContentKey, ListedFile, content_key, standing_entries}
use Rattle.machine.specs.Views.{View as KeptView}
use Rattle.machine.proofs.NewView.{standing_required}
use Rattle.machine.proofs.Members.{In, all_in, in_all, in_contains, in_flat_map, in_map, map_in}
use Rattle.store_state.specs.declared.view.Content.{Content}
use Rattle.store_state.specs.declared.view.View.{View}
use Rattle.store_state.specs.Contents.{AreContentsOf, Brings, content_of, is_content_of}
use Rattle.store_state.specs.Shows.{Shows, bytes_in, shown_file, shown_view}
use Rattle.store_state.specs.Stored.{content_bytes}
use Rattle.store_state.specs.Tables.{Tables, bare_row}
use Rattle.store_state.proofs.Keyed.{of_key}
use Rattle.install_plan.proofs.Keyed.{content_by_key, find_left, find_right, flat_map_in, found}
use Rattle.install_plan.proofs.InstallContents.{IsWholeContent}

-- ---- the standing files of views and of rows

row_files : (views : List View) (entry : FileEntry) → In entry (standing_files (map bare_row views)) → (view : View) × In view views × In entry (standing_entries view.groups view.application)
row_files views entry there =
    let bare = flat_map_in (λ (v : BareView). standing_entries v.groups v.application) (map bare_row views) entry there in
    let row = map_in bare_row views bare.0 bare.1 in
    (row.0, row.1, subst (λ (v : BareView). In entry (standing_entries v.groups v.application)) (sym row.2) bare.2)

pub files_row : (views : List View) (view : View) (entry : FileEntry) → In view views → In entry (standing_entries view.groups view.application) → In entry (standing_files (map bare_row views))
files_row views view entry there of = in_flat_map (λ (v : BareView). standing_entries v.groups v.application) (map bare_row views) (bare_row view) entry (in_map bare_row views view there) of

entries_of_shown : (room : Room) (image : List ℕ) (contents : List Content) (entries : List FileEntry) → map (λ (file : ListedFile). file.entry) (map (shown_file room image contents) entries) ≡ entries
entries_of_shown room image contents [] = refl
entries_of_shown room image contents (entry ∷ entries) = ap (λ (es : List FileEntry). entry ∷ es) (entries_of_shown room image contents entries)

-- ---- files have the bytes of their contents

-- as those contents say
abbrev pub HasBytesIn : Room → List ℕ → List Content → ListedFile → Type 0
HasBytesIn room image contents file = file.bytes ≡ bytes_in room image (content_of contents file.entry)

pub share_in : (room : Room) (image : List ℕ) (contents : List Content) (files : List ListedFile) → All (HasBytesIn room image contents) files → ShareBytes files
share_in room image contents files all = λ i j d lt within same.
    all i d (omega (arith, lt, within))
    ∙ ap (bytes_in room image) (content_by_key contents (slice_index_or files i d).entry (slice_index_or files j d).entry same)
    ∙ sym (all j d within)

module _ (room : Room) (tables : Tables) (image : List ℕ) (store : Store) (new : List Content) (shows : Shows room tables image store) (are : AreContentsOf (standing_files (map bare_row tables.views)) tables.contents) where
  abbrev held : List FileEntry
  held = standing_files (map bare_row tables.views)

  abbrev after : List Content
  after = tables.contents ++ new

  -- a kept program file, as the store has it
  kept_file : (file : ListedFile) → In file (program_files_of store) → (entry : FileEntry) × In entry held × (shown_file room image tables.contents entry ≡ file)
  kept_file file there =
      let kept = flat_map_in (λ (view : KeptView). view.program_files) store.views file there in
      let view = map_in (shown_view room image tables.contents) tables.views kept.0 (subst (λ (s : Store). In kept.0 s.views) shows.is kept.1) in
      let of = map_in (shown_file room image tables.contents) (standing_entries view.0.groups view.0.application) file (subst (λ (v : KeptView). In file v.program_files) (sym view.2) kept.2) in
      (of.0, files_row tables.views view.0 of.0 view.1 of.1, of.2)

  pub kept_bytes : (file : ListedFile) → In file (program_files_of store) → HasBytesIn room image after file
  kept_bytes file there =
      let of = kept_file file there in
      let is = find_left (is_content_of of.0) tables.contents new (all_in (λ (e : FileEntry). IsSome (content_of tables.contents e)) held of.0 are.each of.1) in
      subst (HasBytesIn room image after) of.2 (ap (bytes_in room image) (sym is))

  -- where the store is sound it is whole
  kept_whole : Sound store → (entry : FileEntry) → In entry held → IsWhole (shown_file room image tables.contents entry)
  kept_whole sound entry there =
      let row = row_files tables.views entry there in
      let view = in_map (shown_view room image tables.contents) tables.views row.0 row.1 in
      let is = all_in IsSoundView store.views (shown_view room image tables.contents row.0) sound.views (subst (λ (s : Store). In (shown_view room image tables.contents row.0) s.views) (sym shows.is) view) in
      all_in IsWhole (map (shown_file room image tables.contents) (standing_entries row.0.groups row.0.application)) (shown_file room image tables.contents entry) is.whole (in_map (shown_file room image tables.contents) (standing_entries row.0.groups row.0.application) entry row.2)

  -- ---- a file of the new view

  abbrev IsWholeIn : List Content → FileEntry → Type 0
  IsWholeIn contents entry = Matches entry.list entry.size (bytes_in room image (content_of contents entry))

  whole_by_key : (contents : List Content) (a b : FileEntry) → content_key a ≡ content_key b → IsWholeIn contents a → IsWholeIn contents b
  whole_by_key contents a b same is =
      subst (λ (key : ContentKey). Matches key.list key.size (bytes_in room image (content_of contents b))) same
      (subst (λ (o : Option Content). Matches a.list a.size (bytes_in room image o)) (content_by_key contents a b same) is)

  -- its content was there, or it is a new one
  pub held_or_new : (entry : FileEntry) → IsSome (content_of after entry) → (IsSome (content_of tables.contents entry)) ⊎ ((content_of tables.contents entry ≡ None) × IsSome (content_of new entry))
  held_or_new entry some = by (content_of tables.contents entry) refl
    where
      by : (o : Option Content) → content_of tables.contents entry ≡ o → (IsSome (content_of tables.contents entry)) ⊎ ((content_of tables.contents entry ≡ None) × IsSome (content_of new entry))
      by None e = inr (e, subst (λ (o : Option Content). IsSome o) (find_right (is_content_of entry) tables.contents new e) some)
      by (Some content) e = inl (subst (λ (o : Option Content). IsSome o) (sym e) refl)

  pub whole_after : Sound store → All (IsWholeContent room image) new → (entry : FileEntry) → IsSome (content_of after entry) → IsWholeIn after entry
  whole_after sound whole entry some = by (held_or_new entry some)
    where
      by : (IsSome (content_of tables.contents entry)) ⊎ ((content_of tables.contents entry ≡ None) × IsSome (content_of new entry)) → IsWholeIn after entry
      by (inl old) =
          let first = found (is_content_of entry) tables.contents old in
          let of = all_in (λ (c : Content). (k : ℕ) × (file : FileEntry) × (k < length held) × (slice_index_or held k file ≡ file) × (is_content_of file c ≡ true)) tables.contents first.item are.only first.there in
          let file : In of.1 held = in_contains held of.1 (of.0, of.2, of.3) in
          let same : content_key of.1 ≡ content_key entry = of_key of.1 first.item of.4 ∙ sym (of_key entry first.item first.passes) in
          subst (λ (o : Option Content). Matches entry.list entry.size (bytes_in room image o)) (sym (find_left (is_content_of entry) tables.contents new old))
          (whole_by_key tables.contents of.1 entry same (kept_whole sound of.1 file))
      by (inr fresh) =
          let first = found (is_content_of entry) new fresh.1 in
          let is = all_in (IsWholeContent room image) new first.item whole first.there in
          subst (λ (o : Option Content). Matches entry.list entry.size (bytes_in room image o)) (sym (find_right (is_content_of entry) tables.contents new fresh.0 ∙ first.is))
          (subst (λ (key : ContentKey). Matches key.list key.size (content_bytes room image first.item)) (sym (of_key entry first.item first.passes)) is)

  pub fetched : Sound store → All (IsWholeContent room image) new → (a : Application) (originals : List ListedFile) → map (λ (file : ListedFile). file.entry) originals ≡ filter (λ (entry : FileEntry). entry.local) a.files → All IsWhole originals
      → Brings tables.contents (standing_entries [] a) new → AreFetched store a (map (shown_file room image after) (standing_entries [] a)) originals
  fetched sound whole a originals deployed whole_data brings =
      let entries = standing_entries [] a in
      record {
        required = entries_of_shown room image after entries ∙ standing_required a;
        deployed = deployed;
        whole = in_all IsWhole (map (shown_file room image after) entries) (λ file there.
            let of = map_in (shown_file room image after) entries file there in
            subst IsWhole of.2 (whole_after sound whole of.0 (all_in (λ (e : FileEntry). IsSome (content_of after e)) entries of.0 brings.each of.1)));
        whole_data = whole_data;
        shared = share_in room image after (program_files_of store ++ map (shown_file room image after) entries) (All-append (HasBytesIn room image after) (program_files_of store) (map (shown_file room image after) entries)
            (in_all (HasBytesIn room image after) (program_files_of store) kept_bytes)
            (in_all (HasBytesIn room image after) (map (shown_file room image after) entries) (λ file there.
            let of = map_in (shown_file room image after) entries file there in
            subst (HasBytesIn room image after) of.2 refl)));
      }
