-- The program files of the new view: a kept view has their contents, or they were fetched.
use Rattle.std.proofs.Common.{◌≡◌, ◌∙◌, ◌⊎◌, ◌++◌, inl, inr, refl, sym, ap, subst, ℕ, true, List, [], ◌∷◌, map, All, Option, Some, None, IsSome, Result, Ok}
use Rattle.std.specs.Prelude.{Any}
use Rattle.small_types.specs.declared.room.Room.{Room}
use Rattle.small_types.specs.declared.target.Target.{Target}
use Rattle.addresses.specs.declared.fault.UrlFault.{UrlFault}
use Rattle.addresses.specs.Join.{file_target_of}
use Rattle.digest_list.specs.Matches.{Matches}
use Rattle.manifests.specs.declared.facts.FileEntry.{FileEntry}
use Rattle.machine.specs.Blocks.{standing_files}
use Rattle.machine.specs.Installed.{new_view}
use Rattle.machine.specs.Current.{current_view, data_of, listed_by}
use Rattle.machine.specs.Migrated.{IsAside, IsFresh, IsKept, Migrated}
use Rattle.machine.specs.Shape.{Shape, shape_of}
use Rattle.machine.specs.Store.{Session}
use Rattle.machine.specs.Views.{DataFile, ListedFile, content_key, same_content, standing_entries}
use Rattle.machine.specs.Views.{View as KeptView}
use Rattle.machine.specs.Wanted.{is_held, wanted}
use Rattle.machine.proofs.Members.{In, all_in, contains_in, in_all, in_contains, map_in}
use Rattle.machine.proofs.OwnContents.{in_passes, is_same}
use Rattle.store_state.specs.declared.view.Content.{Content}
use Rattle.store_state.specs.Contents.{AreContentsOf, Brings, content_of, held_key, is_content_of}
use Rattle.store_state.specs.Shows.{bytes_in, shown_file}
use Rattle.store_state.specs.Stored.{content_bytes}
use Rattle.store_state.specs.Tables.{Tables, bare_row, table_shape}
use Rattle.store_state.proofs.Keyed.{of_key}
use Rattle.links.specs.Links.{LinksState}
use Rattle.install_plan.specs.declared.plan.InstallPlan.{InstallPlan}
use Rattle.install_plan.specs.Brought.{AreContentsFor, IsBrought, IsCarriedOrFetched, IsFileFrom, IsHeldOrCame}
use Rattle.install_plan.specs.Given.{IsFromLeft}
use Rattle.install_plan.specs.Plans.{IsPlan, targets_of}
use Rattle.install_plan.proofs.WantedPlaces.{for_one, rest_is}
use Rattle.install_plan.proofs.Fetched.{IsOriginal}
use Rattle.install_plan.proofs.InstallContents.{wanted_within}
use Rattle.install_plan.proofs.Keyed.{find_right, found}

-- a list ends in one item
last_is : {X : Type 0} (xs : List X) (x y : X) → xs ++ x ∷ [] ≡ xs ++ y ∷ [] → x ≡ y
last_is [] x y e = cc
last_is (z ∷ xs) x y e = last_is xs x y (rest_is z z (xs ++ x ∷ []) (xs ++ y ∷ []) e)

module _ (room : Room) (tables : Tables) (image : List ℕ) (url : List ℕ) (texts : List (List ℕ)) (plan : InstallPlan) (is : IsPlan (table_shape room tables) url texts plan) (a c : LinksState) (contents new : List Content) (within : (content : Content) → In content new → In content contents)
    (are : AreContentsOf (standing_files (map bare_row tables.views)) tables.contents)
    (fetched : AreContentsFor room image a c (wanted (map bare_row tables.views) plan.application) (targets_of plan) contents)
    (brings : Brings tables.contents (standing_entries [] plan.application) new) where
  abbrev held : List FileEntry
  held = standing_files (map bare_row tables.views)

  abbrev wants : List FileEntry
  wants = wanted (map bare_row tables.views) plan.application

  abbrev after : List Content
  after = tables.contents ++ new

  abbrev place_of : FileEntry → Result Target UrlFault
  place_of entry = file_target_of plan.base plan.deployment.mapped entry.name

  -- the file was fetched for one of the same content
  IsFetchedFor : FileEntry → Type 0
  IsFetchedFor entry = Any (λ (wish : FileEntry). (target : Target)
      × (place_of wish ≡ Ok target)
      × (same_content wish entry ≡ true)
      × IsFromLeft (Matches wish.list wish.size) target a c (shown_file room image after entry).bytes)
      wants

  kept_one : (entry : FileEntry) → IsSome (content_of tables.contents entry) → is_held held entry ≡ true
  kept_one entry some =
      let first = found (is_content_of entry) tables.contents some in
      let of = all_in (λ (content : Content). Any (λ file. is_content_of file content ≡ true) held) tables.contents first.item are.only first.there in
      in_passes (same_content entry) held of.1 (in_contains held of.1 (of.0, of.2, of.3))
      (is_same entry of.1 (of_key entry first.item first.passes ∙ sym (of_key of.1 first.item of.4)))

  new_one : (entry : FileEntry) → content_of tables.contents entry ≡ None → IsSome (content_of after entry) → IsFetchedFor entry
  unfolding IsFetchedFor
  new_one entry none some =
      let right = find_right (is_content_of entry) tables.contents new none in
      let first = found (is_content_of entry) new (subst (λ (o : Option Content). IsSome o) right some) in
      let one = for_one room image a c place_of wants (targets_of plan) contents first.item fetched is.targets (within first.item first.there) in
      let bytes : (shown_file room image after entry).bytes ≡ content_bytes room image first.item = ap (bytes_in room image) (right ∙ first.is) in
      let key : held_key first.item ≡ content_key one.entry =
      ap (λ (n : ℕ). record (held_key first.item) { size = n }) one.is.size ∙ ap (λ l. record (content_key one.entry) { list = l }) one.is.list in
      let at = contains_in wants one.entry one.there in (
        at.0,
        one.entry,
        at.1,
        at.2,
        (
          one.target,
          one.named,
          is_same one.entry entry (sym key ∙ sym (of_key entry first.item first.passes)),
          subst (λ (bs : List ℕ). IsFromLeft (Matches one.entry.list one.entry.size) one.target a c bs) (sym bytes) one.is.from,
        ),
      )

  either : (entry : FileEntry) → IsSome (content_of after entry) → (is_held held entry ≡ true) ⊎ IsFetchedFor entry
  either entry some = by (content_of tables.contents entry) refl
    where
      by : (o : Option Content) → content_of tables.contents entry ≡ o → (is_held held entry ≡ true) ⊎ IsFetchedFor entry
      by None e = inr (new_one entry e some)
      by (Some content) e = inl (kept_one entry (subst (λ (o : Option Content). IsSome o) (sym e) refl))

  abbrev view : ℕ → List DataFile → KeptView
  view number others = new_view number plan.base plan.deployment plan.application (map (shown_file room image after) (standing_entries [] plan.application)) others

  -- a file of the view is held, or was got for a wanted one
  abbrev IsHere : Shape → ℕ → List DataFile → ListedFile → Type 0
  IsHere shape number others = IsHeldOrCame (IsFileFrom a c) shape (wanted shape.views plan.application) (view number others)

  files_brought : (number : ℕ) (others : List DataFile) → All (IsHere (table_shape room tables) number others) (view number others).program_files
  unfolding IsFetchedFor
  files_brought number others = in_all (IsHere (table_shape room tables) number others) (view number others).program_files (λ file there.
      let of = map_in (shown_file room image after) (standing_entries [] plan.application) file there in
      let some = all_in (λ (e : FileEntry). IsSome (content_of after e)) (standing_entries [] plan.application) of.0 brings.each of.1 in
      subst (IsHere (table_shape room tables) number others) of.2 (either of.0 some))

  module _ (old : Session) (number : ℕ) (others : List DataFile) (originals : List ListedFile)
      (migrated : Migrated (data_of (current_view plan.deployment.identity.key old.store)) (listed_by (current_view plan.deployment.identity.key old.store)) plan.application.files originals others)
      (each : (file : ListedFile) → In file originals → IsOriginal room image a c place_of wants file) where
    abbrev Kept : DataFile → Type 0
    Kept file = IsKept (data_of (current_view plan.deployment.identity.key old.store)) (listed_by (current_view plan.deployment.identity.key old.store)) plan.application.files file

    abbrev Aside : DataFile → Type 0
    Aside file = IsAside (data_of (current_view plan.deployment.identity.key old.store)) (listed_by (current_view plan.deployment.identity.key old.store)) plan.application.files file

    abbrev Comes : DataFile → Type 0
    Comes file = IsFresh (data_of (current_view plan.deployment.identity.key old.store)) (listed_by (current_view plan.deployment.identity.key old.store)) plan.application.files originals file

    carried : (file : DataFile) → Kept file ⊎ Aside file ⊎ Comes file → IsCarriedOrFetched old.store a c (view number others) file
    carried file (inl kept) = inl kept
    carried file (inr (inl aside)) = inr (inl aside)
    carried file (inr (inr fresh)) =
        let of = each fresh.original (in_contains originals fresh.original fresh.deployed) in
        let entry = fresh.original.entry in
        let at = contains_in plan.application.files entry (wanted_within plan.application.files held entry of.there) in
        inr (inr (
          at.0,
          entry,
          at.1,
          at.2,
          (
            of.target,
            of.local,
            sym fresh.name,
            of.named,
            subst (λ (bs : List ℕ). IsFromLeft (Matches entry.list entry.size) of.target a c bs) (sym fresh.bytes) of.from,
          ),
        ))

    brought_view : shape_of old ≡ table_shape room tables → IsBrought old a c (view number others)
    brought_view same = record {
      files = subst (λ (s : Shape). All (IsHere s number others) (view number others).program_files) (sym same) (files_brought number others);
      data_files = in_all (IsCarriedOrFetched old.store a c (view number others)) others (λ file there. carried file ((migrated.files file).0 (contains_in others file there)));
    }

    pub brought_last : shape_of old ≡ table_shape room tables → (views : List KeptView) (last : KeptView) → views ++ view number others ∷ [] ≡ views ++ last ∷ [] → IsBrought old a c last
    brought_last same views last is = subst (IsBrought old a c) (last_is views (view number others) last is) (brought_view same)
