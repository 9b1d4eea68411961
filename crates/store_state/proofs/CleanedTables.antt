-- Tables without the views that are not in use, and the store that they show.
use Rattle.std.proofs.Common.{◌≡◌, ◌∙◌, inl, inr, refl, sym, ap, subst, ℕ, Bool, true, false, cond, not, eqb, eqb-true, eq-eqb, List, [], ◌∷◌, map, All, IsSome, Option}
use Rattle.std.specs.Prelude.{filter}
use Rattle.std.specs.List.{list_any}
use Rattle.std.proofs.lemmas.Bool.{false_from_ne_true, false≢true}
use Rattle.std.proofs.lemmas.List.Elements.{All-filter}
use Rattle.small_types.specs.declared.room.Room.{Room}
use Rattle.manifests.specs.declared.facts.FileEntry.{FileEntry}
use Rattle.machine.specs.Blocks.{standing_files}
use Rattle.machine.specs.CleanRow.{cleaned}
use Rattle.machine.specs.InUse.{is_in_use}
use Rattle.machine.specs.Store.{Store}
use Rattle.machine.specs.Views.{ListedFile, standing_entries}
use Rattle.machine.specs.Views.{View as KeptView}
use Rattle.machine.proofs.FirstFound.{find-kept}
use Rattle.machine.proofs.Members.{In, all_in, filter_in, filter_map_is, in_all, in_filter, in_map}
use Rattle.machine.proofs.OwnContents.{in_passes, passes_in}
use Rattle.store_state.specs.declared.change.Change.TheVariants.{Clean}
use Rattle.store_state.specs.declared.view.Content.{Content}
use Rattle.store_state.specs.declared.view.View.{View}
use Rattle.store_state.specs.Change.{effect}
use Rattle.store_state.specs.Contents.{content_of, is_content_of}
use Rattle.store_state.specs.Dropped.{dropped, is_among, is_needed, needed, removable_in, without_rows}
use Rattle.store_state.specs.Laws.{without_views}
use Rattle.store_state.specs.Shows.{SameFiles, Shows, bytes_in, shown_file, shown_store, shown_view}
use Rattle.store_state.specs.Tables.{Tables, bare_row}
use Rattle.store_state.proofs.GrownTables.{files_row}
use Rattle.store_state.proofs.ShownTables.{HasMeasured, IsHeld, IsWhole, shows_same}

-- ---- lists whose elements agree

filter_agree : {X : Type 0} (p q : X → Bool) (xs : List X) → ((x : X) → In x xs → p x ≡ q x)
    → filter p xs ≡ filter q xs
filter_agree p q [] agree = refl
filter_agree {X} p q (x ∷ xs) agree =
    ap (λ (b : Bool). cond b (x ∷ filter p xs) (filter p xs)) (agree x (inl refl))
    ∙ ap (λ (ys : List X). cond (q x) (x ∷ ys) ys)
    (filter_agree p q xs (λ y there. agree y (inr there)))

map_agree : {X Y : Type 0} (f g : X → Y) (xs : List X) → ((x : X) → In x xs → f x ≡ g x)
    → map f xs ≡ map g xs
map_agree f g [] agree = refl
map_agree {Y = Y} f g (x ∷ xs) agree =
    ap (λ (y : Y). y ∷ map f xs) (agree x (inl refl))
    ∙ ap (λ (ys : List Y). g x ∷ ys) (map_agree f g xs (λ y there. agree y (inr there)))

-- ---- which views are left

module _ (tables : Tables) where
  abbrev used : ℕ → Bool
  used number = is_in_use number tables.apps tables.leases

  abbrev numbers : List ℕ
  numbers = removable_in tables

  unlisted : (view : View) → used view.number ≡ true → is_among numbers view ≡ false
  unlisted view is =
      false_from_ne_true (is_among numbers view) (λ among. (
      let one = passes_in (λ (n : ℕ). eqb n view.number) numbers among in
      let kept = filter_in (λ (n : ℕ). not (used n)) _ one.0 one.1 in
      false≢true (sym (ap (λ (n : ℕ). not (used n)) (eqb-true one.0 view.number one.2)
      ∙ ap not is) ∙ kept.0)
      ))

  listed : (view : View) → In view tables.views → used view.number ≡ false
      → is_among numbers view ≡ true
  listed view there is =
      in_passes (λ (n : ℕ). eqb n view.number) numbers view.number
      (in_filter (λ (n : ℕ). not (used n)) _ view.number (ap not is)
      (in_map (λ (v : _). v.number) (map bare_row tables.views) (bare_row view)
      (in_map bare_row tables.views view there)))
      (eq-eqb view.number view.number refl)

  left_by : (view : View) → In view tables.views → (b : Bool) → used view.number ≡ b
      → not (is_among numbers view) ≡ b
  left_by view there true is = ap not (unlisted view is)
  left_by view there false is = ap not (listed view there is)

  pub used_left : without_rows (removable_in tables) tables.views
      ≡ filter (λ (view : View). is_in_use view.number tables.apps tables.leases) tables.views
  used_left =
      filter_agree (λ (view : View). not (is_among numbers view))
      (λ (view : View). used view.number) tables.views
      (λ view there. left_by view there (used view.number) refl)

-- ---- the views that are left have their contents

module _ (room : Room) (image : List ℕ) (left : List View) (contents : List Content) where
  abbrev kept : List Content
  kept = needed left contents

  content_kept : (view : View) → In view left → (entry : FileEntry)
      → In entry (standing_entries view.groups view.application)
      → content_of (needed left contents) entry ≡ content_of contents entry
  content_kept view there entry of =
      find-kept (is_content_of entry) (is_needed (standing_files (map bare_row left))) contents
      (λ content passes. in_passes (λ (e : FileEntry). is_content_of e content)
      (standing_files (map bare_row left)) entry (files_row left view entry there of) passes)

  view_kept : (view : View) → In view left → shown_view room image contents view ≡ shown_view room image kept view
  view_kept view there =
      ap (λ (files : List ListedFile). record (shown_view room image contents view) {
        program_files = files;
      })
      (map_agree (shown_file room image contents) (shown_file room image kept)
      (standing_entries view.groups view.application)
      (λ entry of. ap (λ (content : Option Content). record {
        entry = entry;
        bytes = bytes_in room image content;
      }) (sym (content_kept view there entry of))))

  pub views_kept : map (shown_view room image contents) left ≡ map (shown_view room image (needed left contents)) left
  views_kept = map_agree (shown_view room image contents) (shown_view room image kept) left view_kept

  pub held_kept : All (IsHeld contents) left → All (IsHeld (needed left contents)) left
  held_kept held =
      in_all (IsHeld kept) left
      (λ view there. in_all (λ (e : FileEntry). IsSome (content_of kept e))
      (standing_entries view.groups view.application)
      (λ entry of. subst (λ (content : Option Content). IsSome content)
      (sym (content_kept view there entry of))
      (all_in (λ (e : FileEntry). IsSome (content_of contents e))
      (standing_entries view.groups view.application) entry
      (all_in (IsHeld contents) left view held there) of)))

-- the store without the views of these numbers is shown
pub drops_shown : (room : Room) (tables : Tables) (numbers image later : List ℕ) (store : Store)
    → Shows room tables image store → SameFiles room tables image later
    → Shows room (dropped numbers tables) later (without_views numbers store)
drops_shown room tables numbers image later store first same =
    let shows = shows_same later same first in
    let keep = λ (view : View). not (is_among numbers view) in
    let left = without_rows numbers tables.views in
    record {
      is =
          ap (without_views numbers) shows.is
          ∙ ap (λ (views : List KeptView). record (shown_store room later tables) { views = views })
          (filter_map_is (shown_view room later tables.contents)
          (λ (view : KeptView). not (list_any (λ (n : ℕ). eqb n view.number) numbers))
          tables.views
          ∙ views_kept room later left tables.contents);
      held = held_kept room later left tables.contents
          (All-filter keep (IsHeld tables.contents) tables.views shows.held);
      whole =
          All-filter (is_needed (standing_files (map bare_row left))) (IsWhole room later)
          tables.contents shows.whole;
      measured = All-filter keep (HasMeasured room later) tables.views shows.measured;
    }

pub cleans_shown : (room : Room) (tables : Tables) (image later : List ℕ) (store : Store)
    → Shows room tables image store → SameFiles room tables image later
    → Shows room (effect Clean tables) later (cleaned store)
cleans_shown room tables image later store first same =
    let shows = shows_same later same first in
    let keep = λ (view : View). not (is_among (removable_in tables) view) in
    let left = without_rows (removable_in tables) tables.views in
    record {
      is =
          ap cleaned shows.is
          ∙ ap (λ (views : List KeptView). record (shown_store room later tables) { views = views })
          (filter_map_is (shown_view room later tables.contents)
          (λ (view : KeptView). is_in_use view.number tables.apps tables.leases) tables.views
          ∙ ap (map (shown_view room later tables.contents)) (sym (used_left tables))
          ∙ views_kept room later left tables.contents);
      held = held_kept room later left tables.contents
          (All-filter keep (IsHeld tables.contents) tables.views shows.held);
      whole =
          All-filter (is_needed (standing_files (map bare_row left))) (IsWhole room later)
          tables.contents shows.whole;
      measured = All-filter keep (HasMeasured room later) tables.views shows.measured;
    }
