-- Views and tables once a group comes.
use Rattle.std.proofs.Common.{◌≡◌, ◌≢◌, ◌∙◌, ◌⊎◌, ◌↔◌, ◌++◌, ◌&&◌, ◌||◌, inl, inr, refl, sym, ap, subst, ℕ, Bool, true, false, not, List, [], ◌∷◌, map, All, AllPairs, Option, Some, None, Result, Ok, Err, IsSome, IsTrue, HoldsAt, length, set, ◌<◌, bytes_eq, eqb, eqb-true, arith}
use Rattle.std.specs.Prelude.{Any, IfNone, IfSome, IsSomeAnd, flat_map, option_map, slice_get}
use Rattle.std.specs.List.{list_any}
use Rattle.std.specs.List.Sorted.{IsBinarySearchResult, IsSearchInRange}
use Rattle.std.specs.Ordering.{nat_cmp}
use Rattle.std.specs.Result.{result_ok}
use Rattle.std.proofs.Math.Bool.{or-false}
use Rattle.std.proofs.lemmas.List.{length-map}
use Rattle.std.proofs.lemmas.List.Folds.{list_any-append}
use Rattle.std.proofs.lemmas.Option.{get_or_from_slice_get, none-some, same_Some, slice_get-get_or, slice_get-map}
use Rattle.std.proofs.lemmas.Slice.Eq.{bytes_eq-Decides}
use Rattle.manifests.specs.declared.facts.Application.{Application}
use Rattle.manifests.specs.declared.facts.FileEntry.{FileEntry}
use Rattle.machine.specs.Blocks.{standing_files}
use Rattle.machine.specs.Groups.{group_files, group_stands, is_group, is_in}
use Rattle.machine.specs.Shape.{BareView}
use Rattle.machine.specs.Views.{standing_entries, stands_by}
use Rattle.store_state.proofs.ByNumber.{became, change, changed_place, each_changed, map_kept, one_is, sum_kept}
use Rattle.machine.proofs.FirstFound.{find_in as found_in}
use Rattle.machine.proofs.Members.{In, all_in, filter_in, in_all, in_either, in_filter, in_flat_map, in_left, in_map, in_right, map_in}
use Rattle.machine.proofs.OwnContents.{in_passes, passes_in}
use Rattle.store_state.specs.declared.change.Change.TheVariants.{Group}
use Rattle.store_state.specs.declared.view.Content.{Content}
use Rattle.store_state.specs.declared.view.View.{View}
use Rattle.store_state.specs.Change.{FitsGroup, IsRow, MayGrow, effect, grown}
use Rattle.store_state.specs.Contents.{AreContentsOf, Brings, content_of, is_content_of}
use Rattle.store_state.specs.Kept.{AreTables}
use Rattle.store_state.specs.Named.{AreNameIndexes, IsNameIndex}
use Rattle.store_state.specs.Rows.{row_at, with_row}
use Rattle.store_state.specs.Tables.{Tables, bare_row}
use Rattle.store_state.proofs.Indexed.{pairs_of_map}
use Rattle.store_state.proofs.Keyed.{any_in, in_any, joined}
use Rattle.store_state.proofs.NamedFiles.{is_standing, same_indexes}
use Rattle.store_state.proofs.Numbered.{Rise, no_number, number_at}

-- ---- which files stand with one more group

grown_by : (groups : List (List ℕ)) (group : List ℕ) (local : Bool) (of : Option (List ℕ))
    → (not local && stands_by (groups ++ group ∷ []) of)
    ≡ ((not local && stands_by groups of) || (not local && is_group group of))
grown_by groups group true of = refl
grown_by groups group false None = refl
grown_by groups group false (Some other) =
    list_any-append (bytes_eq other) groups (group ∷ [])
    ∙ ap (λ (b : Bool). list_any (bytes_eq other) groups || b) (or-false (bytes_eq other group))

-- those that stood, and those of the group
pub standing_grown : (groups : List (List ℕ)) (group : List ℕ) (entry : FileEntry)
    → is_standing (groups ++ group ∷ []) entry ≡ (is_standing groups entry || is_in group entry)
standing_grown groups group entry = grown_by groups group entry.local entry.group

or_left : (a b : Bool) → a ≡ true → (a || b) ≡ true
or_left true b is = refl
or_left false b is = absurd cc

or_right : (a b : Bool) → b ≡ true → (a || b) ≡ true
or_right true b is = refl
or_right false b is = is

either_of : (a b : Bool) → (a || b) ≡ true → a ≡ true ⊎ b ≡ true
either_of true b is = inl refl
either_of false b is = inr is

apart_by : (groups : List (List ℕ)) (group : List ℕ) (local : Bool) (of : Option (List ℕ))
    → group_stands group groups ≡ false → (not local && is_group group of) ≡ true
    → (not local && stands_by groups of) ≡ false
apart_by groups group true of absent is = refl
apart_by groups group false None absent is = absurd cc
apart_by groups group false (Some other) absent is =
    ap (λ (g : List ℕ). list_any (bytes_eq g) groups) ((bytes_eq-Decides other group).0 is) ∙ absent

-- no file of a group that does not stand stood
pub standing_apart : (groups : List (List ℕ)) (group : List ℕ) (entry : FileEntry)
    → group_stands group groups ≡ false → is_in group entry ≡ true
    → is_standing groups entry ≡ false
standing_apart groups group entry absent is =
    apart_by groups group entry.local entry.group absent is

module _ (group : List ℕ) (view : View) (entry : FileEntry) where
  pub grown_left : In entry (standing_entries view.groups view.application)
      → In entry (standing_entries (view.groups ++ group ∷ []) view.application)
  grown_left there =
      let stood = filter_in (is_standing view.groups) view.application.files entry there in
      in_filter (is_standing (view.groups ++ group ∷ [])) view.application.files entry
      (standing_grown view.groups group entry
      ∙ or_left (is_standing view.groups entry) (is_in group entry) stood.0) stood.1

  pub grown_right : In entry (group_files group view.application)
      → In entry (standing_entries (view.groups ++ group ∷ []) view.application)
  grown_right there =
      let of = filter_in (is_in group) view.application.files entry there in
      in_filter (is_standing (view.groups ++ group ∷ [])) view.application.files entry
      (standing_grown view.groups group entry
      ∙ or_right (is_standing view.groups entry) (is_in group entry) of.0) of.1

  pub grown_either : In entry (standing_entries (view.groups ++ group ∷ []) view.application)
      → In entry (standing_entries view.groups view.application)
      ⊎ In entry (group_files group view.application)
  grown_either there =
      let stands = filter_in (is_standing (view.groups ++ group ∷ [])) view.application.files entry
      there in
      by stands.1 (either_of (is_standing view.groups entry) (is_in group entry)
      (sym (standing_grown view.groups group entry) ∙ stands.0))
    where
      by : In entry view.application.files
          → is_standing view.groups entry ≡ true ⊎ is_in group entry ≡ true
          → In entry (standing_entries view.groups view.application)
          ⊎ In entry (group_files group view.application)
      by listed (inl stood) =
          inl (in_filter (is_standing view.groups) view.application.files entry stood listed)
      by listed (inr of) = inr (in_filter (is_in group) view.application.files entry of listed)

-- ---- the files of views

flat_map_in : {X Z : Type 0} (g : X → List Z) (xs : List X) (z : Z) → In z (flat_map g xs)
    → (x : X) × In x xs × In z (g x)
flat_map_in g [] z there = absurd there
flat_map_in {X} {Z} g (x ∷ xs) z there =
    by (in_either (g x) (flat_map g xs) z there) (flat_map_in g xs z)
  where
    by : In z (g x) ⊎ In z (flat_map g xs)
        → (In z (flat_map g xs) → (y : X) × In y xs × In z (g y))
        → (y : X) × In y (x ∷ xs) × In z (g y)
    by (inl here) more = (x, inl refl, here)
    by (inr behind) more = let rest = more behind in (rest.0, inr rest.1, rest.2)

pub row_files : (views : List View) (entry : FileEntry)
    → In entry (standing_files (map bare_row views))
    → (view : View) × In view views × In entry (standing_entries view.groups view.application)
row_files views entry there =
    let bare = flat_map_in (λ (v : BareView). standing_entries v.groups v.application)
    (map bare_row views) entry there in
    let row = map_in bare_row views bare.0 bare.1 in (
      row.0,
      row.1,
      subst (λ (v : BareView). In entry (standing_entries v.groups v.application)) (sym row.2)
          bare.2,
    )

pub files_row : (views : List View) (view : View) (entry : FileEntry) → In view views
    → In entry (standing_entries view.groups view.application)
    → In entry (standing_files (map bare_row views))
files_row views view entry there of =
    in_flat_map (λ (v : BareView). standing_entries v.groups v.application) (map bare_row views)
    (bare_row view) entry (in_map bare_row views view there) of

-- contents are those of other files that are the same but for their order
same_contents : (xs ys : List FileEntry) (contents : List Content)
    → ((entry : FileEntry) → In entry xs → In entry ys)
    → ((entry : FileEntry) → In entry ys → In entry xs)
    → AreContentsOf xs contents → AreContentsOf ys contents
same_contents xs ys contents there back are = record {
  each = in_all (λ (entry : FileEntry). IsSome (content_of contents entry)) ys
      (λ entry of. all_in (λ (e : FileEntry). IsSome (content_of contents e)) xs entry are.each
      (back entry of));
  only = in_all
      (λ (content : Content). Any (λ (entry : FileEntry). is_content_of entry content ≡ true) ys)
      contents (λ content of. (
      let one = any_in (λ (entry : FileEntry). is_content_of entry content ≡ true) xs
      (all_in
      (λ (c : Content). Any (λ (entry : FileEntry). is_content_of entry c ≡ true) xs)
      contents content are.only of) in
      in_any (λ (entry : FileEntry). is_content_of entry content ≡ true) ys one.0
      (there one.0 one.1) one.2
      ));
  once = are.once;
}

-- ---- whether a group is listed

pub some_in : {X : Type 0} (xs : List X) → xs ≢ [] → (x : X) × In x xs
some_in [] some = absurd (some refl)
some_in (x ∷ xs) some = (x, inl refl)

pub listed_is : (group : List ℕ) (application : Application) (read : List FileEntry)
    (result : Bool) → read ≡ application.files → result ≡ list_any (is_in group) read
    → IsTrue result ↔ ◌≢◌ {A = List FileEntry} (group_files group application) []
listed_is group application read result same is = (
  λ found none.
      let one = passes_in (is_in group) application.files
      (sym (ap (list_any (is_in group)) same) ∙ sym is ∙ found) in
      subst (λ (entries : List FileEntry). In one.0 entries) none
      (in_filter (is_in group) application.files one.0 one.2 one.1),
  λ some.
      let one = some_in (group_files group application) some in
      let of = filter_in (is_in group) application.files one.0 one.1 in
      is ∙ ap (list_any (is_in group)) same
      ∙ in_passes (is_in group) application.files one.0 of.1 of.0,
)

-- ---- the view of a change that fits

some_and : {X : Type 0} (P : X → Type 0) (o : Option X) (x : X) → o ≡ Some x → IsSomeAnd o P → P x
some_and P o x is holds = subst (λ (p : Option _). IsSomeAnd p P) is holds

pub some_with : {X : Type 0} (P : X → Type 0) (o : Option X) → IsSomeAnd o P
    → (x : X) × (o ≡ Some x) × P x
some_with P None holds = absurd holds
some_with P (Some x) holds = (x, refl, holds)

pub may_row : (number : ℕ) (group : List ℕ) (tables : Tables) (contents : List Content)
    (view : View) → row_at number tables.views ≡ Some view → FitsGroup tables number group contents
    → MayGrow tables group contents view
may_row number group tables contents view kept fits =
    some_and (MayGrow tables group contents) (row_at number tables.views) view kept fits

pub row_grows : (number : ℕ) (group : List ℕ) (tables : Tables) (contents : List Content)
    → FitsGroup tables number group contents
    → (view : View) × (row_at number tables.views ≡ Some view) × MayGrow tables group contents view
row_grows number group tables contents fits =
    some_with (MayGrow tables group contents) (row_at number tables.views) fits

-- ---- the tables once the group stands in the view of the number

abbrev pub of_view : View → ℕ
of_view view = view.number

module _ (number : ℕ) (group : List ℕ) (views : List View) (view : View)
    (rising : AllPairs (λ (m n : ℕ). m < n) (map of_view views))
    (kept : row_at number views ≡ Some view) where
  pub rows_rise : Rise of_view views
  rows_rise = pairs_of_map of_view (λ (m n : ℕ). m < n) views rising

  pub view_there : In view views
  view_there = (found_in (λ (v : View). eqb v.number number) views view kept).0

  pub view_number : view.number ≡ number
  view_number =
      eqb-true view.number number
      (found_in (λ (v : View). eqb v.number number) views view kept).1

  -- a view of that number is this one
  pub one_view : (other : View) → In other views → other.number ≡ number → other ≡ view
  one_view = one_is of_view number (grown group) views view rows_rise kept

  -- what holds of this one once it is grown, and of every other one
  pub each_grown : (P : View → Type 0) → P (grown group view)
      → ((other : View) → In other views → other.number ≢ number → P other)
      → All P (with_row number (grown group) views)
  each_grown = each_changed of_view number (grown group) views view rows_rise kept

  abbrev before_files : List FileEntry
  before_files = standing_files (map bare_row views)

  abbrev new_files : List FileEntry
  new_files = group_files group view.application

  abbrev made : List View
  made = with_row number (grown group) views

  module _ (entry : FileEntry) where
    abbrev Stands : View → Type 0
    Stands v = In entry (standing_entries v.groups v.application)

    put_there : (v : View) → In v views → Stands (change of_view number (grown group) v)
        → In entry (standing_files (map bare_row made))
    put_there v of stands =
        files_row made (change of_view number (grown group) v) entry
        (in_map (change of_view number (grown group)) views v of) stands

    there_by : In entry before_files ⊎ In entry new_files
        → In entry (standing_files (map bare_row made))
    there_by (inl stood) =
        let row = row_files views entry stood in
        put_there row.0 row.1 (became of_view number (grown group) Stands row.0
        (λ is. grown_left group row.0 entry row.2) (λ other. row.2))
    there_by (inr of) =
        put_there view view_there (became of_view number (grown group) Stands view
        (λ is. grown_right group view entry of) (λ other. absurd (other view_number)))

    standing_there : In entry (before_files ++ new_files)
        → In entry (standing_files (map bare_row made))
    standing_there there = there_by (in_either before_files new_files entry there)

    back_before : (v : View) → In v views → Stands v → In entry (before_files ++ new_files)
    back_before v of stands =
        in_left before_files new_files entry (files_row views v entry of stands)

    back_by : Stands view ⊎ In entry new_files → In entry (before_files ++ new_files)
    back_by (inl stood) = back_before view view_there stood
    back_by (inr of) = in_right before_files new_files entry of

    standing_back : In entry (standing_files (map bare_row made))
        → In entry (before_files ++ new_files)
    standing_back there =
        let row = row_files made entry there in
        all_in (λ (v : View). Stands v → In entry (before_files ++ new_files)) made row.0
        (each_grown (λ (v : View). Stands v → In entry (before_files ++ new_files))
        (λ stands. back_by (grown_either group view entry stands))
        (λ other of unlike stands. back_before other of stands)) row.1 row.2

  -- the contents are those of all files that stand
  pub contents_grown : (old new : List Content)
      → AreContentsOf before_files old → Brings old new_files new
      → AreContentsOf (standing_files (map bare_row made)) (old ++ new)
  contents_grown old new are brings =
      same_contents (before_files ++ new_files) (standing_files (map bare_row made)) (old ++ new)
      standing_there standing_back (joined before_files new_files old new are brings)

-- a view with one more group is still what an install could bring
grown_row : (group : List ℕ) (view : View) → IsRow view → IsRow (grown group view)
grown_row group view is = record {
  deployment = is.deployment;
  application = is.application;
  base = is.base;
  order = is.order;
  locals = is.locals;
  few = is.few;
}

pub grown_tables : (tables : Tables) (number : ℕ) (group : List ℕ) (contents : List Content)
    (view : View) → AreTables tables → row_at number tables.views ≡ Some view
    → MayGrow tables group contents view
    → AreTables (record tables {
      views = with_row number (grown group) tables.views;
      contents = tables.contents ++ contents;
    })
grown_tables tables number group contents view are kept may =
    let numbers = map_kept of_view number (grown group) of_view (λ v. refl) tables.views in
    record {
      order = are.order;
      few_apps = are.few_apps;
      rising = subst (λ (ns : List ℕ). AllPairs (λ (m n : ℕ). m < n) ns) (sym numbers) are.rising;
      below = subst (λ (ns : List ℕ). All (λ (n : ℕ). n < tables.next_view) ns) (sym numbers)
          are.below;
      limit = are.limit;
      few_views = omega (
        arith,
        are.few_views,
        length-map tables.views (change of_view number (grown group)),
      );
      few_files = omega (
        arith,
        are.few_files,
        sum_kept of_view number (grown group) (λ (v : View). length v.application.files)
            (λ v. refl) tables.views,
      );
      lease_numbers = are.lease_numbers;
      few_leases = are.few_leases;
      rows = each_grown number group tables.views view are.rising kept IsRow
          (grown_row group view (all_in IsRow tables.views view are.rows
          (view_there number group tables.views view are.rising kept)))
          (λ other of unlike. all_in IsRow tables.views other are.rows of);
      contents = contents_grown number group tables.views view are.rising kept tables.contents
          contents are.contents may.brings;
    }

-- ---- the group, as it comes

-- the view at the place is grown
pub set_grown : (number : ℕ) (group : List ℕ) (views new : List View) (place : ℕ) (view : View)
    → AllPairs (λ (m n : ℕ). m < n) (map of_view views) → row_at number views ≡ Some view
    → place < length views → slice_get views place ≡ row_at number views
    → HoldsAt (λ v. new ≡ set views place (grown group v)) views place
    → new ≡ with_row number (grown group) views
set_grown number group views new place view rising kept within stands edit =
    edit view
    ∙ changed_place of_view number (grown group) views place view
    (rows_rise number group views view rising kept) within
    (ap of_view (get_or_from_slice_get views place view view (stands ∙ kept))
    ∙ view_number number group views view rising kept)

index_at : (number : ℕ) (group : List ℕ) (v next : View) (places : List ℕ)
    → change of_view number (grown group) v ≡ next → IsNameIndex v.application.files places
    → IsNameIndex next.application.files places
index_at number group v next places is has =
    subst (λ (w : View). IsNameIndex w.application.files places) is
    (became of_view number (grown group)
    (λ (w : View). IsNameIndex w.application.files places) v (λ here. has) (λ other. has))

-- the indexes of names stay
pub grown_indexes : (number : ℕ) (group : List ℕ) (views : List View) (indexes : List (List ℕ))
    → AreNameIndexes views indexes
    → AreNameIndexes (with_row number (grown group) views) indexes
grown_indexes number group views indexes are = record {
  long = are.long ∙ sym (length-map views (change of_view number (grown group)));
  each = λ k next places there listed. by k next places (slice_get views k) refl
      (sym (slice_get-map (change of_view number (grown group)) views k) ∙ there) listed;
}
  where
    by : (k : ℕ) (next : View) (places : List ℕ) (o : Option View) → slice_get views k ≡ o
        → option_map (change of_view number (grown group)) (slice_get views k) ≡ Some next
        → slice_get indexes k ≡ Some places → IsNameIndex next.application.files places
    by k next places None e there listed =
        absurd (none-some next
        (sym (ap (option_map (change of_view number (grown group))) e) ∙ there))
    by k next places (Some v) e there listed =
        index_at number group v next places
        (same_Some (change of_view number (grown group) v) next
        (sym (ap (option_map (change of_view number (grown group))) e) ∙ there))
        (are.each k v places e listed)

-- what the place of the view, the edit there and the new contents come to
module _ (number : ℕ) (group : List ℕ) (new : List Content) {inside now : Tables}
    {contents : List Content} {views : List View} {place : ℕ} (same : inside ≡ now)
    (are : AreTables inside) (fits : FitsGroup now number group new)
    (stands : (place < length now.views) × (slice_get now.views place ≡ row_at number now.views))
    (edit : HoldsAt (λ v. views ≡ set inside.views place (grown group v)) inside.views place)
    (more : contents ≡ inside.contents ++ new) where
  row : (view : View) × (row_at number inside.views ≡ Some view) × MayGrow inside group new view
  row =
      row_grows number group inside new
      (subst (λ (t : Tables). FitsGroup t number group new) (sym same) fits)

  pub views_are : views ≡ with_row number (grown group) inside.views
  views_are =
      let at = subst (λ (t : Tables). (place < length t.views)
      × (slice_get t.views place ≡ row_at number t.views)) (sym same) stands in
      set_grown number group inside.views views place row.0 are.rising row.1 at.0 at.1 edit

  pub tables_are : AreTables (record inside { views = views; contents = contents })
  tables_are = rw (views_are, more) (grown_tables inside number group new row.0 are row.1 row.2)

  pub indexes_are : (indexes : List (List ℕ)) → AreNameIndexes inside.views indexes
      → AreNameIndexes views indexes
  indexes_are indexes named =
      same_indexes (with_row number (grown group) inside.views) views indexes indexes
      (grown_indexes number group inside.views indexes named) views_are refl

  pub group_is : record inside { views = views; contents = contents }
      ≡ effect (Group number group new) now
  group_is = rw (views_are, more) (ap (effect (Group number group new)) same)

-- ---- the place of a view

module _ (number : ℕ) (views : List View)
    (rising : AllPairs (λ (m n : ℕ). m < n) (map of_view views)) where
  some_view : (vs : List View) (place : ℕ) → place < length vs → View
  some_view [] place within = absurd (omega arith)
  some_view (view ∷ vs) place within = view

  place_by : (result : Result ℕ ℕ) → IsSearchInRange result (length views)
      → IsBinarySearchResult (λ (view : View). nat_cmp view.number number) views result
      → IfSome (result_ok result) (λ place. (place < length views)
      × (slice_get views place ≡ row_at number views))
  place_by (Ok place) within found =
      let d = some_view views place within in (
        within,
        slice_get-get_or views place d within
            ∙ number_at of_view views number rising place d within found,
      )
  place_by (Err gap) within found = tt

  none_by : (result : Result ℕ ℕ)
      → IsBinarySearchResult (λ (view : View). nat_cmp view.number number) views result
      → IfNone (result_ok result) (row_at number views ≡ None)
  none_by (Ok place) found = tt
  none_by (Err gap) found = sym (no_number of_view views number rising gap found)

  -- what the search ends at, as the views are read
  pub row_place : (read : List View) (result : Result ℕ ℕ) → read ≡ views
      → IsSearchInRange result (length read)
      → IsBinarySearchResult (λ (view : View). nat_cmp view.number number) read result
      → IfSome (result_ok result) (λ place. (place < length views)
      × (slice_get views place ≡ row_at number views))
  row_place read result same within found =
      place_by result (subst (λ (vs : List View). IsSearchInRange result (length vs)) same within)
      (subst (λ (vs : List View). IsBinarySearchResult
      (λ (view : View). nat_cmp view.number number) vs result) same found)

  pub row_none : (read : List View) (result : Result ℕ ℕ) → read ≡ views
      → IsBinarySearchResult (λ (view : View). nat_cmp view.number number) read result
      → IfNone (result_ok result) (row_at number views ≡ None)
  row_none read result same found =
      none_by result (subst (λ (vs : List View). IsBinarySearchResult
      (λ (view : View). nat_cmp view.number number) vs result) same found)
