-- Tables without some of their views.
use Rattle.std.proofs.Common.{◌≡◌, ◌∙◌, ◌≤◌, ◌<◌, ◌-◌, ◌++◌, ◌||◌, refl, sym, ap, subst, ℕ, Bool, true, false, not, eqb, eqb-true, eq-eqb, List, [], ◌∷◌, length, map, All, AllPairs, Contains, Some, Ok, Err, IsSome, get_or, set, arith}
use Rattle.std.specs.Prelude.{Any, filter, slice_get, sum_by}
use Rattle.std.specs.List.{list_any, range_with_len}
use Rattle.std.specs.List.Sorted.{IsBinarySearchResult, IsPermutation}
use Rattle.std.specs.Ordering.{nat_cmp}
use Rattle.std.proofs.lemmas.Bool.{false_from_ne_true, false≢true, or_right}
use Rattle.std.proofs.lemmas.List.{length-append, length-map}
use Rattle.std.proofs.lemmas.List.Elements.{All-filter}
use Rattle.std.proofs.lemmas.List.Filters.{length-filter_both, sum_by-filter_both}
use Rattle.std.proofs.lemmas.List.Folds.{list_any-append}
use Rattle.std.proofs.lemmas.List.FromFn.{length-range_with_len}
use Rattle.std.proofs.lemmas.List.Kept.{AllPairs-filter}
use Rattle.std.proofs.lemmas.List.Sorted.{length_permutation}
use Rattle.std.proofs.lemmas.List.Sums.{sum_by-cons}
use Rattle.std.proofs.lemmas.Option.{none-some, slice_get-get_or, slice_get-map}
use Rattle.std.proofs.Math.Bool.{or-false}
use Rattle.small_types.specs.declared.limits.TheConstants.{FILE_COUNT_LIMIT}
use Rattle.digest_list.specs.declared.digest.Digest.{Digest}
use Rattle.manifests.specs.declared.facts.FileEntry.{FileEntry}
use Rattle.machine.specs.Blocks.{standing_files}
use Rattle.machine.specs.Views.{ContentKey, content_key, standing_entries}
use Rattle.machine.proofs.FirstFound.{find_some, map_value}
use Rattle.machine.proofs.FirstFound.{find_in as found_in}
use Rattle.machine.proofs.Members.{In, all_in, filter_in, filter_map_is, in_all, in_filter, in_map, map_in, pairs_weaker, sum_within}
use Rattle.machine.proofs.OwnContents.{in_passes, passes_in}
use Rattle.store_state.specs.declared.view.Content.{Content}
use Rattle.store_state.specs.declared.view.View.{View}
use Rattle.store_state.specs.Change.{IsRow}
use Rattle.store_state.specs.ContentKeys.{content_key_cmp}
use Rattle.store_state.specs.Contents.{AreContentsOf, content_of, held_key, is_content_of, is_same}
use Rattle.store_state.specs.Dropped.{dropped, is_among, is_needed, needed, without_rows}
use Rattle.store_state.specs.Kept.{AreTables}
use Rattle.store_state.specs.Marks.{kept_by}
use Rattle.store_state.specs.Named.{AreNameIndexes}
use Rattle.store_state.specs.Places.{ArePlaces, AreSorted}
use Rattle.store_state.specs.Rows.{listed_files}
use Rattle.store_state.specs.Tables.{Tables, bare_row}
use Rattle.store_state.proofs.Firsts.{PassesOnce, none_pass}
use Rattle.store_state.proofs.GrownTables.{files_row, of_view, row_files}
use Rattle.store_state.proofs.Indexed.{one_content, pairs_of_map}
use Rattle.store_state.proofs.Keyed.{any_in, differ, find_in, in_any, in_find, key_of, of_key}
use Rattle.store_state.proofs.MarkedItems.{kept_filter, kept_indexes, marked_at, marked_nowhere, some_item}
use Rattle.store_state.proofs.NamedFiles.{is_standing, same_indexes}
use Rattle.store_state.proofs.Numbered.{no_number, number_at}

-- ---- how many contents there are

standing_few : (groups : List (List ℕ)) (entries : List FileEntry)
    → length (filter (is_standing groups) entries) ≤ length entries
standing_few groups entries =
    let both = length-filter_both (is_standing groups)
    (λ (e : FileEntry). not (is_standing groups e)) (λ e. refl) entries in
    omega (arith, both)

-- files that stand are listed
pub files_few : (views : List View)
    → length (standing_files (map bare_row views)) ≤ listed_files views
files_few [] = omega arith
files_few (view ∷ views) =
    let own = standing_few view.groups view.application.files in
    let rest = files_few views in
    omega (
      arith,
      own,
      rest,
      length-append (standing_entries view.groups view.application)
          (standing_files (map bare_row views)),
      sum_by-cons (λ (v : View). length v.application.files) view views,
    )

count_of : {X : Type 0} (xs : List X) → sum_by (λ x. 1) xs ≡ length xs
count_of [] = refl
count_of (x ∷ xs) = omega (arith, sum_by-cons (λ y. 1) x xs, count_of xs)

-- no two contents are of one file
pub contents_few : (entries : List FileEntry) (contents : List Content)
    → AreContentsOf entries contents → length contents ≤ length entries
contents_few entries contents are =
    let within = sum_within (λ (k : ContentKey). 1) (map held_key contents) (map content_key entries)
    (differ entries contents are)
    (λ k there. (
    let content = map_in held_key contents k there in
    let one = any_in (λ (e : FileEntry). is_content_of e content.0 ≡ true) entries
    (all_in (λ (c : Content). Any (λ (e : FileEntry). is_content_of e c ≡ true) entries) contents
    content.0 are.only content.1) in
    subst (λ (x : ContentKey). In x (map content_key entries))
    (of_key one.0 content.0 one.2 ∙ content.2) (in_map content_key entries one.0 one.1)
    )) in
    omega (
      arith,
      within,
      count_of (map held_key contents),
      count_of (map content_key entries),
      length-map contents held_key,
      length-map entries content_key,
    )

pub few_contents : (tables : Tables) → AreTables tables
    → length tables.contents ≤ FILE_COUNT_LIMIT
few_contents tables are =
    let few = contents_few (standing_files (map bare_row tables.views)) tables.contents
    are.contents in
    let listed = files_few tables.views in
    omega (arith, few, listed, are.few_files)

-- ---- what is left

module _ (keep : View → Bool) (views : List View) where
  pub left_there : (entry : FileEntry) → In entry (standing_files (map bare_row (filter keep views)))
      → In entry (standing_files (map bare_row views))
  left_there entry there =
      let row = row_files (filter keep views) entry there in
      files_row views row.0 entry (filter_in keep views row.0 row.1).1 row.2

  -- the contents that are needed are those of the files that are left
  pub needed_are : (contents : List Content)
      → AreContentsOf (standing_files (map bare_row views)) contents
      → AreContentsOf (standing_files (map bare_row (filter keep views)))
      (needed (filter keep views) contents)
  needed_are contents are =
      let entries = standing_files (map bare_row (filter keep views)) in
      let all = standing_files (map bare_row views) in
      record {
        each = in_all (λ (e : FileEntry). IsSome (content_of (needed (filter keep views) contents) e))
            entries
            (λ e there. (
            let one = in_find (is_content_of e) contents
            (all_in (λ (f : FileEntry). IsSome (content_of contents f)) all e are.each
            (left_there e there)) in
            find_in (is_content_of e) (needed (filter keep views) contents) one.0
            (in_filter (is_needed entries) contents one.0
            (in_passes (λ (f : FileEntry). is_content_of f one.0) entries e there one.2) one.1)
            one.2
            ));
        only = in_all
            (λ (c : Content). Any (λ (e : FileEntry). is_content_of e c ≡ true) entries)
            (needed (filter keep views) contents)
            (λ c there. (
            let one = passes_in (λ (e : FileEntry). is_content_of e c) entries
            (filter_in (is_needed entries) contents c there).0 in
            in_any (λ (e : FileEntry). is_content_of e c ≡ true) entries one.0 one.1 one.2
            ));
        once = AllPairs-filter (λ (a b : Content). is_same a b ≡ false) (is_needed entries)
            contents are.once;
      }

pub dropped_tables : (numbers : List ℕ) (tables : Tables) → AreTables tables
    → AreTables (dropped numbers tables)
dropped_tables numbers tables are =
    let keep = λ (view : View). not (is_among numbers view) in
    let lost = λ (view : View). not (not (is_among numbers view)) in
    record {
      order = are.order;
      few_apps = are.few_apps;
      rising = subst (λ (ns : List ℕ). AllPairs (λ (m n : ℕ). m < n) ns)
          (filter_map_is of_view (λ (n : ℕ). not (list_any (λ (m : ℕ). eqb m n) numbers))
          tables.views)
          (AllPairs-filter (λ (m n : ℕ). m < n)
          (λ (n : ℕ). not (list_any (λ (m : ℕ). eqb m n) numbers)) (map of_view tables.views)
          are.rising);
      below = subst (λ (ns : List ℕ). All (λ (n : ℕ). n < tables.next_view) ns)
          (filter_map_is of_view (λ (n : ℕ). not (list_any (λ (m : ℕ). eqb m n) numbers))
          tables.views)
          (All-filter (λ (n : ℕ). not (list_any (λ (m : ℕ). eqb m n) numbers))
          (λ (n : ℕ). n < tables.next_view) (map of_view tables.views) are.below);
      limit = are.limit;
      few_views = omega (
        arith,
        are.few_views,
        length-filter_both keep lost (λ v. refl) tables.views,
      );
      few_files = omega (
        arith,
        are.few_files,
        sum_by-filter_both keep lost (λ v. refl) (λ (v : View). length v.application.files)
            tables.views,
      );
      lease_numbers = are.lease_numbers;
      few_leases = are.few_leases;
      rows = All-filter keep IsRow tables.views are.rows;
      contents = needed_are keep tables.views tables.contents are.contents;
    }

-- ---- the marks of contents

more_needed : (entries : List FileEntry) (entry : FileEntry) (content : Content)
    → is_needed (entries ++ entry ∷ []) content
    ≡ (is_needed entries content || is_content_of entry content)
more_needed entries entry content =
    list_any-append (λ (e : FileEntry). is_content_of e content) entries (entry ∷ [])
    ∙ ap (λ (b : Bool). is_needed entries content || b) (or-false (is_content_of entry content))

module _ (contents : List Content) (entry : FileEntry) (list : List Digest)
    (same : list ≡ entry.list)
    (once : AllPairs (λ (a b : Content). is_same a b ≡ false) contents)
    (entries : List FileEntry) where
  needs : (content : Content) → is_content_of entry content ≡ true
      → is_needed (entries ++ entry ∷ []) content ≡ true
  needs content is =
      more_needed entries entry content
      ∙ or_right (is_needed entries content) (is_content_of entry content) is

  needs_no_more : (content : Content) → is_content_of entry content ≡ false
      → is_needed (entries ++ entry ∷ []) content ≡ is_needed entries content
  needs_no_more content not_it =
      more_needed entries entry content
      ∙ ap (λ (b : Bool). is_needed entries content || b) not_it
      ∙ or-false (is_needed entries content)

  -- the content of one file more is marked
  pub file_marked : (marks new : List Bool) (place : ℕ)
      → slice_get (map held_key contents) place
      ≡ Some (record { size = entry.size; list = list })
      → new ≡ set marks place true → marks ≡ map (is_needed entries) contents
      → new ≡ map (is_needed (entries ++ entry ∷ [])) contents
  file_marked marks new place keyed is was =
      let one = map_value held_key (slice_get contents place)
      (record { size = entry.size; list = list })
      (sym (slice_get-map held_key contents place) ∙ keyed) in
      is ∙ ap (λ (ms : List Bool). set ms place true) was
      ∙ marked_at (is_content_of entry) (is_needed entries) (is_needed (entries ++ entry ∷ []))
      true needs needs_no_more contents place one.0 (one_content contents entry once) one.1
      (key_of entry one.0
      (ap (λ (l : List Digest). record { size = entry.size; list = l }) (sym same) ∙ sym one.2))

  -- or it has none
  pub file_unmarked : (marks new : List Bool)
      → ¬ Contains (map held_key contents) (record { size = entry.size; list = list })
      → new ≡ marks → marks ≡ map (is_needed entries) contents
      → new ≡ map (is_needed (entries ++ entry ∷ [])) contents
  file_unmarked marks new nowhere is was =
      is ∙ was
      ∙ marked_nowhere (is_content_of entry) (is_needed entries) (is_needed (entries ++ entry ∷ []))
      true needs needs_no_more contents
      (none_pass held_key (content_key entry) (is_content_of entry)
      (λ content passes. sym (of_key entry content passes)) contents
      (subst (λ (l : List Digest). ¬ Contains (map held_key contents)
      (record { size = entry.size; list = l })) same nowhere))

-- ---- the marks of views

flipped : (m n : ℕ) (b : Bool) → eqb m n ≡ b → eqb n m ≡ b
flipped m n true is = eq-eqb n m (sym (eqb-true m n is))
flipped m n false is =
    false_from_ne_true (eqb n m) (λ same. (let e = sym is ∙ eq-eqb m n (sym (eqb-true n m same)) in
    absurd (false≢true e)))

among_more : (numbers : List ℕ) (number : ℕ) (view : View)
    → not (is_among (numbers ++ number ∷ []) view)
    ≡ not (is_among numbers view || eqb number view.number)
among_more numbers number view =
    ap not (list_any-append (λ (n : ℕ). eqb n view.number) numbers (number ∷ [])
    ∙ ap (λ (b : Bool). is_among numbers view || b) (or-false (eqb number view.number)))

module _ (views : List View) (number : ℕ)
    (rising : AllPairs (λ (m n : ℕ). m < n) (map of_view views)) (numbers : List ℕ) where
  abbrev has_number : View → Bool
  has_number view = eqb number view.number

  one_number : PassesOnce has_number views
  one_number =
      pairs_weaker (λ (v w : View). v.number < w.number)
      (λ (v w : View). eqb number v.number ≡ true → eqb number w.number ≡ true → ⊥) views
      (λ v w less first second.
      omega (arith, less, eqb-true number v.number first, eqb-true number w.number second))
      (pairs_of_map of_view (λ (m n : ℕ). m < n) views rising)

  goes : (view : View) → eqb number view.number ≡ true
      → not (is_among (numbers ++ number ∷ []) view) ≡ false
  goes view is =
      among_more numbers number view
      ∙ ap not (or_right (is_among numbers view) (eqb number view.number) is)

  stays : (view : View) → eqb number view.number ≡ false
      → not (is_among (numbers ++ number ∷ []) view) ≡ not (is_among numbers view)
  stays view other =
      among_more numbers number view
      ∙ ap (λ (b : Bool). not (is_among numbers view || b)) other
      ∙ ap not (or-false (is_among numbers view))

  abbrev before : View → Bool
  before view = not (is_among numbers view)

  abbrev after : View → Bool
  after view = not (is_among (numbers ++ number ∷ []) view)

  -- the view of the number is not marked
  pub view_unmarked : (marks new : List Bool) (place : ℕ) → place < length views
      → IsBinarySearchResult (λ (view : View). nat_cmp view.number number) views (Ok place)
      → new ≡ set marks place false → marks ≡ map before views → new ≡ map after views
  view_unmarked marks new place within found is was =
      let d = some_item views place within in
      let row = get_or views place d in
      let own = found_in (λ (v : View). eqb v.number number) views row
      (sym (number_at of_view views number rising place d within found)) in
      is ∙ ap (λ (ms : List Bool). set ms place false) was
      ∙ marked_at has_number before after false goes stays views place row one_number
      (slice_get-get_or views place d within) (flipped row.number number true own.1)

  pub no_view_unmarked : (marks new : List Bool) (gap : ℕ)
      → IsBinarySearchResult (λ (view : View). nat_cmp view.number number) views (Err gap)
      → new ≡ marks → marks ≡ map before views → new ≡ map after views
  no_view_unmarked marks new gap parted is was =
      let none = no_number of_view views number rising gap parted in
      is ∙ was
      ∙ marked_nowhere has_number before after false goes stays views
      (in_all (λ (v : View). eqb number v.number ≡ false) views
      (λ v there. flipped v.number number false (false_from_ne_true (eqb v.number number)
      (λ passes. (let some = find_some (λ (w : View). eqb w.number number) views v there passes in
      none-some some.0 (none ∙ some.1))))))

-- ---- what is kept by the marks

pub kept_rows : (numbers read_numbers : List ℕ) (views read left : List View)
    (marks slice : List Bool) → read_numbers ≡ numbers → read ≡ views
    → marks ≡ map (λ (view : View). not (is_among read_numbers view)) read → slice ≡ marks
    → left ≡ kept_by slice views → left ≡ without_rows numbers views
kept_rows numbers read_numbers views read left marks slice same_numbers same_views marked same is =
    is
    ∙ ap (λ (ms : List Bool). kept_by ms views)
    (same ∙ marked
    ∙ ap (λ (ns : List ℕ). map (λ (view : View). not (is_among ns view)) read) same_numbers
    ∙ ap (λ (vs : List View). map (λ (view : View). not (is_among numbers view)) vs) same_views)
    ∙ kept_filter (λ (view : View). not (is_among numbers view)) views

pub kept_contents : (views read_views : List View) (contents read left : List Content)
    (marks slice : List Bool) → read_views ≡ views → read ≡ contents
    → marks ≡ map (is_needed (standing_files (map bare_row read_views))) read → slice ≡ marks
    → left ≡ kept_by slice contents → left ≡ needed views contents
kept_contents views read_views contents read left marks slice same_views same_contents marked same
    is =
    is
    ∙ ap (λ (ms : List Bool). kept_by ms contents)
    (same ∙ marked
    ∙ ap (λ (vs : List View). map (is_needed (standing_files (map bare_row vs))) read) same_views
    ∙ ap (λ (cs : List Content). map (is_needed (standing_files (map bare_row views))) cs)
    same_contents)
    ∙ kept_filter (is_needed (standing_files (map bare_row views))) contents

module _ (numbers : List ℕ) {inside now : Tables} {views : List View} {contents : List Content}
    (same : inside ≡ now) (are : AreTables inside)
    (views_are : views ≡ without_rows numbers inside.views)
    (contents_are : contents ≡ needed views inside.contents) where
  left_contents : contents ≡ needed (without_rows numbers inside.views) inside.contents
  left_contents = contents_are ∙ ap (λ (vs : List View). needed vs inside.contents) views_are

  pub left_tables : AreTables (record inside { views = views; contents = contents })
  left_tables = rw (views_are, left_contents) (dropped_tables numbers inside are)

  pub left_is : record inside { views = views; contents = contents } ≡ dropped numbers now
  left_is = rw (views_are, left_contents) (ap (dropped numbers) same)

-- the indexes of the views that are kept
pub left_indexes : (views left : List View) (indexes kept : List (List ℕ))
    (marks first second : List Bool) → AreNameIndexes views indexes → first ≡ marks
    → second ≡ marks → left ≡ kept_by first views → kept ≡ kept_by second indexes
    → AreNameIndexes left kept
left_indexes views left indexes kept marks first second are same_first same_second left_is kept_is =
    same_indexes (kept_by marks views) left (kept_by marks indexes) kept
    (kept_indexes marks views indexes are)
    (left_is ∙ ap (λ (ms : List Bool). kept_by ms views) same_first)
    (kept_is ∙ ap (λ (ms : List Bool). kept_by ms indexes) same_second)

-- no more than there were
pub needed_fewer : (views : List View) (contents : List Content)
    → length (needed views contents) ≤ length contents
needed_fewer views contents =
    let keep = is_needed (standing_files (map bare_row views)) in
    let both = length-filter_both keep (λ (c : Content). not (keep c)) (λ c. refl) contents in
    omega (arith, both)

-- an index has as many places as there are contents
pub index_long : (contents : List Content) (index : List ℕ)
    → ArePlaces content_key_cmp (map held_key contents) index → length index ≡ length contents
index_long contents index are =
    length_permutation (range_with_len 0 (length (map held_key contents))) index are.same
    ∙ length-range_with_len 0 (length (map held_key contents))
    ∙ length-map contents held_key

-- the index of the contents that are left is made anew
pub placed_anew : (contents read : List Content) (none index : List ℕ) → read ≡ contents
    → none ≡ [] → AreSorted content_key_cmp (map held_key read) index
    → IsPermutation (none ++ range_with_len 0 (length read - 0)) index
    → ArePlaces content_key_cmp (map held_key contents) index
placed_anew contents read none index same empty sorted moved = record {
  sorted =
      subst (λ (cs : List Content). AreSorted content_key_cmp (map held_key cs) index) same sorted;
  same =
      let long : length read - 0 ≡ length (map held_key contents) =
      omega (arith, ap length same, length-map contents held_key) in
      subst (λ (n : ℕ). IsPermutation (range_with_len 0 n) index) long
      (subst (λ (ns : List ℕ). IsPermutation (ns ++ range_with_len 0 (length read - 0)) index)
      empty moved);
}
