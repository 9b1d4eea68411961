-- Searches among files in the order of their content keys, and among numbers that rise.
use Rattle.std.proofs.Common.{◌≡◌, ◌∙◌, ◌+◌, ◌<◌, ◌≤◌, ◌⊎◌, inl, inr, refl, sym, ap, subst, ◌||◌, ℕ, Bool, true, List, [], ◌∷◌, length, get_or, map, AllPairs, Result, Ok, Err, arith}
use Rattle.std.specs.Cmp.{nat_cmp_is}
use Rattle.std.specs.Prelude.{is_ok, filter, not}
use Rattle.std.specs.List.{list_any}
use Rattle.std.specs.List.Sorted.{IsBinarySearchResult, IsNonDecreasingBy, IsPartitionPoint, IsPermutation, IsSearchInRange, IsSorted, IsSortedByKey}
use Rattle.std.specs.Ordering.{is_lt, nat_cmp, ordering_index}
use Rattle.std.specs.declared.cmp.Ordering.TheVariants.{Less, Equal, Greater}
use Rattle.std.proofs.lemmas.Bool.{cases_lt, false_from_ne_true}
use Rattle.std.proofs.lemmas.Cmp.{tied_itself}
use Rattle.std.proofs.lemmas.List.Elements.{Contains-get_or}
use Rattle.std.proofs.lemmas.List.Kept.{AllPairs-filter}
use Rattle.std.proofs.lemmas.List.Sorted.{IsPermutation-map, list_any-IsPermutation, searchable_from_sorted}
use Rattle.small_types.specs.declared.room.Room.{Room}
use Rattle.manifests.specs.declared.facts.FileEntry.{FileEntry}
use Rattle.machine.specs.CleanRow.{removable}
use Rattle.machine.specs.InUse.{is_in_use}
use Rattle.machine.specs.Shape.{BareView}
use Rattle.machine.specs.Views.{ContentKey, content_key}
use Rattle.machine.proofs.Members.{contains_in, in_contains}
use Rattle.machine.proofs.OwnContents.{in_passes, passes_in}
use Rattle.store_state.specs.declared.view.Content.{Content}
use Rattle.store_state.specs.declared.view.View.{View}
use Rattle.store_state.specs.ContentKeys.{content_key_cmp}
use Rattle.store_state.specs.Contents.{held_key, is_content_of}
use Rattle.store_state.specs.Dropped.{is_needed}
use Rattle.store_state.specs.Kept.{AreTables}
use Rattle.store_state.specs.Tables.{Tables, bare_row, table_shape}
use Rattle.store_state.proofs.KeyOrder.{content_key_total, one_key}
use Rattle.store_state.proofs.Keyed.{key_of, of_key}
use Rattle.store_state.proofs.MarkedItems.{some_item}

-- ---- one element that has the key

module _ {X : Type 0} (key : X → ContentKey) (xs : List X)
    (sorted : IsSortedByKey key content_key_cmp xs) (wanted : ContentKey) (test : X → Bool)
    (has : (x : X) → test x ≡ true → key x ≡ wanted)
    (passes : (x : X) → key x ≡ wanted → test x ≡ true) where
  falls : IsNonDecreasingBy (λ (x : X). ordering_index (content_key_cmp (key x) wanted)) xs
  falls = searchable_from_sorted content_key_total key xs wanted sorted

  equal : (place : ℕ) (x : X) → get_or xs place x ≡ x → test x ≡ true
      → content_key_cmp (key (get_or xs place x)) wanted ≡ Equal
  equal place x is found =
      ap (λ (k : ContentKey). content_key_cmp k wanted) (ap key is ∙ has x found)
      ∙ tied_itself content_key_total wanted

  none_by : (gap : ℕ)
      → IsPartitionPoint (λ (x : X). content_key_cmp (key x) wanted ≡ Less)
      (λ (x : X). content_key_cmp (key x) wanted ≡ Greater) xs gap
      → (place : ℕ) (x : X) → place < length xs → get_or xs place x ≡ x → test x ≡ true
      → place < gap ⊎ gap ≤ place → ⊥
  none_by gap parts place x within is found (inl before) =
      let e = sym (equal place x is found) ∙ parts.0 place x (omega arith) before in absurd cc
  none_by gap parts place x within is found (inr after) =
      let e = sym (equal place x is found) ∙ parts.1 place x after within in absurd cc

  pub search_any : (result : Result ℕ ℕ) → IsSearchInRange result (length xs)
      → IsBinarySearchResult (λ (x : X). content_key_cmp (key x) wanted) xs result
      → is_ok result ≡ list_any test xs
  search_any (Ok place) range found =
      let d = some_item xs place range in
      let x = get_or xs place d in
      sym (in_passes test xs x (in_contains xs x (Contains-get_or xs place d range))
      (passes x (one_key (key x) wanted (found d))))
  search_any (Err gap) range parted =
      sym (false_from_ne_true (list_any test xs) (λ some. (
      let one = passes_in test xs some in
      let there = contains_in xs one.0 one.1 in
      none_by gap (parted falls) there.0 one.0 there.1 there.2 one.2 (cases_lt there.0 gap)
      )))

-- ---- files by what they come from

any_mapped : {X Y : Type 0} (f : X → Y) (p : Y → Bool) (xs : List X)
    → list_any p (map f xs) ≡ list_any (λ (x : X). p (f x)) xs
any_mapped f p [] = refl
any_mapped f p (x ∷ xs) = ap (λ (b : Bool). p (f x) || b) (any_mapped f p xs)

module _ {X : Type 0} (f : X → FileEntry) (content : Content) where
  -- the search tells whether one of them has the content
  pub needed_found : (xs : List X)
      → IsSortedByKey (λ (x : X). content_key (f x)) content_key_cmp xs
      → (result : Result ℕ ℕ) → IsSearchInRange result (length xs)
      → IsBinarySearchResult (λ (x : X). content_key_cmp (content_key (f x)) (held_key content)) xs
      result
      → is_ok result ≡ is_needed (map f xs) content
  needed_found xs sorted result range found =
      search_any (λ (x : X). content_key (f x)) xs sorted (held_key content)
      (λ (x : X). is_content_of (f x) content) (λ x is. of_key (f x) content is)
      (λ x is. key_of (f x) content is) result range found
      ∙ sym (any_mapped f (λ (e : FileEntry). is_content_of e content) xs)

  -- which their order does not change
  pub needed_moved : (xs ys : List X) (entries : List FileEntry) → IsPermutation xs ys
      → map f xs ≡ entries → is_needed (map f ys) content ≡ is_needed entries content
  needed_moved xs ys entries moved are =
      sym (list_any-IsPermutation (λ (e : FileEntry). is_content_of e content) (map f xs) (map f ys)
      (IsPermutation-map f xs ys moved))
      ∙ ap (λ (es : List FileEntry). is_needed es content) are

-- ---- the numbers of the views that a clean takes

bare_numbers : (views : List View)
    → map (λ (view : View). view.number) views
    ≡ map (λ (view : BareView). view.number) (map bare_row views)
bare_numbers [] = refl
bare_numbers (view ∷ views) =
    ap (λ (ns : List ℕ). view.number ∷ ns) (bare_numbers views)

-- numbers that rise are in order
rising_sorted : (numbers : List ℕ) → AllPairs (λ (m n : ℕ). m < n) numbers
    → IsSorted nat_cmp numbers
rising_sorted numbers rising k d low within =
    let less = rising k (k + 1) d (omega arith) within in
    ap is_lt (sym (nat_cmp_is (get_or numbers (k + 1) d) (get_or numbers k d) Greater less))

pub removable_sorted : (room : Room) (tables : Tables) → AreTables tables
    → IsSorted nat_cmp (removable (table_shape room tables))
removable_sorted room tables are =
    let keep = λ (n : ℕ). not (is_in_use n tables.apps tables.leases) in
    rising_sorted (removable (table_shape room tables))
    (subst (λ (ns : List ℕ). AllPairs (λ (m n : ℕ). m < n) (filter keep ns))
    (bare_numbers tables.views)
    (AllPairs-filter (λ (m n : ℕ). m < n) keep (map (λ (view : View). view.number) tables.views)
    are.rising))
