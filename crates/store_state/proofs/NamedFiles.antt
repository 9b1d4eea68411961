-- Program files by their names, and the indexes of views.
use Rattle.std.proofs.Common.{◌≡◌, ◌∙◌, ◌⊎◌, ◌&&◌, ◌++◌, ◌==◌, ◌<◌, inl, inr, refl, sym, ap, subst, ℕ, zero, suc, Bool, true, false, cond, not, List, [], ◌∷◌, length, get_or, map, AllPairs, Contains, Option, Some, None, bytes_eq, arith}
use Rattle.std.specs.Prelude.{IsSome, option_and_then, option_map, slice_get}
use Rattle.std.specs.Ordering.{is_eq}
use Rattle.std.specs.declared.cmp.Ordering.TheVariants.{Equal}
use Rattle.std.proofs.lemmas.List.{length_push}
use Rattle.std.proofs.lemmas.Map.Text.{is_eq-slice_cmp}
use Rattle.std.proofs.lemmas.Option.{same_Some, slice_get-map, slice_get_read, slice_get_within}
use Rattle.std.proofs.lemmas.Slice.Eq.{bytes_eq-Decides}
use Rattle.identity.specs.Printed.{text_cmp}
use Rattle.manifests.specs.declared.facts.FileEntry.{FileEntry}
use Rattle.machine.specs.Blocks.{standing_files}
use Rattle.machine.specs.Shape.{BareView}
use Rattle.machine.specs.Views.{standing_entries, stands_by}
use Rattle.machine.proofs.FirstFound.{find_in, then_value}
use Rattle.machine.proofs.Members.{all_in, in_flat_map, in_map, pairs_weaker}
use Rattle.store_state.specs.declared.view.View.{View}
use Rattle.store_state.specs.Contents.{content_of}
use Rattle.store_state.specs.Kept.{AreTables}
use Rattle.store_state.specs.Named.{AreNameIndexes, IsNameIndex, named_at, named_in, names_of}
use Rattle.store_state.specs.Rows.{row_at}
use Rattle.store_state.specs.Tables.{Tables, bare_row}
use Rattle.store_state.proofs.Firsts.{PassesOnce, find_none_kept, find_place_kept, none_pass}

-- texts that compare as equal are one
pub one_text : (a b : List ℕ) → text_cmp a b ≡ Equal → a ≡ b
one_text a b e = (bytes_eq-Decides a b).0 (sym (is_eq-slice_cmp a b) ∙ ap is_eq e)

-- ---- the file of a name

abbrev has_name : List ℕ → FileEntry → Bool
has_name name entry = bytes_eq entry.name name

abbrev pub is_standing : List (List ℕ) → FileEntry → Bool
is_standing groups entry = not entry.local && stands_by groups entry.group

module _ (name : List ℕ) (view : View) where
  abbrev files : List FileEntry
  files = view.application.files

  one_name : AllPairs (λ (e f : FileEntry). ¬ (e.name ≡ f.name)) files
      → PassesOnce (has_name name) files
  one_name differ =
      pairs_weaker (λ (e f : FileEntry). ¬ (e.name ≡ f.name))
      (λ (e f : FileEntry). has_name name e ≡ true → has_name name f ≡ true → ⊥) files
      (λ e f unlike first second. unlike ((bytes_eq-Decides e.name name).0 first
      ∙ sym ((bytes_eq-Decides f.name name).0 second))) differ

  -- at the place of the name stands its file, where that stands in the view
  pub named_at_place : (place : ℕ) (entry : FileEntry)
      → AllPairs (λ (e f : FileEntry). ¬ (e.name ≡ f.name)) files
      → slice_get (names_of files) place ≡ Some name → slice_get files place ≡ Some entry
      → named_in name view ≡ cond (is_standing view.groups entry) (Some entry) None
  named_at_place place entry differ there stands =
      let same : entry.name ≡ name = same_Some entry.name name
      (sym (ap (option_map (λ (e : FileEntry). e.name)) stands)
      ∙ sym (slice_get-map (λ (e : FileEntry). e.name) files place) ∙ there) in
      find_place_kept (has_name name) (is_standing view.groups) files place entry (one_name differ)
      stands ((bytes_eq-Decides entry.name name).1 same)

  pub none_named : ¬ Contains (names_of files) name → named_in name view ≡ None
  none_named nowhere =
      find_none_kept (has_name name) (is_standing view.groups) files
      (none_pass (λ (e : FileEntry). e.name) name (has_name name)
      (λ e passes. (bytes_eq-Decides e.name name).0 passes) files nowhere)

  -- what the search finds, as it is read
  module _ (read : List FileEntry) (groups : List (List ℕ)) (place : ℕ) (entry : FileEntry)
      (answer : Bool) (differ : AllPairs (λ (e f : FileEntry). ¬ (e.name ≡ f.name)) files)
      (same_files : read ≡ files) (same_groups : groups ≡ view.groups)
      (there : slice_get (names_of read) place ≡ Some name) (within : place < length read)
      (is : entry ≡ get_or read place entry) (stands : answer ≡ is_standing groups entry) where
    found_named : named_in name view ≡ cond answer (Some entry) None
    found_named =
        let at : slice_get files place ≡ Some entry =
        ap (λ (es : List FileEntry). slice_get es place) (sym same_files)
        ∙ slice_get_read read (length read) place entry refl within is in
        named_at_place place entry differ
        (ap (λ (es : List FileEntry). slice_get (names_of es) place) (sym same_files) ∙ there)
        at
        ∙ ap (λ (b : Bool). cond b (Some entry) None)
        (ap (λ (gs : List (List ℕ)). is_standing gs entry) (sym same_groups) ∙ sym stands)

    pub is_named : answer ≡ true → Some entry ≡ named_in name view
    is_named yes_it = sym (found_named ∙ ap (λ (b : Bool). cond b (Some entry) None) yes_it)

    pub not_named : answer ≡ false → None ≡ named_in name view
    not_named no_it = sym (found_named ∙ ap (λ (b : Bool). cond b (Some entry) None) no_it)

  pub nowhere_named : (read : List FileEntry) → read ≡ files → ¬ Contains (names_of read) name
      → None ≡ named_in name view
  nowhere_named read same nowhere =
      sym (none_named (subst (λ (es : List FileEntry). ¬ Contains (names_of es) name) same nowhere))

-- ---- one view more

last_or_before : {X : Type 0} (xs : List X) (x y : X) (k : ℕ) → slice_get (xs ++ x ∷ []) k ≡ Some y
    → slice_get xs k ≡ Some y ⊎ (k ≡ length xs) × (x ≡ y)
last_or_before [] x y zero there = inr (refl, same_Some x y there)
last_or_before [] x y (suc k) there = absurd cc
last_or_before (z ∷ xs) x y zero there = inl there
last_or_before (z ∷ xs) x y (suc k) there = by (last_or_before xs x y k there)
  where
    by : slice_get xs k ≡ Some y ⊎ (k ≡ length xs) × (x ≡ y) → slice_get (z ∷ xs) (suc k) ≡ Some y
        ⊎ (suc k ≡ length (z ∷ xs)) × (x ≡ y)
    by (inl before) = inl before
    by (inr last) = inr (omega (arith, last.0), last.1)

module _ (views : List View) (indexes : List (List ℕ)) (view : View) (index : List ℕ)
    (are : AreNameIndexes views indexes) (is : IsNameIndex view.application.files index) where
  of_each : (k : ℕ) (v : View) (places : List ℕ) → slice_get views k ≡ Some v ⊎ (k ≡ length views)
      × (view ≡ v) → slice_get indexes k ≡ Some places ⊎ (k ≡ length indexes) × (index ≡ places)
      → IsNameIndex v.application.files places
  of_each k v places (inl first) (inl second) = are.each k v places first second
  of_each k v places (inl first) (inr second) =
      absurd (omega (arith, slice_get_within views k v first, second.0, are.long))
  of_each k v places (inr first) (inl second) =
      absurd (omega (arith, slice_get_within indexes k places second, first.0, are.long))
  of_each k v places (inr first) (inr second) =
      subst (λ (u : View). IsNameIndex u.application.files places) first.1
      (subst (λ (ps : List ℕ). IsNameIndex view.application.files ps) second.1 is)

  pub one_index_more : AreNameIndexes (views ++ view ∷ []) (indexes ++ index ∷ [])
  one_index_more = record {
    long = omega (arith, length_push views view, length_push indexes index, are.long);
    each =
        λ k v places first second. of_each k v places (last_or_before views view v k first)
        (last_or_before indexes index places k second);
  }

pub same_indexes : (views left : List View) (indexes kept : List (List ℕ))
    → AreNameIndexes views indexes → left ≡ views → kept ≡ indexes → AreNameIndexes left kept
same_indexes views left indexes kept are same_views same_lists = rw (same_views, same_lists) are

-- the index that is read beside a view is its own
pub index_read : (views read_views : List View) (indexes read_indexes : List (List ℕ)) (place : ℕ)
    (view : View) (index : List ℕ) → AreNameIndexes views indexes → read_views ≡ views
    → read_indexes ≡ indexes → place < length read_views → view ≡ get_or read_views place view
    → index ≡ get_or read_indexes place index → IsNameIndex view.application.files index
index_read views read_views indexes read_indexes place view index are same_views same_lists within
    is has =
    let read : AreNameIndexes read_views read_indexes = same_indexes views read_views indexes
    read_indexes are same_views same_lists in
    read.each place view index (slice_get_read read_views (length read_views) place view refl within
    is) (slice_get_read read_indexes (length read_indexes) place index refl
    (omega (arith, read.long, within)) has)

-- what is found in the view that is read
pub row_of : (number : ℕ) (name : List ℕ) (tables : Tables) (read : List View) (row : Option View)
    → read ≡ tables.views → row ≡ row_at number read
    → option_and_then (named_in name) row ≡ named_at number name tables
row_of number name tables read row same is =
    ap (option_and_then (named_in name)) (is ∙ ap (row_at number) same)

-- a file that is found by its name has its content
pub named_held : (number : ℕ) (name : List ℕ) (tables : Tables) (entry : FileEntry)
    → AreTables tables → named_at number name tables ≡ Some entry
    → IsSome (content_of tables.contents entry)
named_held number name tables entry are is =
    let row = then_value (named_in name) (row_at number tables.views) entry is in
    let kept = find_in (λ (view : View). view.number == number) tables.views row.0 row.1 in
    let stands = find_in (has_name name) (standing_entries row.0.groups row.0.application) entry
    row.2 in
    all_in (λ (e : FileEntry). IsSome (content_of tables.contents e))
    (standing_files (map bare_row tables.views)) entry are.contents.each
    (in_flat_map (λ (view : BareView). standing_entries view.groups view.application)
    (map bare_row tables.views) (bare_row row.0) entry
    (in_map bare_row tables.views row.0 kept.0) stands.0)
