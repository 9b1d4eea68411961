-- Contents and the indexes of their keys.
use Rattle.std.proofs.Common.{◌≡◌, ◌≢◌, ◌∙◌, ◌⊎◌, ◌↔◌, ◌+◌, ◌-◌, ◌<◌, ◌++◌, length, inl, inr, refl, sym, ap, subst, true, false, List, map, All, AllPairs, Contains, IsSome, IsTrue, Bool, ℕ, Some, None, get_or, arith}
use Rattle.std.specs.Prelude.{Any, option_map, slice_get}
use Rattle.std.specs.List.{list_any, range_with_len}
use Rattle.std.specs.List.Sorted.{IsPermutation}
use Rattle.std.specs.Bool.{Decides}
use Rattle.std.specs.Ordering.{eq_by_cmp, is_eq}
use Rattle.std.specs.declared.cmp.Ordering.{Ordering}
use Rattle.std.specs.declared.cmp.Ordering.TheVariants.{Less, Equal, Greater}
use Rattle.std.proofs.lemmas.Bool.{false_from_ne_true}
use Rattle.std.proofs.lemmas.Cmp.{tied_itself}
use Rattle.std.proofs.lemmas.List.{get_or-map, length-append, length-map, map-append}
use Rattle.std.proofs.lemmas.Map.Keys.{IsDistinct-IsPermutation}
use Rattle.std.proofs.lemmas.Map.Made.{AllPairs-from_IsDistinct, IsDistinct-from_AllPairs}
use Rattle.std.proofs.lemmas.List.Sorted.{Contains-permutation, IsPermutation-refl, IsPermutation-sym}
use Rattle.std.proofs.lemmas.Option.{same_Some, slice_get-map, slice_get_read}
use Rattle.digest_list.specs.declared.digest.Digest.{Digest}
use Rattle.manifests.specs.declared.facts.FileEntry.{FileEntry}
use Rattle.machine.specs.Views.{ContentKey, content_key}
use Rattle.machine.proofs.FirstFound.{find_none}
use Rattle.machine.proofs.Members.{In, all_in, contains_in, in_all, in_contains, in_either, in_left, in_map, in_right, map_in, pairs_map, pairs_weaker}
use Rattle.machine.proofs.OwnContents.{in_passes, passes_in}
use Rattle.store_state.specs.declared.view.Content.{Content}
use Rattle.store_state.specs.ContentKeys.{Agree, IsIndex, content_key_cmp}
use Rattle.store_state.specs.Contents.{Brings, content_of, held_key, is_content_of, is_same}
use Rattle.store_state.specs.Places.{ArePlaces, AreSorted}
use Rattle.store_state.proofs.Firsts.{PassesOnce, find_place, none_pass}
use Rattle.store_state.proofs.Inserted.{sorted_still}
use Rattle.store_state.proofs.Places.{more_places}
use Rattle.store_state.proofs.KeyOrder.{one_key, content_key_total}
use Rattle.store_state.proofs.Keyed.{alike, any_in, find_in, in_any, in_find, key_of, key_same, of_key, same_key}

apart : {P : Type 0} → true ≡ false → P
apart e = absurd cc

-- ---- an index holds what it was made of

module _ {X : Type 0} (f : X → ContentKey) (xs : List X) (index : List ContentKey)
    (moved : IsPermutation (map f xs) index) where
  pub indexed : (key : ContentKey) → Contains index key → (x : X) × In x xs × (f x ≡ key)
  indexed key there =
      map_in f xs key
      (in_contains (map f xs) key
      (Contains-permutation index (map f xs) key (IsPermutation-sym (map f xs) index moved) there))

  pub in_index : (x : X) → In x xs → Contains index (f x)
  in_index x there =
      Contains-permutation (map f xs) index (f x) moved
      (contains_in (map f xs) (f x) (in_map f xs x there))

-- ---- the content of a file

module _ (contents : List Content) where
  -- whether a content has the key of the file is whether one is its content
  pub is_there : (entry : FileEntry) (result : Bool)
      → IsTrue result ↔ Contains (map held_key contents) (content_key entry)
      → result ≡ list_any (is_content_of entry) contents
  is_there entry result answers = alike result (list_any (is_content_of entry) contents)
      (λ found. (let one = map_in held_key contents (content_key entry)
      (in_contains (map held_key contents) (content_key entry) (answers.0 found))
      in in_passes (is_content_of entry) contents one.0 one.1
      (key_of entry one.0 (sym one.2))))
      (λ found. (let one = passes_in (is_content_of entry) contents found in answers.1
      (subst (λ (key : ContentKey). Contains (map held_key contents) key)
      (sym (of_key entry one.0 one.2))
      (contains_in (map held_key contents) (held_key one.0)
      (in_map held_key contents one.0 one.1)))))

  -- a file has one content at most
  pub one_content : (entry : FileEntry) → AllPairs (λ (a b : Content). is_same a b ≡ false) contents
      → PassesOnce (is_content_of entry) contents
  one_content entry once =
      pairs_weaker (λ (a b : Content). is_same a b ≡ false)
      (λ (a b : Content). is_content_of entry a ≡ true → is_content_of entry b ≡ true → ⊥) contents
      (λ a b unlike first second. apart
      (sym (key_same a b (sym (of_key entry a first) ∙ of_key entry b second)) ∙ unlike)) once

  -- the content at the place of the key is that of the file
  pub content_at : (entry : FileEntry) (place : ℕ) (content : Content)
      → AllPairs (λ (a b : Content). is_same a b ≡ false) contents
      → slice_get (map held_key contents) place ≡ Some (content_key entry)
      → slice_get contents place ≡ Some content → content_of contents entry ≡ Some content
  content_at entry place content once keyed stands =
      let key : content_key entry ≡ held_key content = same_Some (content_key entry)
      (held_key content) (sym keyed ∙ slice_get-map held_key contents place
      ∙ ap (option_map held_key) stands) in
      find_place (is_content_of entry) contents place content (one_content entry once) stands
      (key_of entry content key)

  -- as it is read at the place that a search ends at
  pub content_read : (read : List Content) (list : List Digest) (entry : FileEntry) (place : ℕ)
      (content : Content) → read ≡ contents → list ≡ entry.list
      → AllPairs (λ (a b : Content). is_same a b ≡ false) contents
      → slice_get (map held_key contents) place ≡ Some
      (record { size = entry.size; list = list }) → place < length contents
      → content ≡ get_or read place content → Some content ≡ content_of contents entry
  content_read read list entry place content same_contents same_list once keyed within is =
      sym (content_at entry place content once
      (keyed ∙ ap (λ (l : List Digest). Some (record { size = entry.size; list = l })) same_list)
      (slice_get_read contents (length contents) place content refl within
      (is ∙ ap (λ (cs : List Content). get_or cs place content) same_contents)))

  pub no_content : (entry : FileEntry) → ¬ Contains (map held_key contents) (content_key entry)
      → content_of contents entry ≡ None
  no_content entry nowhere =
      find_none (is_content_of entry) contents
      (none_pass held_key (content_key entry) (is_content_of entry)
      (λ content passes. sym (of_key entry content passes)) contents nowhere)

  pub none_read : (list : List Digest) (entry : FileEntry) → list ≡ entry.list
      → ¬ Contains (map held_key contents) (record { size = entry.size; list = list })
      → None ≡ content_of contents entry
  none_read list entry same nowhere =
      sym (no_content entry
      (subst (λ (l : List Digest). ¬ Contains (map held_key contents)
      (record { size = entry.size; list = l })) same nowhere))

-- ---- content keys that differ

-- the test that content keys are equal
same : ContentKey → ContentKey → Bool
same a b = eq_by_cmp content_key_cmp a b

same_decides : (a b : ContentKey) → Decides (same a b) (a ≡ b)
unfolding same
same_decides a b = (
  λ e. one_key a b (is_equal (content_key_cmp a b) e),
  λ e. ap is_eq
      (ap (λ (k : ContentKey). content_key_cmp a k) (sym e) ∙ tied_itself content_key_total a),
)
  where
    is_equal : (o : Ordering) → is_eq o ≡ true → o ≡ Equal
    is_equal Less e = absurd cc
    is_equal Equal e = refl
    is_equal Greater e = absurd cc

pub differ_moved : (xs ys : List ContentKey) → IsPermutation xs ys
    → AllPairs (λ (a b : ContentKey). a ≢ b) xs
    → AllPairs (λ (a b : ContentKey). a ≢ b) ys
differ_moved xs ys moved differ =
    AllPairs-from_IsDistinct same_decides ys
    (IsDistinct-IsPermutation same flips xs ys moved
    (IsDistinct-from_AllPairs same_decides xs differ))
  where
    flips : (a b : ContentKey) → same a b ≡ same b a
    flips a b =
        alike (same a b) (same b a) (λ e. (same_decides b a).1 (sym ((same_decides a b).0 e)))
        (λ e. (same_decides a b).1 (sym ((same_decides b a).0 e)))

pub pairs_of_map : {X Y : Type 0} (f : X → Y) (Q : Y → Y → Type 0) (xs : List X)
    → AllPairs Q (map f xs) → AllPairs (λ (x y : X). Q (f x) (f y)) xs
pairs_of_map f Q xs pairs = λ i j d less within. (
    let long = length-map xs f in
    let found = pairs i j (f d) less (omega (arith, long)) in
    subst (λ (y : _). Q (f (get_or xs i d)) y) (get_or-map f xs j d (f d) within)
    (subst (λ (x : _). Q x (get_or (map f xs) j (f d)))
    (get_or-map f xs i d (f d) (omega arith)) found)
    )

-- ---- what a view brings

module _ (old new : List Content) (entries : List FileEntry) (standing brought : List ContentKey)
    (stand : IsIndex (map content_key entries) standing)
    (news : IsIndex (map held_key new) brought) where
  has_content : (entry : FileEntry) → Contains (map held_key old) (content_key entry)
      ⊎ Contains brought (content_key entry) → IsSome (content_of (old ++ new) entry)
  has_content entry (inl there) =
      let one = indexed held_key old (map held_key old)
      (IsPermutation-refl (map held_key old)) (content_key entry) there in find_in
      (is_content_of entry) (old ++ new) one.0 (in_left old new one.0 one.1)
      (key_of entry one.0 (sym one.2))
  has_content entry (inr there) =
      let one = indexed held_key new brought news.same (content_key entry) there in find_in
      (is_content_of entry) (old ++ new) one.0 (in_right old new one.0 one.1)
      (key_of entry one.0 (sym one.2))

  content_has : (entry : FileEntry) (content : Content) → is_content_of entry content ≡ true
      → In content old ⊎ In content new → Contains (map held_key old) (content_key entry)
      ⊎ Contains brought (content_key entry)
  content_has entry content of (inl there) =
      inl (subst (λ (key : ContentKey). Contains (map held_key old) key)
      (sym (of_key entry content of))
      (in_index held_key old (map held_key old) (IsPermutation-refl (map held_key old))
      content there))
  content_has entry content of (inr there) =
      inr (subst (λ (key : ContentKey). Contains brought key) (sym (of_key entry content of))
      (in_index held_key new brought news.same content there))

  agree_brings : Agree (map held_key old) standing brought → Brings old entries new
  agree_brings agree = record {
    each =
        in_all (λ (entry : FileEntry). IsSome (content_of (old ++ new) entry)) entries
        (λ entry there. has_content entry
        (all_in (λ key. Contains (map held_key old) key ⊎ Contains brought key) standing
        (content_key entry) agree.each
        (in_contains standing (content_key entry)
        (in_index content_key entries standing stand.same entry there))));
    only =
        in_all (λ (content : Content). Any
        (λ (entry : FileEntry). is_content_of entry content ≡ true) entries) new (λ content there. (
        let among = all_in (λ key. Contains standing key) brought (held_key content)
        agree.only
        (in_contains brought (held_key content)
        (in_index held_key new brought news.same content there)) in
        let one = indexed content_key entries standing stand.same (held_key content) among in
        in_any (λ (entry : FileEntry). is_content_of entry content ≡ true) entries one.0 one.1
        (key_of one.0 content one.2)
        ));
    lacking =
        in_all (λ (content : Content). All (λ (other : Content). is_same other content ≡ false) old)
        new (λ content there. in_all (λ (other : Content). is_same other content ≡ false) old
        (λ other held_there. false_from_ne_true (is_same other content) (λ same. (
        let none = all_in (λ key. ¬ Contains (map held_key old) key) brought
        (held_key content) agree.lacking
        (in_contains brought (held_key content)
        (in_index held_key new brought news.same content there)) in
        none (subst (λ (key : ContentKey). Contains (map held_key old) key)
        (same_key other content same)
        (in_index held_key old (map held_key old)
        (IsPermutation-refl (map held_key old)) other held_there))
        ))));
    once =
        pairs_weaker (λ (a b : Content). held_key a ≢ held_key b)
        (λ (a b : Content). is_same a b ≡ false) new
        (λ a b unlike. false_from_ne_true (is_same a b) (λ same. unlike (same_key a b same)))
        (pairs_of_map held_key (λ (a b : ContentKey). a ≢ b) new
        (differ_moved brought (map held_key new)
        (IsPermutation-sym (map held_key new) brought news.same) agree.once));
  }

  brings_agree : Brings old entries new → Agree (map held_key old) standing brought
  brings_agree brings = record {
    once =
        differ_moved (map held_key new) brought news.same
        (pairs_map held_key (λ (a b : Content). is_same a b ≡ false)
        (λ (a b : ContentKey). a ≢ b) new (λ a b unlike equal. apart (sym (key_same a b equal) ∙ unlike)) brings.once);
    each =
        in_all (λ key. Contains (map held_key old) key ⊎ Contains brought key) standing
        (λ key there. (
        let one = indexed content_key entries standing stand.same key
        (contains_in standing key there) in
        let content = in_find (is_content_of one.0) (old ++ new)
        (all_in (λ (entry : FileEntry). IsSome (content_of (old ++ new) entry)) entries one.0
        brings.each one.1) in
        subst (λ (k : ContentKey). Contains (map held_key old) k ⊎ Contains brought k) one.2
        (content_has one.0 content.0 content.2 (in_either old new content.0 content.1))
        ));
    only = in_all (λ key. Contains standing key) brought (λ key there. (
        let one = indexed held_key new brought news.same key (contains_in brought key there)
        in
        let entry = any_in (λ (entry : FileEntry). is_content_of entry one.0 ≡ true) entries
        (all_in (λ (content : Content). Any
        (λ (entry : FileEntry). is_content_of entry content ≡ true) entries) new one.0
        brings.only one.1) in
        subst (λ (k : ContentKey). Contains standing k) (of_key entry.0 one.0 entry.2 ∙ one.2)
        (in_index content_key entries standing stand.same entry.0 entry.1)
        ));
    lacking =
        in_all (λ key. ¬ Contains (map held_key old) key) brought (λ key there held_there. (
        let one = indexed held_key new brought news.same key (contains_in brought key there)
        in
        let other = indexed held_key old (map held_key old)
        (IsPermutation-refl (map held_key old)) key held_there in
        let unlike = all_in (λ (o : Content). is_same o one.0 ≡ false) old other.0
        (all_in (λ (content : Content). All (λ (o : Content). is_same o content ≡ false) old)
        new one.0 brings.lacking one.1) other.1 in
        apart (sym (key_same other.0 one.0 (other.2 ∙ sym one.2)) ∙ unlike)
        ));
  }

  pub brings_is : (result : Bool) → IsTrue result ↔ Agree (map held_key old) standing brought
      → IsTrue result ↔ Brings old entries new
  brings_is result answers =
      (λ found. agree_brings (answers.0 found), λ brings. answers.1 (brings_agree brings))

-- ---- the index of contents, once there are more

pub same_places : (contents left : List Content) (index kept : List ℕ)
    → ArePlaces content_key_cmp (map held_key contents) index → left ≡ contents → kept ≡ index
    → ArePlaces content_key_cmp (map held_key left) kept
same_places contents left index kept are same_contents same_index =
    rw (same_contents, same_index) are

-- the index of the first contents is in order among all
pub placed_still : (old new all read : List Content) (index kept : List ℕ)
    → ArePlaces content_key_cmp (map held_key old) index → all ≡ old ++ new → read ≡ all
    → kept ≡ index → AreSorted content_key_cmp (map held_key read) kept
placed_still old new all read index kept are more same_all same_index =
    rw (same_index, same_all, more, map-append held_key old new)
    (sorted_still content_key_cmp (map held_key old) (map held_key new) index are)

module _ (old new all read held : List Content) (index kept larger : List ℕ)
    (are : ArePlaces content_key_cmp (map held_key old) index) (more : all ≡ old ++ new)
    (same_all : read ≡ all) (same_old : held ≡ old) (same_index : kept ≡ index) where
  pub placed_more : AreSorted content_key_cmp (map held_key read) larger
      → IsPermutation (kept ++ range_with_len (length held) (length read - length held)) larger
      → ArePlaces content_key_cmp (map held_key all) larger
  placed_more sorted moved =
      let count = length read - length held in
      let start : length held ≡ length (map held_key old) = ap length same_old
      ∙ sym (length-map old held_key) in
      let long : length (map held_key all) ≡ length (map held_key old) + count =
      omega (
        arith,
        length-map all held_key,
        length-map old held_key,
        ap length more,
        length-append old new,
        ap length same_all,
        ap length same_old,
      ) in
      more_places content_key_cmp (map held_key old) (map held_key all) count index larger are long
      (subst (λ (cs : List Content). AreSorted content_key_cmp (map held_key cs) larger) same_all
      sorted)
      (subst (λ (n : ℕ). IsPermutation (index ++ range_with_len n count) larger) start
      (subst (λ (ps : List ℕ). IsPermutation (ps ++ range_with_len (length held) count) larger)
      same_index moved))
