-- The blocks of files with contents of their own.
use Rattle.std.proofs.Common.{◌≡◌, ◌≢◌, ◌∙◌, ◌⊎◌, ◌++◌, ◌+◌, ◌≤◌, inl, inr, refl, sym, ap, subst, Bool, true, false, not, cond, List, [], ◌∷◌, map, AllPairs, arith}
use Rattle.std.specs.Prelude.{sum_by}
use Rattle.std.specs.List.{list_any}
use Rattle.std.proofs.lemmas.Bool.{false_from_ne_true}
use Rattle.std.proofs.lemmas.List.Folds.{Any-from_list_any, list_any-from_Any}
use Rattle.std.proofs.lemmas.List.Kept.{AllPairs-cons}
use Rattle.std.proofs.lemmas.List.Sums.{sum_by-append}
use Rattle.manifests.specs.declared.facts.FileEntry.{FileEntry}
use Rattle.machine.specs.Blocks.{blocks_of, distinct}
use Rattle.machine.specs.Views.{ContentKey, content_key, same_content}
use Rattle.machine.specs.Wanted.{is_held, new_contents}
use Rattle.machine.proofs.Contents.{content_decides}
use Rattle.machine.proofs.Members.{In, contains_in, in_all, in_contains, in_either, in_filter, in_left, in_map, in_right, map_in, pairs_map, sum_map, sum_within}

-- ---- the test that an element passes

pub passes_in : {X : Type 0} (p : X → Bool) (xs : List X) → list_any p xs ≡ true → (x : X) × In x xs × (p x ≡ true)
passes_in p xs e = let found = Any-from_list_any p xs e in (found.1, in_contains xs found.1 (found.0, found.2, found.3), found.4)

pub in_passes : {X : Type 0} (p : X → Bool) (xs : List X) (x : X) → In x xs → p x ≡ true → list_any p xs ≡ true
in_passes p xs x there e = let at = contains_in xs x there in list_any-from_Any p xs (at.0, x, at.1, at.2, e)

pub same_is : (a b : FileEntry) → same_content a b ≡ true → content_key a ≡ content_key b
same_is a b e = (content_decides a b).0 e

pub is_same : (a b : FileEntry) → content_key a ≡ content_key b → same_content a b ≡ true
is_same a b e = (content_decides a b).1 e

true_is_not_false : {P : Type 0} → true ≡ false → P
true_is_not_false e = absurd cc

-- ---- one file of each content

with_first : (b : Bool) (x y : FileEntry) (xs : List FileEntry) → In y xs → In y (cond b xs (x ∷ xs))
with_first true x y xs there = there
with_first false x y xs there = inr there

without_first : (b : Bool) (x y : FileEntry) (xs : List FileEntry) → In y (cond b xs (x ∷ xs)) → (x ≡ y) ⊎ In y xs
without_first true x y xs there = inr there
without_first false x y xs there = there

-- they are of the files
pub distinct_in : (entries : List FileEntry) (x : FileEntry) → In x (distinct entries) → In x entries
distinct_in [] x there = absurd there
distinct_in (y ∷ ys) x there = by (without_first (list_any (same_content y) ys) y x (distinct ys) there) (distinct_in ys x)
  where
    by : (y ≡ x) ⊎ In x (distinct ys) → (In x (distinct ys) → In x ys) → In x (y ∷ ys)
    by (inl is) behind = inl is
    by (inr later) behind = inr (behind later)

-- and each content has one
pub record Stands (entries : List FileEntry) (key : ContentKey) : Type 0 where
  pub entry : FileEntry
  pub there : In entry entries
  pub is : content_key entry ≡ key

stands_behind : (y : FileEntry) (ys : List FileEntry) (key : ContentKey) → Stands (distinct ys) key → Stands (distinct (y ∷ ys)) key
stands_behind y ys key stands = record {
  entry = stands.entry;
  there = with_first (list_any (same_content y) ys) y stands.entry (distinct ys) stands.there;
  is = stands.is;
}

stands_first : (b : Bool) (y : FileEntry) (ys : List FileEntry) → list_any (same_content y) ys ≡ b → ((x : FileEntry) → In x ys → Stands (distinct ys) (content_key x)) → Stands (distinct (y ∷ ys)) (content_key y)
stands_first true y ys e behind =
    let found = passes_in (same_content y) ys e in
    stands_behind y ys (content_key y) (subst (λ (k : ContentKey). Stands (distinct ys) k) (sym (same_is y found.0 found.2)) (behind found.0 found.1))
stands_first false y ys e behind = record {
  entry = y;
  there = subst (λ (b : Bool). In y (cond b (distinct ys) (y ∷ distinct ys))) (sym e) (inl refl);
  is = refl;
}

pub each_stands : (entries : List FileEntry) (x : FileEntry) → In x entries → Stands (distinct entries) (content_key x)
each_stands [] x there = absurd there
each_stands (y ∷ ys) x (inl is) = subst (λ (e : FileEntry). Stands (distinct (y ∷ ys)) (content_key e)) is (stands_first (list_any (same_content y) ys) y ys refl (each_stands ys))
each_stands (y ∷ ys) x (inr there) = stands_behind y ys (content_key x) (each_stands ys x there)

-- no two have one
unfoldable pub Apart : FileEntry → FileEntry → Type 0
Apart a b = ◌≢◌ {A = ContentKey} (content_key a) (content_key b)

apart_first : (b : Bool) (y : FileEntry) (ys : List FileEntry) → list_any (same_content y) ys ≡ b → AllPairs Apart (distinct ys) → AllPairs Apart (cond b (distinct ys) (y ∷ distinct ys))
unfolding Apart
apart_first true y ys e apart = apart
apart_first false y ys e apart = AllPairs-cons Apart y (distinct ys) (in_all (Apart y) (distinct ys) (λ x there same. true_is_not_false (sym (in_passes (same_content y) ys x (distinct_in ys x there) (is_same y x same)) ∙ e))) apart

pub distinct_apart : (entries : List FileEntry) → AllPairs Apart (distinct entries)
distinct_apart [] = λ i j d lt within. absurd (omega arith)
distinct_apart (y ∷ ys) = apart_first (list_any (same_content y) ys) y ys refl (distinct_apart ys)

-- ---- the files of two lists

module _ (used added : List FileEntry) where
  -- a content is held, or is a new one
  held_or_new : (b : Bool) (x : FileEntry) → is_held used x ≡ b → In x added → Stands (distinct used) (content_key x) ⊎ Stands (new_contents used added) (content_key x)
  held_or_new true x e there =
      let found = passes_in (same_content x) used e in
      inl (subst (λ (k : ContentKey). Stands (distinct used) k) (sym (same_is x found.0 found.2)) (each_stands used found.0 found.1))
  held_or_new false x e there =
      let one = each_stands added x there in
      inr (record {
        entry = one.entry;
        there = in_filter (λ (entry : FileEntry). not (is_held used entry)) (distinct added) one.entry (ap not (false_from_ne_true (is_held used one.entry) (λ held. (
            let found = passes_in (same_content one.entry) used held in
            true_is_not_false (sym (in_passes (same_content x) used found.0 found.1 (is_same x found.0 (sym one.is ∙ same_is one.entry found.0 found.2))) ∙ e)
            )))) one.there;
        is = one.is;
      })

  each_content : (x : FileEntry) → In x (used ++ added) → Stands (distinct used) (content_key x) ⊎ Stands (new_contents used added) (content_key x)
  each_content x there = by (in_either used added x there)
    where
      by : In x used ⊎ In x added → Stands (distinct used) (content_key x) ⊎ Stands (new_contents used added) (content_key x)
      by (inl old) = inl (each_stands used x old)
      by (inr new) = held_or_new (is_held used x) x refl new

  stands_in : (entries : List FileEntry) (key : ContentKey) → Stands entries key → In key (map content_key entries)
  stands_in entries key stands = subst (λ (k : ContentKey). In k (map content_key entries)) stands.is (in_map content_key entries stands.entry stands.there)

  -- their blocks are at most those of the used ones and of the new contents
  pub blocks_within : sum_by (λ (entry : FileEntry). blocks_of entry.size) (distinct (used ++ added)) ≤ sum_by (λ (entry : FileEntry). blocks_of entry.size) (distinct used) + sum_by (λ (entry : FileEntry). blocks_of entry.size) (new_contents used added)
  unfolding Apart
  blocks_within =
      let weigh = λ (key : ContentKey). blocks_of key.size in
      let all = map content_key (distinct (used ++ added)) in
      let old = map content_key (distinct used) in
      let new = map content_key (new_contents used added) in
      let within = sum_within weigh all (old ++ new)
      (pairs_map content_key Apart (λ (a b : ContentKey). a ≢ b) (distinct (used ++ added)) (λ a b apart. apart) (distinct_apart (used ++ added)))
      (λ key there. (let from = map_in content_key (distinct (used ++ added)) key there in subst (λ (k : ContentKey). In k (old ++ new)) from.2 (onto from.0 (each_content from.0 (distinct_in (used ++ added) from.0 from.1))))) in
      omega (arith, within, sum_by-append weigh old new, sum_map content_key weigh (distinct (used ++ added)), sum_map content_key weigh (distinct used), sum_map content_key weigh (new_contents used added))
    where
      onto : (x : FileEntry) → Stands (distinct used) (content_key x) ⊎ Stands (new_contents used added) (content_key x) → In (content_key x) (map content_key (distinct used) ++ map content_key (new_contents used added))
      onto x (inl held) = in_left (map content_key (distinct used)) (map content_key (new_contents used added)) (content_key x) (stands_in (distinct used) (content_key x) held)
      onto x (inr new) = in_right (map content_key (distinct used)) (map content_key (new_contents used added)) (content_key x) (stands_in (new_contents used added) (content_key x) new)
