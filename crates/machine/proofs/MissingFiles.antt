-- The wanted files of a group suffice, and take the blocks that are counted.
use Rattle.std.proofs.Common.{◌≡◌, ◌≢◌, ◌∙◌, ◌⊎◌, inl, inr, refl, sym, ap, subst, ℕ, Bool, true, false, not, cond, List, [], ◌∷◌, map, AllPairs, Contains, arith}
use Rattle.std.specs.Prelude.{sum_by}
use Rattle.std.proofs.lemmas.Bool.{or_left, or_parts, or_right}
use Rattle.std.proofs.lemmas.List.Kept.{AllPairs-cons, AllPairs-filter}
use Rattle.manifests.specs.declared.facts.Application.{Application}
use Rattle.manifests.specs.declared.facts.FileEntry.{FileEntry}
use Rattle.machine.specs.Blocks.{blocks_of, distinct, standing_files}
use Rattle.machine.specs.GroupLaws.{AreMissing}
use Rattle.machine.specs.Groups.{group_files, missing_beside}
use Rattle.machine.specs.Shape.{BareView}
use Rattle.machine.specs.Views.{ContentKey, content_key, same_content}
use Rattle.machine.specs.Wanted.{is_held, new_contents}
use Rattle.machine.proofs.Members.{In, contains_in, filter_in, in_all, in_contains, in_filter, in_map, map_in, pairs_map, sum_map, sum_within}
use Rattle.machine.proofs.OwnContents.{Apart, distinct_apart, distinct_in, each_stands, in_passes, is_same, passes_in, same_is}
use Rattle.machine.proofs.WantedFiles.{or_one, true_is_not_false, was_false}

-- ---- how the first file is taken

module _ (held : List FileEntry) (e : FileEntry) (es : List FileEntry) where
  abbrev step : Bool → List FileEntry
  step b = cond b (missing_beside held es) (e ∷ missing_beside (e ∷ held) es)

  pub passes_over : is_held held e ≡ true → missing_beside held (e ∷ es) ≡ missing_beside held es
  passes_over is = ap step is

  pub takes : is_held held e ≡ false
      → missing_beside held (e ∷ es) ≡ e ∷ missing_beside (e ∷ held) es
  takes is = ap step is

-- ---- a wanted file is one of the files, and has a new content

pub missing_in : (es held : List FileEntry) (x : FileEntry) → In x (missing_beside held es) → In x es
missing_in [] held x there = absurd there
missing_in (e ∷ es) held x there =
    by (is_held held e) refl (missing_in es held x) (missing_in es (e ∷ held) x)
  where
    first : (In x (missing_beside (e ∷ held) es) → In x es)
        → (e ≡ x) ⊎ In x (missing_beside (e ∷ held) es) → In x (e ∷ es)
    first more (inl is) = inl is
    first more (inr later) = inr (more later)

    by : (b : Bool) → is_held held e ≡ b → (In x (missing_beside held es) → In x es)
        → (In x (missing_beside (e ∷ held) es) → In x es) → In x (e ∷ es)
    by true is same more =
        inr (same (subst (λ (xs : List FileEntry). In x xs) (passes_over held e es is) there))
    by false is same more =
        first more (subst (λ (xs : List FileEntry). In x xs) (takes held e es is) there)

not_held : (es held : List FileEntry) (x : FileEntry) → In x (missing_beside held es)
    → is_held held x ≡ false
not_held [] held x there = absurd there
not_held (e ∷ es) held x there =
    by (is_held held e) refl (not_held es held x) (not_held es (e ∷ held) x)
  where
    first : is_held held e ≡ false
        → (In x (missing_beside (e ∷ held) es) → is_held (e ∷ held) x ≡ false)
        → (e ≡ x) ⊎ In x (missing_beside (e ∷ held) es) → is_held held x ≡ false
    first is more (inl same) = subst (λ (y : FileEntry). is_held held y ≡ false) same is
    first is more (inr later) = (or_parts (same_content x e) (is_held held x) (more later)).1

    by : (b : Bool) → is_held held e ≡ b
        → (In x (missing_beside held es) → is_held held x ≡ false)
        → (In x (missing_beside (e ∷ held) es) → is_held (e ∷ held) x ≡ false)
        → is_held held x ≡ false
    by true is same more =
        same (subst (λ (xs : List FileEntry). In x xs) (passes_over held e es is) there)
    by false is same more =
        first is more (subst (λ (xs : List FileEntry). In x xs) (takes held e es is) there)

-- and no two have one
apart_all : (es held : List FileEntry) → AllPairs Apart (missing_beside held es)
unfolding Apart
apart_all [] held = λ i j d lt within. absurd (omega arith)
apart_all (e ∷ es) held =
    by (is_held held e) refl (apart_all es held) (apart_all es (e ∷ held))
  where
    by : (b : Bool) → is_held held e ≡ b → AllPairs Apart (missing_beside held es)
        → AllPairs Apart (missing_beside (e ∷ held) es)
        → AllPairs Apart (missing_beside held (e ∷ es))
    by true is same more = subst (AllPairs Apart) (sym (passes_over held e es is)) same
    by false is same more =
        subst (AllPairs Apart) (sym (takes held e es is))
        (AllPairs-cons Apart e (missing_beside (e ∷ held) es)
        (in_all (Apart e) (missing_beside (e ∷ held) es) (λ x there one. true_is_not_false
        (sym (is_same x e (sym one))
        ∙ (or_parts (same_content x e) (is_held held x) (not_held es (e ∷ held) x there)).0)))
        more)

-- ---- each content is held or wanted

abbrev HeldOrWanted : List FileEntry → List FileEntry → FileEntry → Type 0
HeldOrWanted held es x = (is_held held x ≡ true) ⊎ (is_held (missing_beside held es) x ≡ true)

each_is : (es held : List FileEntry) (x : FileEntry) → In x es → HeldOrWanted held es x
each_is [] held x there = absurd there
each_is (e ∷ es) held x there =
    by (is_held held e) refl there (each_is es held x) (each_is es (e ∷ held) x)
  where
    as_before : is_held held e ≡ true → HeldOrWanted held es x → HeldOrWanted held (e ∷ es) x
    as_before is (inl old) = inl old
    as_before is (inr new) =
        inr (subst (λ (xs : List FileEntry). is_held xs x ≡ true) (sym (passes_over held e es is)) new)

    own : is_held held e ≡ false → same_content x e ≡ true
        → is_held (missing_beside held (e ∷ es)) x ≡ true
    own is same =
        subst (λ (xs : List FileEntry). is_held xs x ≡ true) (sym (takes held e es is))
        (or_left (same_content x e) (is_held (missing_beside (e ∷ held) es) x) same)

    which : is_held held e ≡ false → (same_content x e ≡ true) ⊎ (is_held held x ≡ true)
        → HeldOrWanted held (e ∷ es) x
    which is (inl one) = inr (own is one)
    which is (inr before) = inl before

    onto : is_held held e ≡ false → HeldOrWanted (e ∷ held) es x → HeldOrWanted held (e ∷ es) x
    onto is (inl old) = which is (or_one (same_content x e) (is_held held x) old)
    onto is (inr new) =
        inr (subst (λ (xs : List FileEntry). is_held xs x ≡ true) (sym (takes held e es is))
        (or_right (same_content x e) (is_held (missing_beside (e ∷ held) es) x) new))

    by : (b : Bool) → is_held held e ≡ b → (e ≡ x) ⊎ In x es → (In x es → HeldOrWanted held es x)
        → (In x es → HeldOrWanted (e ∷ held) es x) → HeldOrWanted held (e ∷ es) x
    by true is (inl one) same more =
        inl (subst (λ (y : FileEntry). is_held held y ≡ true) one is)
    by true is (inr later) same more = as_before is (same later)
    by false is (inl one) same more = inr (own is (is_same x e (ap content_key (sym one))))
    by false is (inr later) same more = onto is (more later)

-- where none is wanted each is held
pub none_missing : (es held : List FileEntry) → missing_beside held es ≡ [] → (x : FileEntry)
    → In x es → is_held held x ≡ true
none_missing es held none x there = by (each_is es held x there)
  where
    by : (is_held held x ≡ true) ⊎ (is_held (missing_beside held es) x ≡ true)
        → is_held held x ≡ true
    by (inl old) = old
    by (inr new) =
        true_is_not_false (sym (subst (λ (xs : List FileEntry). is_held xs x ≡ true) none new))

-- ---- they take what new contents take

abbrev weigh : FileEntry → ℕ
weigh entry = blocks_of entry.size

-- files of contents that differ, and of the same ones, take as many blocks
same_blocks : (xs ys : List FileEntry) → AllPairs Apart xs → AllPairs Apart ys
    → ((x : FileEntry) → In x xs → In (content_key x) (map content_key ys))
    → ((y : FileEntry) → In y ys → In (content_key y) (map content_key xs))
    → sum_by weigh xs ≡ sum_by weigh ys
unfolding Apart
same_blocks xs ys apart others onto back =
    let heavy = λ (key : ContentKey). blocks_of key.size in
    let first = sum_within heavy (map content_key xs) (map content_key ys)
    (pairs_map content_key Apart (λ (a b : ContentKey). a ≢ b) xs (λ a b differ. differ) apart)
    (λ key there. (let from = map_in content_key xs key there in
    subst (λ (k : ContentKey). In k (map content_key ys)) from.2 (onto from.0 from.1))) in
    let second = sum_within heavy (map content_key ys) (map content_key xs)
    (pairs_map content_key Apart (λ (a b : ContentKey). a ≢ b) ys (λ a b differ. differ) others)
    (λ key there. (let from = map_in content_key ys key there in
    subst (λ (k : ContentKey). In k (map content_key xs)) from.2 (back from.0 from.1))) in
    omega (arith, first, second, sum_map content_key heavy xs, sum_map content_key heavy ys)

module _ (used es : List FileEntry) where
  -- a wanted content is a new one
  to_new : (x : FileEntry) → In x (missing_beside used es)
      → In (content_key x) (map content_key (new_contents used es))
  to_new x there =
      let one = each_stands es x (missing_in es used x there) in
      let new = in_filter (λ (entry : FileEntry). not (is_held used entry)) (distinct es) one.entry
      (ap not (still one.entry (is_held used one.entry) refl one.is)) one.there in
      subst (λ (k : ContentKey). In k (map content_key (new_contents used es))) one.is
      (in_map content_key (new_contents used es) one.entry new)
    where
      still : (r : FileEntry) (b : Bool) → is_held used r ≡ b → content_key r ≡ content_key x
          → is_held used r ≡ false
      still r true held same =
          let found = passes_in (same_content r) used held in
          true_is_not_false
          (sym (in_passes (same_content x) used found.0 found.1
          (is_same x found.0 (sym same ∙ same_is r found.0 found.2))) ∙ not_held es used x there)
      still r false held same = held

  -- and a new content is wanted
  to_wanted : (r : FileEntry) → In r (new_contents used es)
      → In (content_key r) (map content_key (missing_beside used es))
  to_wanted r there =
      let kept = filter_in (λ (entry : FileEntry). not (is_held used entry)) (distinct es) r there in
      by (was_false (is_held used r) kept.0) (each_is es used r (distinct_in es r kept.1))
    where
      by : is_held used r ≡ false
          → (is_held used r ≡ true) ⊎ (is_held (missing_beside used es) r ≡ true)
          → In (content_key r) (map content_key (missing_beside used es))
      by other (inl held) = true_is_not_false (sym held ∙ other)
      by other (inr new) =
          let found = passes_in (same_content r) (missing_beside used es) new in
          subst (λ (k : ContentKey). In k (map content_key (missing_beside used es)))
          (sym (same_is r found.0 found.2))
          (in_map content_key (missing_beside used es) found.0 found.1)

  as_needed : sum_by weigh (missing_beside used es) ≡ sum_by weigh (new_contents used es)
  as_needed =
      same_blocks (missing_beside used es) (new_contents used es) (apart_all es used)
      (AllPairs-filter Apart (λ (entry : FileEntry). not (is_held used entry)) (distinct es)
      (distinct_apart es)) to_new to_wanted

pub are_missing : (views : List BareView) (group : List ℕ) (a : Application)
    → AreMissing views group a
unfolding Apart
are_missing views group a =
    let used = standing_files views in
    let es = group_files group a in
    record {
      each = λ entry there. each_is es used entry (in_contains es entry there);
      among = in_all (Contains es) (missing_beside used es)
          (λ x there. contains_in es x (missing_in es used x there));
      new = in_all (λ (entry : FileEntry). is_held used entry ≡ false) (missing_beside used es)
          (not_held es used);
      once = apart_all es used;
      blocks = as_needed used es;
    }
