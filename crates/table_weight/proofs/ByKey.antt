-- What contents weigh, by their keys.
use Rattle.std.proofs.Common.{◌≡◌, ◌≢◌, ◌∙◌, ◌⊎◌, ◌++◌, ◌+◌, ◌*◌, inl, inr, sym, subst, ℕ, true, false, List, [], ◌∷◌, map, All, AllPairs, IsSome, arith}
use Rattle.std.specs.Prelude.{Any, sum_by}
use Rattle.std.proofs.lemmas.List.Elements.{All-append}
use Rattle.std.proofs.lemmas.List.Kept.{AllPairs-cons}
use Rattle.std.proofs.lemmas.List.Sums.{sum_by-append}
use Rattle.manifests.specs.declared.facts.FileEntry.{FileEntry}
use Rattle.machine.specs.declared.weights.TheConstants.{BLOCK_WEIGHT, CONTENT_WEIGHT}
use Rattle.machine.specs.Blocks.{blocks_of, distinct}
use Rattle.machine.specs.Views.{ContentKey, content_key, same_content}
use Rattle.machine.specs.Wanted.{is_held}
use Rattle.machine.specs.Weight.{digests_weight}
use Rattle.machine.specs.Weight.{content_weight as entry_weight}
use Rattle.machine.proofs.Members.{In, all_in, in_all, in_either, in_left, in_map, in_right, map_in, pairs_head, pairs_map, pairs_tail, sum_map, sum_within}
use Rattle.machine.proofs.OwnContents.{Apart, distinct_apart, distinct_in, each_stands, in_passes, is_same, passes_in, same_is}
use Rattle.store_state.specs.declared.view.Content.{Content}
use Rattle.store_state.specs.Contents.{AreContentsOf, content_of, is_content_of}
use Rattle.store_state.specs.Contents.{held_key}
use Rattle.store_state.proofs.Keyed.{any_in, differ, in_find, of_key}
use Rattle.table_weight.specs.Weight.{block_cost, content_weight}

-- what a content of the key weighs
abbrev pub key_weight : ContentKey → ℕ
key_weight key =
    CONTENT_WEIGHT + digests_weight key.list + BLOCK_WEIGHT * blocks_of key.size

-- ---- things of the same keys, which differ

module _ {X Y : Type 0} (f : X → ContentKey) (g : Y → ContentKey) (w : ContentKey → ℕ) where
  pub same_sum : (xs : List X) (ys : List Y)
      → AllPairs (λ (a b : ContentKey). a ≢ b) (map f xs)
      → AllPairs (λ (a b : ContentKey). a ≢ b) (map g ys)
      → ((x : X) → In x xs → In (f x) (map g ys)) → ((y : Y) → In y ys → In (g y) (map f xs))
      → sum_by (λ (x : X). w (f x)) xs ≡ sum_by (λ (y : Y). w (g y)) ys
  same_sum xs ys apart others onto back =
      let first = sum_within w (map f xs) (map g ys) apart (λ k there.
      (let from = map_in f xs k there in
      subst (λ (j : ContentKey). In j (map g ys)) from.2 (onto from.0 from.1))) in
      let second = sum_within w (map g ys) (map f xs) others (λ k there.
      (let from = map_in g ys k there in
      subst (λ (j : ContentKey). In j (map f xs)) from.2 (back from.0 from.1))) in
      omega (arith, first, second, sum_map f w xs, sum_map g w ys)

pub distinct_keys : (entries : List FileEntry)
    → AllPairs (λ (a b : ContentKey). a ≢ b) (map content_key (distinct entries))
unfolding Apart
distinct_keys entries =
    pairs_map content_key Apart (λ (a b : ContentKey). a ≢ b) (distinct entries)
    (λ a b apart. apart) (distinct_apart entries)

-- a file of some has its key among those of the distinct ones
pub key_there : (entries : List FileEntry) (entry : FileEntry) → In entry entries
    → In (content_key entry) (map content_key (distinct entries))
key_there entries entry there =
    let one = each_stands entries entry there in
    subst (λ (k : ContentKey). In k (map content_key (distinct entries))) one.is
    (in_map content_key (distinct entries) one.entry one.there)

-- ---- the contents of tables

module _ (entries : List FileEntry) (contents : List Content) (are : AreContentsOf entries contents)
  where
    content_stands : (content : Content) → In content contents
        → In (held_key content) (map content_key (distinct entries))
    content_stands content there =
        let one = any_in (λ (e : FileEntry). is_content_of e content ≡ true) entries
        (all_in (λ (c : Content). Any (λ (e : FileEntry). is_content_of e c ≡ true) entries) contents
        content are.only there) in
        subst (λ (k : ContentKey). In k (map content_key (distinct entries)))
        (of_key one.0 content one.2) (key_there entries one.0 one.1)

    stands_content : (entry : FileEntry) → In entry (distinct entries)
        → In (content_key entry) (map held_key contents)
    stands_content entry there =
        let one = in_find (is_content_of entry) contents
        (all_in (λ (e : FileEntry). IsSome (content_of contents e)) entries entry are.each
        (distinct_in entries entry there)) in
        subst (λ (k : ContentKey). In k (map held_key contents)) (sym (of_key entry one.0 one.2))
        (in_map held_key contents one.0 one.1)

    -- they weigh what the files weigh that stand, each content once
    pub contents_weigh : sum_by (content_weight block_cost) contents
        ≡ sum_by entry_weight (distinct entries)
    unfolding content_weight entry_weight
    contents_weigh =
        same_sum held_key content_key key_weight contents (distinct entries)
        (differ entries contents are) (distinct_keys entries) content_stands stands_content

-- ---- files that come beside others

pairs_joined : {X : Type 0} (R : X → X → Type 0) (xs ys : List X) → AllPairs R xs → AllPairs R ys
    → ((x y : X) → In x xs → In y ys → R x y) → AllPairs R (xs ++ ys)
pairs_joined R [] ys first second across = second
pairs_joined R (x ∷ xs) ys first second across =
    AllPairs-cons R x (xs ++ ys)
    (All-append (R x) xs ys (pairs_head R x xs first)
    (in_all (R x) ys (λ y there. across x y (inl (let e : x ≡ x = cc in e)) there)))
    (pairs_joined R xs ys (pairs_tail R x xs first) second
    (λ a b here there. across a b (inr here) there))

-- the wanted ones of those that come have the contents that the held ones lack, each once
pub record Come (held coming wanted : List FileEntry) : Type 0 where
  pub each : (entry : FileEntry) → In entry coming
      → (is_held held entry ≡ true) ⊎ (is_held wanted entry ≡ true)
  pub among : (entry : FileEntry) → In entry wanted → In entry coming
  pub new : All (λ entry. is_held held entry ≡ false) wanted
  pub once : AllPairs (λ (e f : FileEntry). ◌≢◌ {A = ContentKey} (content_key e) (content_key f))
      wanted

-- these are the held ones and those that come
pub record AreAll (held coming all : List FileEntry) : Type 0 where
  pub either : (entry : FileEntry) → In entry all → In entry held ⊎ In entry coming
  pub old : (entry : FileEntry) → In entry held → In entry all
  pub came : (entry : FileEntry) → In entry coming → In entry all

module _ (held coming wanted all : List FileEntry) (come : Come held coming wanted)
    (are : AreAll held coming all) where
  abbrev beside : List FileEntry
  beside = distinct held ++ wanted

  apart : {P : Type 0} → true ≡ false → P
  apart e = absurd cc

  across : (x y : FileEntry) → In x (distinct held) → In y wanted
      → ◌≢◌ {A = ContentKey} (content_key x) (content_key y)
  across x y here there same =
      apart (sym (in_passes (same_content y) held x (distinct_in held x here)
      (is_same y x (sym same)))
      ∙ all_in (λ (e : FileEntry). is_held held e ≡ false) wanted y come.new there)

  beside_keys : AllPairs (λ (a b : ContentKey). a ≢ b) (map content_key beside)
  unfolding Apart
  beside_keys =
      pairs_map content_key
      (λ (e f : FileEntry). ◌≢◌ {A = ContentKey} (content_key e) (content_key f))
      (λ (a b : ContentKey). a ≢ b) beside (λ a b differ. differ)
      (pairs_joined (λ (e f : FileEntry). ◌≢◌ {A = ContentKey} (content_key e) (content_key f))
      (distinct held) wanted (distinct_apart held) come.once across)

  in_beside : (entry : FileEntry) (others : List FileEntry)
      → (is_held others entry ≡ true)
      → ((other : FileEntry) → In other others → In (content_key other) (map content_key beside))
      → In (content_key entry) (map content_key beside)
  in_beside entry others found each =
      let one = passes_in (same_content entry) others found in
      subst (λ (k : ContentKey). In k (map content_key beside)) (sym (same_is entry one.0 one.2))
      (each one.0 one.1)

  of_held : (entry : FileEntry) → In entry held → In (content_key entry) (map content_key beside)
  of_held entry there =
      let one = each_stands held entry there in
      subst (λ (k : ContentKey). In k (map content_key beside)) one.is
      (in_map content_key beside one.entry (in_left (distinct held) wanted one.entry one.there))

  of_wanted : (entry : FileEntry) → In entry wanted
      → In (content_key entry) (map content_key beside)
  of_wanted entry there =
      in_map content_key beside entry (in_right (distinct held) wanted entry there)

  of_coming : (entry : FileEntry)
      → (is_held held entry ≡ true) ⊎ (is_held wanted entry ≡ true)
      → In (content_key entry) (map content_key beside)
  of_coming entry (inl old) = in_beside entry held old of_held
  of_coming entry (inr new) = in_beside entry wanted new of_wanted

  of_all : (entry : FileEntry) → In entry held ⊎ In entry coming
      → In (content_key entry) (map content_key beside)
  of_all entry (inl old) = of_held entry old
  of_all entry (inr new) = of_coming entry (come.each entry new)

  in_all_keys : (entry : FileEntry) → In entry (distinct held) ⊎ In entry wanted
      → In (content_key entry) (map content_key (distinct all))
  in_all_keys entry (inl old) =
      key_there all entry (are.old entry (distinct_in held entry old))
  in_all_keys entry (inr new) = key_there all entry (are.came entry (come.among entry new))

  -- all of them weigh what the held ones do, and the wanted ones beside
  pub more_weigh : sum_by entry_weight (distinct all)
      ≡ sum_by entry_weight (distinct held) + sum_by entry_weight wanted
  unfolding entry_weight
  more_weigh =
      let keyed = λ (e : FileEntry). key_weight (content_key e) in
      let same = same_sum content_key content_key key_weight (distinct all) beside
      (distinct_keys all) beside_keys
      (λ entry there. of_all entry (are.either entry (distinct_in all entry there)))
      (λ entry there. in_all_keys entry (in_either (distinct held) wanted entry there)) in
      omega (arith, same, sum_by-append keyed (distinct held) wanted)
