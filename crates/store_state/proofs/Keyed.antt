-- Contents by their size and their digests.
use Rattle.std.proofs.Common.{◌≡◌, ◌≢◌, ◌∙◌, ◌⊎◌, ◌++◌, inl, inr, refl, sym, ap, subst, Bool, true, false, cond, List, [], ◌∷◌, map, All, AllPairs, Option, Some, None, IsSome, arith}
use Rattle.std.specs.Prelude.{Any, find, sum_by}
use Rattle.std.specs.List.{list_any}
use Rattle.std.specs.Option.{option_or}
use Rattle.std.proofs.lemmas.List.Elements.{All-append, All-head, All-tail, All-weaker}
use Rattle.std.proofs.lemmas.List.Folds.{find-append}
use Rattle.std.proofs.lemmas.List.Kept.{AllPairs-cons}
use Rattle.manifests.specs.declared.facts.FileEntry.{FileEntry}
use Rattle.machine.specs.Blocks.{blocks_of, distinct}
use Rattle.machine.specs.Views.{ContentKey, content_key, same_content}
use Rattle.machine.specs.Wanted.{is_held}
use Rattle.machine.proofs.Contents.{content_decides}
use Rattle.machine.proofs.Members.{In, all_in, any_left, contains_in, in_all, in_contains, in_map, in_right, map_in, pairs_head, pairs_map, pairs_tail, sum_map, sum_within}
use Rattle.machine.proofs.OwnContents.{Apart, distinct_apart, distinct_in, each_stands, in_passes, passes_in}
use Rattle.store_state.specs.declared.view.Content.{Content}
use Rattle.store_state.specs.Contents.{AreContentsOf, Brings, content_of, held_key, is_content_of, is_same}

-- a file of that content
abbrev pub as_entry : Content → FileEntry
as_entry content = record { name = []; size = content.size; list = content.list; group = None; local = false }

pub of_key : (entry : FileEntry) (content : Content) → is_content_of entry content ≡ true → content_key entry ≡ held_key content
of_key entry content e = (content_decides entry (as_entry content)).0 e

pub key_of : (entry : FileEntry) (content : Content) → content_key entry ≡ held_key content → is_content_of entry content ≡ true
key_of entry content e = (content_decides entry (as_entry content)).1 e

pub same_key : (a b : Content) → is_same a b ≡ true → held_key a ≡ held_key b
same_key a b e = (content_decides (as_entry a) (as_entry b)).0 e

pub key_same : (a b : Content) → held_key a ≡ held_key b → is_same a b ≡ true
key_same a b e = (content_decides (as_entry a) (as_entry b)).1 e

apart : {P : Type 0} → true ≡ false → P
apart e = absurd cc

-- ---- tests

pub alike : (a b : Bool) → (a ≡ true → b ≡ true) → (b ≡ true → a ≡ true) → a ≡ b
alike true true there back = refl
alike true false there back = sym (there refl)
alike false true there back = back refl
alike false false there back = refl

module _ {X : Type 0} (p : X → Bool) where
  some_here : (b : Bool) (x : X) (rest : Option X) → b ≡ true ⊎ IsSome rest → IsSome (cond b (Some x) rest)
  some_here true x rest or = refl
  some_here false x rest (inl e) = apart (sym e)
  some_here false x rest (inr some) = some

  here_some : (b : Bool) (x : X) (rest : Option X) → IsSome (cond b (Some x) rest) → b ≡ true ⊎ IsSome rest
  here_some true x rest some = inl refl
  here_some false x rest some = inr some

  pub find_in : (xs : List X) (x : X) → In x xs → p x ≡ true → IsSome (find p xs)
  find_in [] x there passes = absurd there
  find_in (y ∷ ys) x (inl is) passes = some_here (p y) y (find p ys) (inl (ap p is ∙ passes))
  find_in (y ∷ ys) x (inr there) passes = some_here (p y) y (find p ys) (inr (find_in ys x there passes))

  pub in_find : (xs : List X) → IsSome (find p xs) → (x : X) × In x xs × (p x ≡ true)
  in_find [] some = absurd cc
  in_find (y ∷ ys) some = by (here_some (p y) y (find p ys) some) (in_find ys)
    where
      by : p y ≡ true ⊎ IsSome (find p ys) → (IsSome (find p ys) → (x : X) × In x ys × (p x ≡ true)) → (x : X) × In x (y ∷ ys) × (p x ≡ true)
      by (inl e) behind = (y, inl refl, e)
      by (inr later) behind = let found = behind later in (found.0, inr found.1, found.2)

pub any_in : {X : Type 0} (P : X → Type 0) (xs : List X) → Any P xs → (x : X) × In x xs × P x
any_in P xs found = (found.1, in_contains xs found.1 (found.0, found.2, found.3), found.4)

pub in_any : {X : Type 0} (P : X → Type 0) (xs : List X) (x : X) → In x xs → P x → Any P xs
in_any P xs x there holds = let at = contains_in xs x there in (at.0, x, at.1, at.2, holds)

-- ---- what stands, by its contents

module _ (entries : List FileEntry) (contents : List Content) (are : AreContentsOf entries contents) where
  held_there : (entry : FileEntry) → list_any (is_content_of entry) contents ≡ true → is_held entries entry ≡ true
  held_there entry e =
      let found = passes_in (is_content_of entry) contents e in
      let one = any_in (λ (other : FileEntry). is_content_of other found.0 ≡ true) entries (all_in (λ (content : Content). Any (λ (other : FileEntry). is_content_of other content ≡ true) entries) contents found.0 are.only found.1) in
      in_passes (same_content entry) entries one.0 one.1 ((content_decides entry one.0).1 (of_key entry found.0 found.2 ∙ sym (of_key one.0 found.0 one.2)))

  there_held : (entry : FileEntry) → is_held entries entry ≡ true → list_any (is_content_of entry) contents ≡ true
  there_held entry e =
      let found = passes_in (same_content entry) entries e in
      let one = in_find (is_content_of found.0) contents (all_in (λ (other : FileEntry). IsSome (content_of contents other)) entries found.0 are.each found.1) in
      in_passes (is_content_of entry) contents one.0 one.1 (key_of entry one.0 ((content_decides entry found.0).0 found.2 ∙ of_key found.0 one.0 one.2))

  -- a file's content is found exactly where a standing file has it
  pub held_by : (entry : FileEntry) → list_any (is_content_of entry) contents ≡ is_held entries entry
  held_by entry = alike (list_any (is_content_of entry) contents) (is_held entries entry) (held_there entry) (there_held entry)

  pub differ : AllPairs (λ (a b : ContentKey). a ≢ b) (map held_key contents)
  differ = pairs_map held_key (λ (a b : Content). is_same a b ≡ false) (λ (a b : ContentKey). a ≢ b) contents (λ a b unlike same. apart (sym (key_same a b same) ∙ unlike)) are.once

  differ_distinct : AllPairs (λ (a b : ContentKey). a ≢ b) (map content_key (distinct entries))
  unfolding Apart
  differ_distinct = pairs_map content_key Apart (λ (a b : ContentKey). a ≢ b) (distinct entries) (λ a b unlike. unlike) (distinct_apart entries)

  key_stands : (k : ContentKey) → In k (map held_key contents) → In k (map content_key (distinct entries))
  key_stands k there =
      let content = map_in held_key contents k there in
      let one = any_in (λ (other : FileEntry). is_content_of other content.0 ≡ true) entries (all_in (λ (c : Content). Any (λ (other : FileEntry). is_content_of other c ≡ true) entries) contents content.0 are.only content.1) in
      let stands = each_stands entries one.0 one.1 in
      subst (λ (x : ContentKey). In x (map content_key (distinct entries))) (stands.is ∙ of_key one.0 content.0 one.2 ∙ content.2) (in_map content_key (distinct entries) stands.entry stands.there)

  stands_key : (k : ContentKey) → In k (map content_key (distinct entries)) → In k (map held_key contents)
  stands_key k there =
      let entry = map_in content_key (distinct entries) k there in
      let one = in_find (is_content_of entry.0) contents (all_in (λ (other : FileEntry). IsSome (content_of contents other)) entries entry.0 are.each (distinct_in entries entry.0 entry.1)) in
      subst (λ (x : ContentKey). In x (map held_key contents)) (sym (of_key entry.0 one.0 one.2) ∙ entry.2) (in_map held_key contents one.0 one.1)

  -- their blocks are those of the contents
  pub blocks_by : sum_by (λ (content : Content). blocks_of content.size) contents ≡ sum_by (λ (entry : FileEntry). blocks_of entry.size) (distinct entries)
  blocks_by =
      let weigh = λ (k : ContentKey). blocks_of k.size in
      omega (
        arith,
        sum_within weigh (map held_key contents) (map content_key (distinct entries)) differ key_stands,
        sum_within weigh (map content_key (distinct entries)) (map held_key contents) differ_distinct stands_key,
        sum_map held_key weigh contents,
        sum_map content_key weigh (distinct entries),
      )

-- ---- more files and more contents

some_or : {X : Type 0} (a b : Option X) → IsSome a → IsSome (option_or a b)
some_or (Some x) b some = refl
some_or None b some = absurd cc

pub found_more : (entry : FileEntry) (old new : List Content) → IsSome (content_of old entry) → IsSome (content_of (old ++ new) entry)
found_more entry old new some = subst (λ (o : Option Content). IsSome o) (sym (find-append (is_content_of entry) old new)) (some_or (find (is_content_of entry) old) (find (is_content_of entry) new) some)

pairs_append : {X : Type 0} (R : X → X → Type 0) (xs ys : List X) → AllPairs R xs → AllPairs R ys → All (λ x. All (R x) ys) xs → AllPairs R (xs ++ ys)
pairs_append R [] ys first second across = second
pairs_append R (x ∷ xs) ys first second across =
    AllPairs-cons R x (xs ++ ys) (All-append (R x) xs ys (pairs_head R x xs first) (All-head (λ z. All (R z) ys) x xs across))
    (pairs_append R xs ys (pairs_tail R x xs first) second (All-tail (λ z. All (R z) ys) x xs across))

-- the contents that files lack make those of all files
pub joined : (olds entries : List FileEntry) (old new : List Content) → AreContentsOf olds old → Brings old entries new → AreContentsOf (olds ++ entries) (old ++ new)
joined olds entries old new are brings = record {
  each = All-append (λ (entry : FileEntry). IsSome (content_of (old ++ new) entry)) olds entries
      (All-weaker (λ (entry : FileEntry). IsSome (content_of old entry)) (λ (entry : FileEntry). IsSome (content_of (old ++ new) entry)) (λ entry some. found_more entry old new some) olds are.each)
      brings.each;
  only = All-append (λ (content : Content). Any (λ (entry : FileEntry). is_content_of entry content ≡ true) (olds ++ entries)) old new
      (All-weaker (λ (content : Content). Any (λ (entry : FileEntry). is_content_of entry content ≡ true) olds) (λ (content : Content). Any (λ (entry : FileEntry). is_content_of entry content ≡ true) (olds ++ entries)) (λ content some. any_left (λ (entry : FileEntry). is_content_of entry content ≡ true) olds entries some) old are.only)
      (All-weaker (λ (content : Content). Any (λ (entry : FileEntry). is_content_of entry content ≡ true) entries) (λ (content : Content). Any (λ (entry : FileEntry). is_content_of entry content ≡ true) (olds ++ entries)) (λ content some. (let one = any_in (λ (entry : FileEntry). is_content_of entry content ≡ true) entries some in in_any (λ (entry : FileEntry). is_content_of entry content ≡ true) (olds ++ entries) one.0 (in_right olds entries one.0 one.1) one.2)) new brings.only);
  once = pairs_append (λ (a b : Content). is_same a b ≡ false) old new are.once brings.once
      (in_all (λ (a : Content). All (λ (b : Content). is_same a b ≡ false) new) old (λ a in_old. in_all (λ (b : Content). is_same a b ≡ false) new (λ b in_new. all_in (λ (other : Content). is_same other b ≡ false) old a (all_in (λ (content : Content). All (λ (other : Content). is_same other content ≡ false) old) new b brings.lacking in_new) in_old)));
}
