-- Lists of items by their names, once one is put and once one is taken out.
use Rattle.std.proofs.Common.{◌≡◌, ◌∙◌, ◌+◌, ◌<◌, ◌≤◌, ◌⊎◌, inl, inr, refl, sym, ap, subst, ℕ, zero, suc, Bool, true, false, cond, not, leb, ltb, List, [], ◌∷◌, length, get_or, set, map, All, AllPairs, Some, None, Result, Ok, Err, OnOk, IsTrue, bytes_eq, arith}
use Rattle.std.specs.Prelude.{filter, slice_get, sum_by}
use Rattle.std.specs.List.{insert, position, position_or_len}
use Rattle.std.specs.Ordering.{is_ge, ordering_reverse}
use Rattle.std.specs.declared.cmp.Ordering.{Ordering}
use Rattle.std.specs.declared.cmp.Ordering.TheVariants.{Less, Equal, Greater}
use Rattle.std.proofs.lemmas.Bool.{both_ways, cases_lt, cond-true, le-leb, leb-true, lt-ltb, ltb-true}
use Rattle.std.proofs.lemmas.Option.{none-some}
use Rattle.std.proofs.lemmas.Cmp.{tied_itself}
use Rattle.std.proofs.lemmas.List.Elements.{All-cons, All-head, All-tail, All-weaker}
use Rattle.std.proofs.lemmas.List.Filters.{sum_by-filter_both}
use Rattle.std.proofs.lemmas.List.Kept.{AllPairs-cons}
use Rattle.std.proofs.lemmas.List.Sums.{sum_by-insert, sum_by-set}
use Rattle.std.proofs.lemmas.Slice.Eq.{bytes_eq-Decides}
use Rattle.identity.specs.Printed.{text_cmp}
use Rattle.manifests.specs.Applications.{is_below_pre}
use Rattle.machine.specs.DataFiles.{with_named, with_named_at}
use Rattle.machine.proofs.EntryOrder.{order}
use Rattle.machine.proofs.Keys.{equal_texts}
use Rattle.machine.proofs.Members.{all_in, filter_in, in_all, pairs_head, pairs_tail}
use Rattle.store_state.specs.declared.view.LocalFile.{LocalFile}
use Rattle.store_state.specs.Locals.{is_not_before, local_name, outside_locals, stands_at}

-- ---- names

-- names that are equal compare so
same_compares : (a b : List ℕ) → bytes_eq a b ≡ true → text_cmp a b ≡ Equal
same_compares a b same =
    ap (λ (n : List ℕ). text_cmp n b) ((bytes_eq-Decides a b).0 same) ∙ tied_itself order b

flip : (a b : List ℕ) → text_cmp a b ≡ Greater → text_cmp b a ≡ Less
flip a b greater = order.antisymm b a ∙ ap ordering_reverse greater

-- ---- where a data file goes

module _ (file : LocalFile) where
  abbrev place : List LocalFile → ℕ
  place files = position_or_len (is_not_before file.name) files

  abbrev stood : List LocalFile → Bool
  stood files = stands_at file.name (slice_get files (place files))

  abbrev goes : Ordering → List LocalFile → ℕ
  goes o others = cond (not (is_ge o)) (1 + place others) 0

  set_on : (x : LocalFile) (xs : List LocalFile) (n : ℕ)
      → set (x ∷ xs) (1 + n) file ≡ x ∷ set xs n file
  set_on x xs n =
      let e : suc n ≡ 1 + n = omega arith in
      subst (λ (k : ℕ). set (x ∷ xs) k file ≡ x ∷ set xs n file) e refl

  insert_on : (x : LocalFile) (xs : List LocalFile) (n : ℕ)
      → insert (x ∷ xs) (1 + n) file ≡ x ∷ insert xs n file
  insert_on x xs n =
      let e : suc n ≡ 1 + n = omega arith in
      subst (λ (k : ℕ). insert (x ∷ xs) k file ≡ x ∷ insert xs n file) e refl

  get_on : (x : LocalFile) (xs : List LocalFile) (n : ℕ)
      → slice_get (x ∷ xs) (1 + n) ≡ slice_get xs n
  get_on x xs n =
      let e : suc n ≡ 1 + n = omega arith in
      subst (λ (k : ℕ). slice_get (x ∷ xs) k ≡ slice_get xs n) e refl

  -- it takes the place of one of its name
  pub put_over : (files : List LocalFile) → stood files ≡ true
      → set files (place files) file ≡ with_named local_name file files
  put_over [] is = absurd cc
  put_over (other ∷ others) is =
      by (text_cmp other.name file.name) refl is (put_over others)
    where
      by : (o : Ordering) → text_cmp other.name file.name ≡ o
          → stands_at file.name (slice_get (other ∷ others) (goes o others)) ≡ true
          → (stood others ≡ true
          → set others (place others) file ≡ with_named local_name file others)
          → set (other ∷ others) (goes o others) file
          ≡ with_named_at o file other others (with_named local_name file others)
      by Less e here more =
          set_on other others (place others)
          ∙ ap (λ (xs : List LocalFile). other ∷ xs)
          (more (ap (stands_at file.name) (sym (get_on other others (place others))) ∙ here))
      by Equal e here more = refl
      by Greater e here more =
          absurd (let no = sym e ∙ same_compares other.name file.name here in cc)

  -- and where there is none it comes between
  pub put_between : (files : List LocalFile) → stood files ≡ false
      → insert files (place files) file ≡ with_named local_name file files
  put_between [] is = refl
  put_between (other ∷ others) is =
      by (text_cmp other.name file.name) refl is (put_between others)
    where
      by : (o : Ordering) → text_cmp other.name file.name ≡ o
          → stands_at file.name (slice_get (other ∷ others) (goes o others)) ≡ false
          → (stood others ≡ false
          → insert others (place others) file ≡ with_named local_name file others)
          → insert (other ∷ others) (goes o others) file
          ≡ with_named_at o file other others (with_named local_name file others)
      by Less e here more =
          insert_on other others (place others)
          ∙ ap (λ (xs : List LocalFile). other ∷ xs)
          (more (ap (stands_at file.name) (sym (get_on other others (place others))) ∙ here))
      by Equal e here more =
          absurd (both_ways (bytes_eq other.name file.name) here
          ((bytes_eq-Decides other.name file.name).1 (equal_texts other.name file.name e)))
      by Greater e here more = refl

-- a data file of that name stands within the list
pub stands_within : (name : List ℕ) (files : List LocalFile) (place : ℕ)
    → stands_at name (slice_get files place) ≡ true
    → (place < length files) × ((d : LocalFile) → (get_or files place d).name ≡ name)
stands_within name [] place is = absurd cc
stands_within name (file ∷ files) zero is =
    (omega arith, λ d. (bytes_eq-Decides file.name name).0 is)
stands_within name (file ∷ files) (suc place) is =
    let more = stands_within name files place is in
    (let within = more.0 in omega arith, more.1)

-- ---- how many are outside `.pre`

abbrev weight : LocalFile → ℕ
weight file = cond (not (is_below_pre file.name)) 1 0

pub counted_over : (file : LocalFile) (files : List LocalFile) → stood file files ≡ true
    → outside_locals (with_named local_name file files) ≡ outside_locals files
counted_over file files is =
    let there = stands_within file.name files (place file files) is in
    let same = ap {B = ℕ} (λ (n : List ℕ). cond (not (is_below_pre n)) 1 0) (there.1 file) in
    let counts = sum_by-set weight files (place file files) file file there.0 in
    ap (λ (fs : List LocalFile). outside_locals fs) (sym (put_over file files is))
    ∙ omega (arith, counts, same)

pub counted_between : (file : LocalFile) (files : List LocalFile) → stood file files ≡ false
    → outside_locals (with_named local_name file files) ≡ outside_locals files + weight file
counted_between file files is =
    ap (λ (fs : List LocalFile). outside_locals fs) (sym (put_between file files is))
    ∙ sum_by-insert weight files (place file files) file

-- ---- what all have

module _ {A : Type 0} (name_of : A → List ℕ) where
  pub all_with : (P : A → Type 0) (item : A) (items : List A) → P item → All P items
      → All P (with_named name_of item items)
  all_with P item [] here all = All-cons P item [] here all
  all_with P item (other ∷ others) here all =
      by (text_cmp (name_of other) (name_of item))
      (all_with P item others here (All-tail P other others all))
    where
      by : (o : Ordering) → All P (with_named name_of item others)
          → All P (with_named_at o item other others (with_named name_of item others))
      by Less more =
          All-cons P other (with_named name_of item others) (All-head P other others all) more
      by Equal more = All-cons P item others here (All-tail P other others all)
      by Greater more = All-cons P item (other ∷ others) here all

  -- ---- order

  abbrev pub Before : A → A → Type 0
  Before a b = text_cmp (name_of a) (name_of b) ≡ Less

  pub order_with : (item : A) (items : List A) → AllPairs Before items
      → AllPairs Before (with_named name_of item items)
  order_with item [] pairs = λ i j d lt within. absurd (omega arith)
  order_with item (other ∷ others) pairs =
      by (text_cmp (name_of other) (name_of item)) refl
      (order_with item others (pairs_tail Before other others pairs))
    where
      behind : All (Before other) others
      behind = pairs_head Before other others pairs

      by : (o : Ordering) → text_cmp (name_of other) (name_of item) ≡ o
          → AllPairs Before (with_named name_of item others)
          → AllPairs Before
          (with_named_at o item other others (with_named name_of item others))
      by Less e more =
          AllPairs-cons Before other (with_named name_of item others)
          (all_with (Before other) item others e behind) more
      by Equal e more =
          let same = equal_texts (name_of other) (name_of item) e in
          AllPairs-cons Before item others
          (All-weaker (Before other) (Before item)
          (λ x less. ap (λ (n : List ℕ). text_cmp n (name_of x)) (sym same) ∙ less) others behind)
          (pairs_tail Before other others pairs)
      by Greater e more =
          let less = flip (name_of other) (name_of item) e in
          AllPairs-cons Before item (other ∷ others)
          (All-cons (Before item) other others less
          (All-weaker (Before other) (Before item)
          (λ x after. order.trans (name_of item) (name_of other) (name_of x) less after) others
          behind)) pairs

  -- ---- what is made of each

  module _ {B : Type 0} (g : B → A) where
    pub named_shown : (item : B) (items : List B)
        → with_named name_of (g item) (map g items)
        ≡ map g (with_named (λ (b : B). name_of (g b)) item items)
    named_shown item [] = refl
    named_shown item (other ∷ others) =
        by (text_cmp (name_of (g other)) (name_of (g item))) (named_shown item others)
      where
        by : (o : Ordering)
            → with_named name_of (g item) (map g others)
            ≡ map g (with_named (λ (b : B). name_of (g b)) item others)
            → with_named_at o (g item) (g other) (map g others)
            (with_named name_of (g item) (map g others))
            ≡ map g (with_named_at o item other others
            (with_named (λ (b : B). name_of (g b)) item others))
        by Less more = ap (λ (ys : List A). g other ∷ ys) more
        by Equal more = refl
        by Greater more = refl

-- ---- those that are left

pub all_left : {A : Type 0} (p : A → Bool) (P : A → Type 0) (items : List A) → All P items
    → All P (filter p items)
all_left p P items all =
    in_all P (filter p items) (λ x there. all_in P items x all (filter_in p items x there).1)

pub fewer_left : {A : Type 0} (p : A → Bool) (f : A → ℕ) (items : List A)
    → sum_by f (filter p items) ≤ sum_by f items
fewer_left p f items =
    let both = sum_by-filter_both p (λ x. not (p x)) (λ x. refl) f items in omega (arith, both)

-- ---- by what the calls say of the place

module _ (file : LocalFile) (files : List LocalFile) {read again : List LocalFile} {at : ℕ}
    {stands : Bool} (is_read : read ≡ files) (is_again : again ≡ files)
    (is_place : at ≡ position_or_len (is_not_before file.name) read)
    (is_standing : stands ≡ stands_at file.name (slice_get again at)) where
  at_place : at ≡ place file files
  at_place = is_place ∙ ap (λ (fs : List LocalFile). place file fs) is_read

  stood_is : stands_at file.name (slice_get files (place file files)) ≡ stands
  stood_is = ap (λ (n : ℕ). stands_at file.name (slice_get files n)) (sym at_place)
      ∙ ap (λ (fs : List LocalFile). stands_at file.name (slice_get fs at)) (sym is_again)
      ∙ sym is_standing

  pub is_within : stands ≡ true → at < length files
  is_within holds =
      subst (λ (n : ℕ). n < length files) (sym at_place)
      (stands_within file.name files (place file files) (stood_is ∙ holds)).0

  pub set_there : (new : List LocalFile) → stands ≡ true → new ≡ set files at file
      → new ≡ with_named local_name file files
  set_there new holds is =
      is ∙ ap (λ (n : ℕ). set files n file) at_place ∙ put_over file files (stood_is ∙ holds)

  pub insert_there : {E : Type 0} (result : Result (Unit {0}) E) (new : List LocalFile)
      → stands ≡ false → OnOk result (new ≡ insert files at file)
      → OnOk result (new ≡ with_named local_name file files)
  insert_there (Ok done) new none is =
      is ∙ ap (λ (n : ℕ). insert files n file) at_place ∙ put_between file files (stood_is ∙ none)
  insert_there (Err fault) new none is = tt

  pub count_there : stands ≡ true
      → outside_locals (with_named local_name file files) ≡ outside_locals files
  count_there holds = counted_over file files (stood_is ∙ holds)

  pub count_more : stands ≡ false
      → outside_locals (with_named local_name file files)
      ≡ outside_locals files + cond (not (is_below_pre file.name)) 1 0
  count_more none = counted_between file files (stood_is ∙ none)

-- where each is before the name, the place is the end
module _ {A : Type 0} (p : A → Bool) where
  ends_within : (xs : List A) → position_or_len p xs ≤ length xs
  ends_within [] = omega arith
  ends_within (x ∷ xs) = by (not (p x)) (ends_within xs)
    where
      by : (b : Bool) → position_or_len p xs ≤ length xs
          → cond b (1 + position_or_len p xs) 0 ≤ length (x ∷ xs)
      by true le = omega (arith, le)
      by false le = omega arith

  pub none_before : (xs : List A) → position p xs ≡ None → length xs ≡ position_or_len p xs
  none_before xs none =
      by (cases_lt (position_or_len p xs) (length xs))
    where
      by : position_or_len p xs < length xs ⊎ length xs ≤ position_or_len p xs
          → length xs ≡ position_or_len p xs
      by (inl less) = absurd (none-some (position_or_len p xs)
          (sym none ∙ cond-true (ltb (position_or_len p xs) (length xs))
          (Some (position_or_len p xs)) None (lt-ltb (position_or_len p xs) (length xs) less)))
      by (inr le) = let within = ends_within xs in omega (arith, le, within)

-- ---- whether they are few enough, by a count

pub within_limit : {m n : ℕ} → m ≡ n
    → (IsTrue (leb n 256) → m ≤ 256) × (m ≤ 256 → IsTrue (leb n 256))
within_limit {m} {n} same = (
  λ holds. let le = leb-true n 256 holds in omega (arith, same, le),
  λ few. le-leb n 256 (omega (arith, same, few)),
)

pub below_limit : {m n k : ℕ} {b : Bool} → m ≡ n + cond b 1 0 → k ≡ n → b ≡ true
    → (IsTrue (ltb k 256) → m ≤ 256) × (m ≤ 256 → IsTrue (ltb k 256))
below_limit {m} {n} {k} more is holds =
    let one : m ≡ n + 1 = more ∙ ap {B = ℕ} (λ (c : Bool). n + cond c 1 0) holds in (
      λ less. let lt = ltb-true k 256 less in omega (arith, one, is, lt),
      λ few. lt-ltb k 256 (omega (arith, one, is, few)),
    )

pub within_more : {m n k : ℕ} {b : Bool} → m ≡ n + cond b 1 0 → k ≡ n → b ≡ false
    → (IsTrue (leb k 256) → m ≤ 256) × (m ≤ 256 → IsTrue (leb k 256))
within_more {m} {n} {k} more is fails =
    let none : m ≡ n + 0 = more ∙ ap {B = ℕ} (λ (c : Bool). n + cond c 1 0) fails in (
      λ holds. let le = leb-true k 256 holds in omega (arith, none, is, le),
      λ few. le-leb k 256 (omega (arith, none, is, few)),
    )
