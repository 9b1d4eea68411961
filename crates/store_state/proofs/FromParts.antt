-- Plain values that are tables, and the indexes that are made of them.
use Rattle.std.proofs.Common.{◌≡◌, ◌≢◌, ◌∙◌, ◌⊎◌, ◌↔◌, ◌-◌, ◌<◌, ◌≤◌, ◌++◌, inl, inr, sym, ap, subst, ℕ, Bool, true, false, List, [], ◌∷◌, length, map, All, AllPairs, Contains, IsSome, IsTrue, Result, Ok, Err, arith}
use Rattle.std.specs.Prelude.{Any, IfOk}
use Rattle.std.specs.Cmp.{nat_cmp_is}
use Rattle.std.specs.List.{range_with_len}
use Rattle.std.specs.List.Sorted.{IsPermutation}
use Rattle.std.proofs.lemmas.List.Sorted.{IsPermutation-sym}
use Rattle.std.specs.Ordering.{nat_cmp}
use Rattle.std.specs.declared.cmp.Ordering.TheVariants.{Less, Equal, Greater}
use Rattle.std.proofs.lemmas.Bool.{cases_lt, false_from_ne_true}
use Rattle.std.proofs.lemmas.List.{length-map}
use Rattle.std.proofs.lemmas.List.Elements.{All-head, All-tail}
use Rattle.small_types.specs.declared.limits.TheConstants.{APPLICATION_LIMIT, FILE_COUNT_LIMIT, LEASE_LIMIT, NUMBER_LIMIT, VIEW_LIMIT}
use Rattle.identity.specs.declared.key.Key.{Key}
use Rattle.identity.specs.Key.{key_text}
use Rattle.identity.specs.Printed.{text_cmp}
use Rattle.manifests.specs.declared.facts.FileEntry.{FileEntry}
use Rattle.machine.specs.declared.app.AppState.{AppState}
use Rattle.machine.specs.declared.lease.Lease.{Lease}
use Rattle.machine.specs.Blocks.{standing_files}
use Rattle.machine.specs.Entries.{AreInOrder, IsBelowAll, key_cmp}
use Rattle.machine.specs.Views.{ContentKey, content_key}
use Rattle.machine.proofs.Members.{all_in, contains_in, in_all, in_contains, in_map, map_in, pairs_head, pairs_map, pairs_tail, pairs_weaker}
use Rattle.machine.proofs.Places.{rising}
use Rattle.store_state.specs.declared.view.Content.{Content}
use Rattle.store_state.specs.declared.view.View.{View}
use Rattle.store_state.specs.declared.state.StateFault.{StateFault}
use Rattle.store_state.specs.Change.{IsRow}
use Rattle.store_state.specs.ContentKeys.{Agree, IsIndex, content_key_cmp}
use Rattle.store_state.specs.Contents.{AreContentsOf, content_of, held_key, is_content_of, is_same}
use Rattle.store_state.specs.Kept.{AreTables}
use Rattle.store_state.specs.Places.{ArePlaces, AreSorted}
use Rattle.store_state.specs.Rows.{listed_files}
use Rattle.store_state.specs.Tables.{Tables, bare_row}
use Rattle.store_state.proofs.Indexed.{differ_moved, in_index, indexed, pairs_of_map}
use Rattle.store_state.proofs.Keyed.{any_in, find_in, in_any, in_find, key_of, key_same, of_key, same_key}

-- ---- numbers in order

below : (m n : ℕ) → nat_cmp m n ≡ Less → m < n
below m n less = by (cases_lt m n) (cases_lt n m)
  where
    by : m < n ⊎ n ≤ m → n < m ⊎ m ≤ n → m < n
    by (inl is) other = is
    by (inr over) (inl above) = absurd (let e = nat_cmp_is m n Greater above ∙ less in cc)
    by (inr over) (inr under) =
        let same : m ≡ n = omega arith in
        absurd (let e = nat_cmp_is m n Equal same ∙ less in cc)

module _ {X : Type 0} (of : X → ℕ) (xs : List X) where
  abbrev pub Rise : Type 0
  Rise = AllPairs (λ (x y : X). nat_cmp (of x) (of y) ≡ Less) xs

  pub numbers_rise : Rise → AllPairs (λ (m n : ℕ). m < n) (map of xs)
  numbers_rise pairs =
      pairs_map of (λ (x y : X). nat_cmp (of x) (of y) ≡ Less) (λ (m n : ℕ). m < n) xs
      (λ x y less. below (of x) (of y) less) pairs

  pub rising_numbers : AllPairs (λ (m n : ℕ). m < n) (map of xs) → Rise
  rising_numbers pairs =
      pairs_weaker (λ (x y : X). of x < of y) (λ (x y : X). nat_cmp (of x) (of y) ≡ Less) xs
      (λ x y less. sym (nat_cmp_is (of x) (of y) Less less)) (pairs_of_map of (λ (m n : ℕ). m < n) xs pairs)

  module _ (next : ℕ) where
    pub numbers_below : All (λ (x : X). of x < next) xs → All (λ (n : ℕ). n < next) (map of xs)
    numbers_below all = in_all (λ (n : ℕ). n < next) (map of xs) (λ n there. (
        let one = map_in of xs n there in
        subst (λ (k : ℕ). k < next) one.2 (all_in (λ (x : X). of x < next) xs one.0 all one.1)
        ))

    pub below_numbers : All (λ (n : ℕ). n < next) (map of xs) → All (λ (x : X). of x < next) xs
    below_numbers all = in_all (λ (x : X). of x < next) xs (λ x there.
        all_in (λ (n : ℕ). n < next) (map of xs) (of x) all (in_map of xs x there))

-- ---- applications in order

below_each : (key : Key) (apps : List AppState)
    → All (λ (app : AppState). key_cmp key app.key ≡ Less) apps → IsBelowAll key apps
below_each key [] all = tt
below_each key (app ∷ apps) all = (
  All-head (λ (a : AppState). key_cmp key a.key ≡ Less) app apps all,
  below_each key apps (All-tail (λ (a : AppState). key_cmp key a.key ≡ Less) app apps all),
)

pairs_order : (apps : List AppState)
    → AllPairs (λ (a b : AppState). key_cmp a.key b.key ≡ Less) apps → AreInOrder apps
pairs_order [] pairs = tt
pairs_order (app ∷ apps) pairs = (
  below_each app.key apps
      (pairs_head (λ (a b : AppState). key_cmp a.key b.key ≡ Less) app apps pairs),
  pairs_order apps (pairs_tail (λ (a b : AppState). key_cmp a.key b.key ≡ Less) app apps pairs),
)

abbrev text : AppState → List ℕ
text app = key_text app.key

pub order_is : (apps : List AppState) (keys read : List (List ℕ)) (result : Bool)
    → keys ≡ map (λ (app : AppState). key_text app.key) apps → read ≡ keys
    → IsTrue result ↔ AllPairs (λ (a b : List ℕ). text_cmp a b ≡ Less) read
    → IsTrue result ↔ AreInOrder apps
order_is apps keys read result are same answers =
    let there = subst (λ (ks : List (List ℕ)). IsTrue result
    ↔ AllPairs (λ (a b : List ℕ). text_cmp a b ≡ Less) ks) (same ∙ are) answers in (
      λ found. pairs_order apps
          (pairs_of_map text (λ (a b : List ℕ). text_cmp a b ≡ Less) apps (there.0 found)),
      λ order. there.1
          (pairs_map text (λ (a b : AppState). key_cmp a.key b.key ≡ Less)
          (λ (a b : List ℕ). text_cmp a b ≡ Less) apps (λ a b less. less)
          (λ i j d less within. rising apps i j d order less within)),
    )

-- ---- contents

apart : {P : Type 0} → true ≡ false → P
apart e = absurd cc

nowhere : {X : Type 0} (x : X) → Contains [] x → ⊥
nowhere x there = let within = there.1 in omega arith

module _ (contents : List Content) (entries : List FileEntry) (standing there : List ContentKey)
    (stand : IsIndex (map content_key entries) standing)
    (held : IsIndex (map held_key contents) there) where
  has_content : (entry : FileEntry) → Contains [] (content_key entry)
      ⊎ Contains there (content_key entry) → IsSome (content_of contents entry)
  has_content entry (inl before) = absurd (nowhere (content_key entry) before)
  has_content entry (inr at) =
      let one = indexed held_key contents there held.same (content_key entry) at in
      find_in (is_content_of entry) contents one.0 one.1 (key_of entry one.0 (sym one.2))

  agree_are : Agree [] standing there → AreContentsOf entries contents
  agree_are agree = record {
    each =
        in_all (λ (entry : FileEntry). IsSome (content_of contents entry)) entries
        (λ entry at. has_content entry
        (all_in (λ key. Contains [] key ⊎ Contains there key) standing
        (content_key entry) agree.each
        (in_contains standing (content_key entry)
        (in_index content_key entries standing stand.same entry at))));
    only =
        in_all (λ (content : Content). Any
        (λ (entry : FileEntry). is_content_of entry content ≡ true) entries) contents
        (λ content at. (
        let among = all_in (λ key. Contains standing key) there (held_key content)
        agree.only
        (in_contains there (held_key content)
        (in_index held_key contents there held.same content at)) in
        let one = indexed content_key entries standing stand.same (held_key content) among in
        in_any (λ (entry : FileEntry). is_content_of entry content ≡ true) entries one.0 one.1
        (key_of one.0 content one.2)
        ));
    once =
        pairs_weaker (λ (a b : Content). held_key a ≢ held_key b)
        (λ (a b : Content). is_same a b ≡ false) contents
        (λ a b unlike. false_from_ne_true (is_same a b) (λ same. unlike (same_key a b same)))
        (pairs_of_map held_key (λ (a b : ContentKey). a ≢ b) contents
        (differ_moved there (map held_key contents)
        (IsPermutation-sym (map held_key contents) there held.same) agree.once));
  }

  are_agree : AreContentsOf entries contents → Agree [] standing there
  are_agree are = record {
    once =
        differ_moved (map held_key contents) there held.same
        (pairs_map held_key (λ (a b : Content). is_same a b ≡ false)
        (λ (a b : ContentKey). a ≢ b) contents (λ a b unlike equal. apart (sym (key_same a b equal) ∙ unlike)) are.once);
    each =
        in_all (λ key. Contains [] key ⊎ Contains there key) standing
        (λ key at. (
        let one = indexed content_key entries standing stand.same key
        (contains_in standing key at) in
        let content = in_find (is_content_of one.0) contents
        (all_in (λ (entry : FileEntry). IsSome (content_of contents entry)) entries one.0
        are.each one.1) in
        subst (λ (k : ContentKey). Contains [] k ⊎ Contains there k) one.2
        (inr (subst (λ (k : ContentKey). Contains there k) (sym (of_key one.0 content.0 content.2))
        (in_index held_key contents there held.same content.0 content.1)))
        ));
    only = in_all (λ key. Contains standing key) there (λ key at. (
        let one = indexed held_key contents there held.same key (contains_in there key at)
        in
        let entry = any_in (λ (entry : FileEntry). is_content_of entry one.0 ≡ true) entries
        (all_in (λ (content : Content). Any
        (λ (entry : FileEntry). is_content_of entry content ≡ true) entries) contents one.0
        are.only one.1) in
        subst (λ (k : ContentKey). Contains standing k) (of_key entry.0 one.0 entry.2 ∙ one.2)
        (in_index content_key entries standing stand.same entry.0 entry.1)
        ));
    lacking = in_all (λ key. ¬ Contains [] key) there (λ key at before. nowhere key before);
  }

  contents_are : (result : Bool) → IsTrue result ↔ Agree [] standing there
      → IsTrue result ↔ AreContentsOf entries contents
  contents_are result answers =
      (λ found. agree_are (answers.0 found), λ are. answers.1 (are_agree are))

  pub contents_judged : (result : Result Bool StateFault)
      → IfOk result (λ answer. IsTrue answer ↔ Agree [] standing there)
      → IfOk result (λ answer. IsTrue answer ↔ AreContentsOf entries contents)
  contents_judged (Ok answer) answers = contents_are answer answers
  contents_judged (Err fault) answers = tt

-- the index of contents, among none at first
pub first_places : (contents : List Content) (places : List ℕ)
    → AreSorted content_key_cmp (map held_key contents) places
    → IsPermutation ([] ++ range_with_len 0 (length contents - 0)) places
    → ArePlaces content_key_cmp (map held_key contents) places
first_places contents places sorted moved =
    let long : length contents - 0 ≡ length (map held_key contents) =
    omega (arith, length-map contents held_key) in
    record {
      sorted = sorted;
      same = subst (λ (n : ℕ). IsPermutation (range_with_len 0 n) places) long moved;
    }

-- ---- tables

abbrev pub HasLeases : List Lease → ℕ → Type 0
HasLeases leases next =
    (length leases ≤ LEASE_LIMIT)
    × AllPairs (λ (a b : Lease). nat_cmp a.number b.number ≡ Less) leases
    × All (λ (lease : Lease). lease.number < next) leases
    × (next ≤ NUMBER_LIMIT)

abbrev pub HasViews : List View → ℕ → Type 0
HasViews views next =
    (length views ≤ VIEW_LIMIT)
    × AllPairs (λ (a b : View). nat_cmp a.number b.number ≡ Less) views
    × All (λ (view : View). view.number < next) views
    × (next ≤ NUMBER_LIMIT)
    × (listed_files views ≤ FILE_COUNT_LIMIT)

module _ (t : Tables) where
  make_tables : HasLeases t.leases t.next_lease → length t.apps ≤ APPLICATION_LIMIT
      → HasViews t.views t.next_view → AreInOrder t.apps → All IsRow t.views
      → AreContentsOf (standing_files (map bare_row t.views)) t.contents → AreTables t
  make_tables leases few views order rows contents = record {
    order = order;
    few_apps = few;
    rising = numbers_rise (λ (view : View). view.number) t.views views.1;
    below = numbers_below (λ (view : View). view.number) t.views t.next_view views.2;
    limit = views.3;
    few_views = views.0;
    few_files = views.4;
    lease_numbers = record {
      rising = numbers_rise (λ (lease : Lease). lease.number) t.leases leases.1;
      below = numbers_below (λ (lease : Lease). lease.number) t.leases t.next_lease leases.2;
      limit = leases.3;
    };
    few_leases = leases.0;
    rows = rows;
    contents = contents;
  }

  has_leases : AreTables t → HasLeases t.leases t.next_lease
  has_leases are = (
    are.few_leases,
    rising_numbers (λ (lease : Lease). lease.number) t.leases are.lease_numbers.rising,
    below_numbers (λ (lease : Lease). lease.number) t.leases t.next_lease are.lease_numbers.below,
    are.lease_numbers.limit,
  )

  has_views : AreTables t → HasViews t.views t.next_view
  has_views are = (
    are.few_views,
    rising_numbers (λ (view : View). view.number) t.views are.rising,
    below_numbers (λ (view : View). view.number) t.views t.next_view are.below,
    are.limit,
    are.few_files,
  )

-- what is read of the values, and what each test of it answers
module _ (t now : Tables) (is : t ≡ now) where
  module _ (leases : List Lease) (same : leases ≡ t.leases) (answer : Bool)
      (answers : IsTrue answer ↔ HasLeases leases t.next_lease) where
    pub no_leases : answer ≡ false → ¬ AreTables now
    no_leases fails = λ are. apart (sym (answers.1 (subst (λ (ls : List Lease). HasLeases ls t.next_lease)
        (sym same) (has_leases t (subst AreTables (sym is) are)))) ∙ fails)

    leases_are : IsTrue answer → HasLeases t.leases t.next_lease
    leases_are found =
        subst (λ (ls : List Lease). HasLeases ls t.next_lease) same (answers.0 found)

  module _ (views : List View) (same : views ≡ t.views) (answer : Bool)
      (answers : IsTrue answer ↔ HasViews views t.next_view) where
    pub no_views : answer ≡ false → ¬ AreTables now
    no_views fails = λ are. apart (sym (answers.1 (subst (λ (vs : List View). HasViews vs t.next_view)
        (sym same) (has_views t (subst AreTables (sym is) are)))) ∙ fails)

    views_are : IsTrue answer → HasViews t.views t.next_view
    views_are found =
        subst (λ (vs : List View). HasViews vs t.next_view) same (answers.0 found)

  pub too_many : (apps : List AppState) → apps ≡ t.apps → APPLICATION_LIMIT < length apps
      → ¬ AreTables now
  too_many apps same more = λ are. (
      let few = (subst AreTables (sym is) are).few_apps in
      let long = ap (length {A = AppState}) same in
      absurd (omega arith)
      )

  module _ (leases : List Lease) (same_leases : leases ≡ t.leases) (apps : List AppState)
      (same_apps : apps ≡ t.apps) (views : List View) (same_views : views ≡ t.views)
      (contents : List Content) (same_contents : contents ≡ t.contents)
      (has_all_leases : Bool) (lease_answers : IsTrue has_all_leases ↔ HasLeases leases t.next_lease)
      (has_all_views : Bool) (view_answers : IsTrue has_all_views ↔ HasViews views t.next_view)
      (ordered rows held : Bool) (order_answers : IsTrue ordered ↔ AreInOrder apps)
      (row_answers : IsTrue rows ↔ All IsRow views)
      (content_answers : IsTrue held
      ↔ AreContentsOf (standing_files (map bare_row views)) contents) where
    pub all_judged : (answer : Bool) → IsTrue answer ↔ (IsTrue ordered × IsTrue rows × IsTrue held)
        → IsTrue has_all_leases → length apps ≤ APPLICATION_LIMIT → IsTrue has_all_views
        → IsTrue answer ↔ AreTables now
    all_judged answer answers leased few viewed = (
      λ found. (
          let all = answers.0 found in
          let long = ap (length {A = AppState}) same_apps in
          subst AreTables is
          (make_tables t
          (leases_are leases same_leases has_all_leases lease_answers leased)
          (omega arith)
          (views_are views same_views has_all_views view_answers viewed)
          (subst AreInOrder same_apps (order_answers.0 all.0))
          (subst (All IsRow) same_views (row_answers.0 all.1))
          (subst (λ (cs : List Content). AreContentsOf (standing_files (map bare_row t.views)) cs)
          same_contents
          (subst (λ (vs : List View). AreContentsOf (standing_files (map bare_row vs)) contents)
          same_views (content_answers.0 all.2))))
          ),
      λ are. (
          let old = subst AreTables (sym is) are in
          answers.1 (
            order_answers.1 (subst AreInOrder (sym same_apps) old.order),
            row_answers.1 (subst (All IsRow) (sym same_views) old.rows),
            content_answers.1
                (subst (λ (vs : List View). AreContentsOf (standing_files (map bare_row vs)) contents)
                (sym same_views)
                (subst (λ (cs : List Content).
                AreContentsOf (standing_files (map bare_row t.views)) cs) (sym same_contents)
                old.contents)),
          )
          ),
    )
