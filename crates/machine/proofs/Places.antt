-- Where the entry of a key stands among entries in order.
use Rattle.std.proofs.Common.{◌≡◌, ℕ, zero, suc, ◌<◌, ◌≤◌, List, [], ◌∷◌, length, get_or, set, map, Some, None, Result, Ok, Err, HoldsAt, IfOk, IfErr, inl, inr, refl, sym, ap, subst, ◌∙◌, arith}
use Rattle.std.specs.List.{insert}
use Rattle.std.specs.List.Sorted.{IsBinarySearchResult, IsSearchInRange, IsNonDecreasingBy}
use Rattle.std.specs.Ordering.{ordering_index}
use Rattle.std.specs.declared.cmp.Ordering.{Ordering}
use Rattle.std.specs.declared.cmp.Ordering.TheVariants.{Less, Equal, Greater}
use Rattle.std.proofs.lemmas.Cmp.{alike_right, tied_itself}
use Rattle.std.proofs.lemmas.Bool.{cases_lt}
use Rattle.std.proofs.lemmas.List.{get_or-map, length-map}
use Rattle.std.proofs.lemmas.List.Sorted.{IsNonDecreasingBy-from_default}
use Rattle.identity.specs.declared.key.Key.{Key}
use Rattle.identity.specs.Key.{key_text}
use Rattle.identity.specs.Printed.{text_cmp}
use Rattle.machine.specs.declared.app.AppState.{AppState}
use Rattle.machine.specs.Entries.{AreInOrder, IsBelowAll, entry_of, fresh, key_cmp, with_entry}
use Rattle.machine.proofs.EntryOrder.{order}
use Rattle.machine.proofs.Members.{In}

less_than_equal : (a b c : List ℕ) → text_cmp a b ≡ Less → text_cmp b c ≡ Equal → text_cmp a c ≡ Less
less_than_equal a b c less equal = sym (alike_right order b c a equal) ∙ less

pub below : (key : Key) (apps : List AppState) (place : ℕ) (d : AppState) → IsBelowAll key apps → place < length apps → key_cmp key (get_or apps place d).key ≡ Less
below key [] place d all within = absurd (omega arith)
below key (app ∷ apps) zero d all within = all.0
below key (app ∷ apps) (suc place) d all within = below key apps place d all.1 (omega arith)

below_in : (key : Key) (apps : List AppState) (app : AppState) → IsBelowAll key apps → In app apps
    → key_cmp key app.key ≡ Less
below_in key [] app all there = absurd there
below_in key (a ∷ apps) app all (inl is) =
    subst (λ (x : AppState). key_cmp key x.key ≡ Less) is all.0
below_in key (a ∷ apps) app all (inr there) = below_in key apps app all.1 there

pub rising : (apps : List AppState) (i j : ℕ) (d : AppState) → AreInOrder apps → i < j → j < length apps → key_cmp (get_or apps i d).key (get_or apps j d).key ≡ Less
rising [] i j d ordered less within = absurd (omega arith)
rising (app ∷ apps) i zero d ordered less within = absurd (omega arith)
rising (app ∷ apps) zero (suc j) d ordered less within = below app.key apps j d ordered.0 (omega arith)
rising (app ∷ apps) (suc i) (suc j) d ordered less within = rising apps i j d ordered.1 (omega arith) (omega arith)

-- each is the entry of its own key
pub own_entry : (apps : List AppState) → AreInOrder apps → (app : AppState) → In app apps
    → entry_of app.key apps ≡ Some app
own_entry [] ordered app there = absurd there
own_entry (a ∷ apps) ordered app (inl is) =
    subst (λ (x : AppState). entry_of x.key (a ∷ apps) ≡ Some x) is
    (let same = tied_itself order (key_text a.key) in rw same refl)
own_entry (a ∷ apps) ordered app (inr there) =
    let less = below_in a.key apps app ordered.0 there in
    rw less (own_entry apps ordered.1 app there)

-- ---- an entry at a place

pub found : (key : Key) (apps : List AppState) (place : ℕ) (d : AppState) → AreInOrder apps → place < length apps → key_cmp (get_or apps place d).key key ≡ Equal → entry_of key apps ≡ Some (get_or apps place d)
found key [] place d ordered within equal = absurd (omega arith)
found key (app ∷ apps) zero d ordered within equal = rw equal refl
found key (app ∷ apps) (suc place) d ordered within equal =
    let less : key_cmp app.key key ≡ Less = less_than_equal (key_text app.key) (key_text (get_or apps place d).key) (key_text key) (below app.key apps place d ordered.0 (omega arith)) equal in
    rw less (found key apps place d ordered.1 (omega arith) equal)

pub changed_at : (key : Key) (f : AppState → AppState) (apps : List AppState) (place : ℕ) (d : AppState) → AreInOrder apps → place < length apps → key_cmp (get_or apps place d).key key ≡ Equal → with_entry key f apps ≡ set apps place (f (get_or apps place d))
changed_at key f [] place d ordered within equal = absurd (omega arith)
changed_at key f (app ∷ apps) zero d ordered within equal = rw equal refl
changed_at key f (app ∷ apps) (suc place) d ordered within equal =
    let less : key_cmp app.key key ≡ Less = less_than_equal (key_text app.key) (key_text (get_or apps place d).key) (key_text key) (below app.key apps place d ordered.0 (omega arith)) equal in
    rw less (ap (λ (rest : List AppState). app ∷ rest) (changed_at key f apps place d ordered.1 (omega arith) equal))

-- ---- no entry: smaller keys before the place, and greater ones from it on

pub record IsGap (key : Key) (apps : List AppState) (place : ℕ) : Type 0 where
  pub within : place ≤ length apps
  pub before : (k : ℕ) (d : AppState) → k < place → key_cmp (get_or apps k d).key key ≡ Less
  pub after : (k : ℕ) (d : AppState) → place ≤ k → k < length apps → key_cmp (get_or apps k d).key key ≡ Greater

gap_behind : (key : Key) (app : AppState) (apps : List AppState) (place : ℕ) → IsGap key (app ∷ apps) (suc place) → IsGap key apps place
gap_behind key app apps place gap = record {
  within = (let w = gap.within in omega arith);
  before = λ k d less. gap.before (suc k) d (omega arith);
  after = λ k d from less. gap.after (suc k) d (omega arith) (omega arith);
}

pub absent : (key : Key) (apps : List AppState) (place : ℕ) → IsGap key apps place → entry_of key apps ≡ None
absent key [] place gap = refl
absent key (app ∷ apps) zero gap = let greater : key_cmp app.key key ≡ Greater = gap.after 0 app (omega arith) (omega arith) in rw greater refl
absent key (app ∷ apps) (suc place) gap =
    let less : key_cmp app.key key ≡ Less = gap.before 0 app (omega arith) in
    rw less (absent key apps place (gap_behind key app apps place gap))

pub inserted_at : (key : Key) (f : AppState → AppState) (apps : List AppState) (place : ℕ) → IsGap key apps place → with_entry key f apps ≡ insert apps place (f (fresh key))
inserted_at key f [] place gap = let w = gap.within in let none : place ≡ 0 = omega arith in rw none refl
inserted_at key f (app ∷ apps) zero gap = let greater : key_cmp app.key key ≡ Greater = gap.after 0 app (omega arith) (omega arith) in rw greater refl
inserted_at key f (app ∷ apps) (suc place) gap =
    let less : key_cmp app.key key ≡ Less = gap.before 0 app (omega arith) in
    rw less (ap (λ (rest : List AppState). app ∷ rest) (inserted_at key f apps place (gap_behind key app apps place gap)))

-- ---- what a binary search over the printed keys finds

abbrev pub texts : List AppState → List (List ℕ)
texts apps = map (λ app. key_text app.key) apps

index_le : (r s : Ordering) → (s ≡ Less → r ≡ Less) → (s ≡ Equal → r ≡ Less) → ordering_index r ≤ ordering_index s
index_le Less s less equal = omega arith
index_le Equal Less less equal = absurd (let e = less refl in cc)
index_le Equal Equal less equal = omega arith
index_le Equal Greater less equal = omega arith
index_le Greater Less less equal = absurd (let e = less refl in cc)
index_le Greater Equal less equal = absurd (let e = equal refl in cc)
index_le Greater Greater less equal = omega arith

index_rises : (apps : List AppState) (text : List ℕ) (i j : ℕ) (d : AppState) → AreInOrder apps → i < j → j < length apps → ordering_index (text_cmp (key_text (get_or apps i d).key) text) ≤ ordering_index (text_cmp (key_text (get_or apps j d).key) text)
index_rises apps text i j d ordered lt within =
    let a = key_text (get_or apps i d).key in
    let b = key_text (get_or apps j d).key in
    let less : text_cmp a b ≡ Less = rising apps i j d ordered lt within in
    index_le (text_cmp a text) (text_cmp b text) (λ h. order.trans a b text less h) (λ h. less_than_equal a b text less h)

text_at : (apps : List AppState) (i : ℕ) (d : AppState) (e : List ℕ) → i < length apps → get_or (texts apps) i e ≡ key_text (get_or apps i d).key
text_at apps i d e within = get_or-map (λ (app : AppState). key_text app.key) apps i d e within

rises : (apps : List AppState) (text : List ℕ) → AreInOrder apps → IsNonDecreasingBy (λ key. ordering_index (text_cmp key text)) (texts apps)
rises [] text ordered = λ i j d le within. absurd (omega arith)
rises (app ∷ apps) text ordered = IsNonDecreasingBy-from_default (λ key. ordering_index (text_cmp key text)) (texts (app ∷ apps)) [] (λ i j le within.
    let long : length (texts (app ∷ apps)) ≡ length (app ∷ apps) = length-map (app ∷ apps) (λ (a : AppState). key_text a.key) in
    rw (text_at (app ∷ apps) i app [] (omega arith), text_at (app ∷ apps) j app [] (omega arith))
    (elim (cases_lt i j) [
      | inl lt ↦ index_rises (app ∷ apps) text i j app ordered lt (omega arith)
      | inr ge ↦ let same : i ≡ j = omega arith in rw same (omega arith)
    ]))

-- a search over the printed keys ends at the key, or at the gap for it
pub searched : (key : Key) (apps : List AppState) (result : Result ℕ ℕ) → AreInOrder apps → IsSearchInRange result (length (texts apps)) → IsBinarySearchResult (λ text. text_cmp text (key_text key)) (texts apps) result → record { found : IfOk result (λ place. (place < length apps) × HoldsAt (λ app. key_cmp app.key key ≡ Equal) apps place); absent : IfErr result (IsGap key apps) }
searched key apps (Ok place) ordered range equal =
    let within : place < length apps = omega (arith, length-map apps (λ (a : AppState). key_text a.key)) in
    record { found = (within, λ d. rw (← text_at apps place d [] within) (equal [])); absent = tt }
searched key apps (Err place) ordered range parted =
    let long : length (texts apps) ≡ length apps = length-map apps (λ (a : AppState). key_text a.key) in
    let parts = parted (rises apps (key_text key) ordered) in
    record {
      found = tt;
      absent = record {
        within = omega arith;
        before = λ k d less. (let within : k < length apps = omega arith in rw (← text_at apps k d [] within) (parts.0 k [] (omega arith) less));
        after = λ k d from within. rw (← text_at apps k d [] within) (parts.1 k [] from (omega arith));
      };
    }

-- the same from what a search ensures of the keys that are kept, and of the key's text
pub searched_keys : (key : Key) (apps : List AppState) (keys : List (List ℕ)) (text : List ℕ) (result : Result ℕ ℕ) → (keys ≡ texts apps) × AreInOrder apps → text ≡ key_text key → IsSearchInRange result (length keys) → IsBinarySearchResult (λ t. text_cmp t text) keys result → record { found : IfOk result (λ place. (place < length apps) × HoldsAt (λ app. key_cmp app.key key ≡ Equal) apps place); absent : IfErr result (IsGap key apps) }
searched_keys key apps keys text result kept is range parted =
    searched key apps result kept.1 (subst (λ (ks : List (List ℕ)). IsSearchInRange result (length ks)) kept.0 range)
    (subst (λ (t : List ℕ). IsBinarySearchResult (λ u. text_cmp u t) (texts apps) result) is (subst (λ (ks : List (List ℕ)). IsBinarySearchResult (λ u. text_cmp u text) ks result) kept.0 parted))
