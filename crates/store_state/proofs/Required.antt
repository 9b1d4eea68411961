-- What requiring a version of a key leaves.
use Rattle.std.proofs.Common.{◌≡◌, ℕ, ◌<◌, false, List, [], ◌∷◌, length, get_or, set, take, drop, Option, Some, Ok, Err, HoldsAt, refl, sym, ap, subst, ◌∙◌}
use Rattle.std.specs.Prelude.{option_and_then}
use Rattle.std.specs.List.{insert}
use Rattle.std.specs.Ordering.{is_lt}
use Rattle.std.specs.declared.cmp.Ordering.{Ordering}
use Rattle.std.specs.declared.cmp.Ordering.TheVariants.{Less, Equal, Greater}
use Rattle.std.proofs.lemmas.List.{map-append, take-map, drop-map}
use Rattle.std.proofs.Math.Seq.{map-set_same}
use Rattle.identity.specs.declared.version.Version.{Version}
use Rattle.identity.specs.declared.key.Key.{Key}
use Rattle.identity.specs.Key.{key_text}
use Rattle.identity.specs.Version.{greater_of, version_cmp}
use Rattle.machine.specs.declared.app.AppState.{AppState}
use Rattle.machine.specs.Entries.{KeepsKeys, entry_at, entry_of, fresh, key_cmp, with_entry, with_entry_at}
use Rattle.machine.specs.Minimums.{minimum_of, raised, raised_app}
use Rattle.machine.specs.RequireRow.{required}
use Rattle.machine.proofs.EntryOrder.{order-with_entry}
use Rattle.machine.proofs.Places.{IsGap, changed_at, inserted_at, searched_keys, texts}
use Rattle.store_state.specs.Kept.{AreKept}
use Rattle.store_state.proofs.KeySearch.{IsFound}

pub raised_keeps : (version : Version) → KeepsKeys (raised_app version)
raised_keeps version app = refl

-- ---- the printed keys

texts-insert : (apps : List AppState) (place : ℕ) (app : AppState) → texts (insert apps place app) ≡ insert (texts apps) place (key_text app.key)
texts-insert apps place app =
    let text : AppState → List ℕ = λ a. key_text a.key in
    rw (map-append text (take place apps) (app ∷ drop place apps), take-map text place apps, drop-map text place apps) refl

module _ (key : Key) (f : AppState → AppState) (keeps : KeepsKeys f) (keys : List (List ℕ)) (apps : List AppState) (kept : AreKept keys apps) where
  kept_made : (place : ℕ) (d : AppState) → place < length apps → key_cmp (get_or apps place d).key key ≡ Equal → AreKept keys (with_entry key f apps)
  kept_made place d within equal =
      let at = changed_at key f apps place d kept.1 within equal in
      let same : texts (set apps place (f (get_or apps place d))) ≡ texts apps = map-set_same (λ (a : AppState). key_text a.key) apps place (f (get_or apps place d)) d (ap key_text (keeps (get_or apps place d))) in
      (kept.0 ∙ sym same ∙ ap texts (sym at), order-with_entry key f keeps apps kept.1)

  kept_inserted : (place : ℕ) → IsGap key apps place → AreKept (insert keys place (key_text key)) (with_entry key f apps)
  kept_inserted place gap =
      let at = inserted_at key f apps place gap in
      let text : key_text (f (fresh key)).key ≡ key_text key = ap key_text (keeps (fresh key)) in
      (ap (λ (ks : List (List ℕ)). insert ks place (key_text key)) kept.0 ∙ ap (λ (t : List ℕ). insert (texts apps) place t) (sym text) ∙ sym (texts-insert apps place (f (fresh key))) ∙ ap texts (sym at), order-with_entry key f keeps apps kept.1)

-- ---- a version that is not above the minimum

same_app : (app : AppState) (version m : Version) → app.minimum ≡ Some m → greater_of m version ≡ m → raised_app version app ≡ app
same_app app version m is greater =
    let same : Some (raised app.minimum version) ≡ app.minimum = rw is (ap Some greater) in
    ap (λ (o : Option Version). record app { minimum = o }) same

same_at : (o : Ordering) (key : Key) (version m : Version) (app : AppState) (apps rest : List AppState) (others : Option AppState) → greater_of m version ≡ m → option_and_then (λ (a : AppState). a.minimum) (entry_at o app others) ≡ Some m → (option_and_then (λ (a : AppState). a.minimum) others ≡ Some m → rest ≡ apps) → with_entry_at o key (raised_app version) app apps rest ≡ app ∷ apps
same_at Less key version m app apps rest others greater is same = ap (λ (r : List AppState). app ∷ r) (same is)
same_at Equal key version m app apps rest others greater is same = ap (λ (a : AppState). a ∷ apps) (same_app app version m is greater)
same_at Greater key version m app apps rest others greater is same = absurd cc

-- it changes nothing
pub required-same : (key : Key) (version m : Version) (apps : List AppState) → minimum_of key apps ≡ Some m → greater_of m version ≡ m → required key version apps ≡ apps
required-same key version m [] is greater = absurd cc
required-same key version m (app ∷ apps) is greater = same_at (key_cmp app.key key) key version m app apps (required key version apps) (entry_of key apps) greater is (λ known. required-same key version m apps known greater)

pub required-same_not_below : (key : Key) (version m : Version) (apps : List AppState) → minimum_of key apps ≡ Some m → is_lt (version_cmp m version) ≡ false → required key version apps ≡ apps
required-same_not_below key version m apps is above =
    let greater : greater_of m version ≡ m = rw above refl in
    required-same key version m apps is greater

-- ---- what the tables hold after an edit at the place that a search found

-- the tables hold what the change of the key's entry leaves, with their keys
pub record Holds (key : Key) (f : AppState → AppState) (apps new : List AppState) (keys : List (List ℕ)) : Type 0 where
  pub is : new ≡ with_entry key f apps
  pub kept : AreKept keys new

holds : (key : Key) (f : AppState → AppState) (apps new : List AppState) (keys : List (List ℕ)) → new ≡ with_entry key f apps → AreKept keys (with_entry key f apps) → Holds key f apps new keys
holds key f apps new keys is kept = record { is = is; kept = subst (λ (xs : List AppState). AreKept keys xs) (sym is) kept }

pub changed_place : (key : Key) (f : AppState → AppState) → KeepsKeys f → (apps new : List AppState) (keys : List (List ℕ)) (place : ℕ) → AreKept keys apps → IsFound key keys (Ok place)
    → HoldsAt (λ app. new ≡ set apps place (f app)) apps place → Holds key f apps new keys
changed_place key f keeps apps new keys place kept search edit =
    let d = fresh key in
    let at = searched_keys key apps keys (key_text key) (Ok place) kept refl search.range search.found in
    holds key f apps new keys (edit d ∙ sym (changed_at key f apps place d kept.1 at.found.0 (at.found.1 d))) (kept_made key f keeps keys apps kept place d at.found.0 (at.found.1 d))

pub added_place : (key : Key) (f : AppState → AppState) → KeepsKeys f → (apps new : List AppState) (keys new_keys : List (List ℕ)) (place : ℕ) → AreKept keys apps → IsFound key keys (Err place)
    → new ≡ insert apps place (f (fresh key)) → new_keys ≡ insert keys place (key_text key) → Holds key f apps new new_keys
added_place key f keeps apps new keys new_keys place kept search edit key_edit =
    let at = searched_keys key apps keys (key_text key) (Err place) kept refl search.range search.found in
    let inserted = kept_inserted key f keeps keys apps kept place at.absent in
    holds key f apps new new_keys (edit ∙ sym (inserted_at key f apps place at.absent)) (key_edit ∙ inserted.0, inserted.1)

-- a version that is required
pub raised_place : (key : Key) (version : Version) (apps new : List AppState) (keys : List (List ℕ)) (place : ℕ) → AreKept keys apps → IsFound key keys (Ok place)
    → HoldsAt (λ app. new ≡ set apps place (raised_app version app)) apps place → Holds key (raised_app version) apps new keys
raised_place key version = changed_place key (raised_app version) (raised_keeps version)

pub inserted_place : (key : Key) (version : Version) (apps new : List AppState) (keys new_keys : List (List ℕ)) (place : ℕ) → AreKept keys apps → IsFound key keys (Err place)
    → new ≡ insert apps place (raised_app version (fresh key)) → new_keys ≡ insert keys place (key_text key) → Holds key (raised_app version) apps new new_keys
inserted_place key version = added_place key (raised_app version) (raised_keeps version)
