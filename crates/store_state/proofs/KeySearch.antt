-- What a search over the printed keys that are kept finds.
use Rattle.std.proofs.Common.{◌≡◌, ◌∙◌, ℕ, zero, suc, ◌<◌, ◌≤◌, List, [], ◌∷◌, length, None, Result, Ok, Err, refl, sym, ap, arith}
use Rattle.std.specs.Prelude.{IfNone, IfSome, slice_get}
use Rattle.std.specs.List.{insert, remove}
use Rattle.std.specs.List.Sorted.{IsBinarySearchResult, IsSearchInRange}
use Rattle.std.specs.Result.{result_ok}
use Rattle.std.proofs.lemmas.Option.{slice_get-get_or}
use Rattle.identity.specs.declared.key.Key.{Key}
use Rattle.identity.specs.Key.{key_text}
use Rattle.identity.specs.Printed.{text_cmp}
use Rattle.machine.specs.declared.app.AppState.{AppState}
use Rattle.machine.specs.Entries.{entry_of, fresh}
use Rattle.machine.proofs.Places.{absent, found, searched_keys}
use Rattle.store_state.specs.Kept.{AreKept}

-- the search over them ended so
pub record IsFound (key : Key) (keys : List (List ℕ)) (result : Result ℕ ℕ) : Type 0 where
  pub range : IsSearchInRange result (length keys)
  pub found : IsBinarySearchResult (λ text. text_cmp text (key_text key)) keys result

-- a key that is not found has no entry
pub absent_at : (key : Key) (apps : List AppState) (keys : List (List ℕ)) (place : ℕ)
    → AreKept keys apps → IsFound key keys (Err place) → entry_of key apps ≡ None
absent_at key apps keys place kept search =
    absent key apps place (let at = searched_keys key apps keys (key_text key) (Err place) kept refl
    search.range search.found in at.absent)

-- the place that is found is that of the key's entry
pub place_found : (key : Key) (apps : List AppState) (keys : List (List ℕ)) (result : Result ℕ ℕ)
    → AreKept keys apps → IsFound key keys result
    → IfSome (result_ok result) (λ place. (place < length apps)
    × (slice_get apps place ≡ entry_of key apps))
place_found key apps keys (Ok place) kept search =
    let d = fresh key in
    let at = searched_keys key apps keys (key_text key) (Ok place) kept refl search.range
    search.found in (
      at.found.0,
      slice_get-get_or apps place d at.found.0
          ∙ sym (found key apps place d kept.1 at.found.0 (at.found.1 d)),
    )
place_found key apps keys (Err place) kept search = tt

pub place_none : (key : Key) (apps : List AppState) (keys : List (List ℕ)) (result : Result ℕ ℕ)
    → AreKept keys apps → IsFound key keys result
    → IfNone (result_ok result) (entry_of key apps ≡ None)
place_none key apps keys (Ok place) kept search = tt
place_none key apps keys (Err place) kept search = absent_at key apps keys place kept search

-- what was put in is taken out
pub removed : {X : Type 0} (xs : List X) (place : ℕ) (x : X) → place ≤ length xs
    → remove (insert xs place x) place ≡ xs
removed [] place x within = let none : place ≡ 0 = omega arith in rw none refl
removed (y ∷ ys) zero x within = refl
removed (y ∷ ys) (suc place) x within = ap (λ rest. y ∷ rest) (removed ys place x (omega arith))
