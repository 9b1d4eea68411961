-- The application at a place, once it is changed.
use Rattle.std.proofs.Common.{◌≡◌, ◌∙◌, ◌<◌, sym, ap, subst, ℕ, List, [], length, map, get_or, set, Option, Some, HoldsAt}
use Rattle.std.specs.Prelude.{option_map, slice_get, unwrap_or}
use Rattle.std.specs.declared.cmp.Ordering.TheVariants.{Equal}
use Rattle.std.proofs.lemmas.Cmp.{tied_itself}
use Rattle.std.proofs.lemmas.List.{length-set}
use Rattle.std.proofs.lemmas.Option.{get_or_from_slice_get, slice_get-get_or, slice_get_within}
use Rattle.std.proofs.Math.Seq.{map-set_same}
use Rattle.identity.specs.Key.{key_text}
use Rattle.identity.specs.declared.key.Key.{Key}
use Rattle.machine.specs.declared.app.AppState.{AppState}
use Rattle.machine.specs.Entries.{AreInOrder, KeepsKeys, fresh, key_cmp, with_entry}
use Rattle.machine.proofs.EntryOrder.{order-with_entry}
use Rattle.machine.proofs.EntryOrder.{order as text_order}
use Rattle.machine.proofs.Places.{changed_at}
use Rattle.store_state.specs.Rows.{with_app}

-- the application at the place is that of the key
pub placed_entry : (key : Key) (f : AppState → AppState) (apps : List AppState) (place : ℕ)
    (app : AppState) → AreInOrder apps → slice_get apps place ≡ Some app
    → key_cmp app.key key ≡ Equal → with_entry key f apps ≡ with_app place f apps
placed_entry key f apps place app order stands equal =
    let read : get_or apps place app ≡ app = get_or_from_slice_get apps place app app stands in
    changed_at key f apps place app order (slice_get_within apps place app stands)
    (ap (λ (a : AppState). key_cmp a.key key) read ∙ equal)
    ∙ ap (λ (a : AppState). set apps place (f a)) read
    ∙ sym (ap (λ (o : Option AppState). unwrap_or
    (option_map (λ (a : AppState). set apps place (f a)) o) apps) stands)

-- the entry at the place is changed, and keeps its key
module _ (f : AppState → AppState) (keeps : KeepsKeys f) (place : ℕ) (apps new : List AppState)
    (order : AreInOrder apps) (within : place < length apps)
    (edit : HoldsAt (λ app. new ≡ set apps place (f app)) apps place) where
  abbrev placed_app : AppState
  placed_app =
      get_or apps place (fresh (record { name = []; token = []; language = []; architecture = [] }))

  stands : slice_get apps place ≡ Some placed_app
  stands = slice_get-get_or apps place _ within

  changed : with_entry placed_app.key f apps ≡ with_app place f apps
  changed =
      placed_entry placed_app.key f apps place placed_app order stands
      (tied_itself text_order (key_text placed_app.key))

  pub changed_is : new ≡ with_app place f apps
  changed_is =
      edit _ ∙ sym (ap (λ (o : Option AppState). unwrap_or
      (option_map (λ (a : AppState). set apps place (f a)) o) apps) stands)

  pub changed_order : AreInOrder new
  changed_order =
      subst AreInOrder (changed ∙ sym changed_is)
      (order-with_entry placed_app.key f keeps apps order)

  pub changed_long : length new ≡ length apps
  changed_long = ap length (edit _) ∙ length-set apps place (f placed_app)

  pub changed_texts : map (λ (app : AppState). key_text app.key) new ≡ map
      (λ (app : AppState). key_text app.key) apps
  changed_texts =
      ap (map (λ (app : AppState). key_text app.key)) (edit _)
      ∙ map-set_same (λ (a : AppState). key_text a.key) apps place (f placed_app) _
      (ap key_text (keeps placed_app))
