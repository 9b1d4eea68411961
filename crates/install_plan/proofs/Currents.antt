-- The view that is current, in tables and in the store that they show.
use Rattle.std.proofs.Common.{◌≡◌, ◌∙◌, ℕ, ◌==◌, List, map, Option, Some, None, IsSome, refl, sym, ap}
use Rattle.std.specs.Prelude.{option_and_then, option_map}
use Rattle.std.proofs.lemmas.Option.{none-some}
use Rattle.small_types.specs.declared.room.Room.{Room}
use Rattle.identity.specs.declared.key.Key.{Key}
use Rattle.machine.specs.declared.app.AppState.{AppState}
use Rattle.machine.specs.Current.{current_of, current_view, view_at}
use Rattle.machine.specs.Entries.{entry_of}
use Rattle.machine.specs.Store.{Store}
use Rattle.machine.specs.Valid.{IsApp, Ordered}
use Rattle.machine.specs.Views.{View as KeptView}
use Rattle.machine.proofs.FirstFound.{find-map, value_of}
use Rattle.machine.proofs.Leased.{current_kept, entry_in}
use Rattle.machine.proofs.Members.{all_in}
use Rattle.store_state.specs.declared.view.Content.{Content}
use Rattle.store_state.specs.declared.view.View.{View}
use Rattle.store_state.specs.Rows.{current_row, row_at}
use Rattle.store_state.specs.Shows.{Shows, shown_view}
use Rattle.store_state.specs.Tables.{Tables}

shown_by : (room : Room) (image : List ℕ) (contents : List Content) (views : List View)
    (number : Option ℕ)
    → option_and_then (λ (n : ℕ). view_at n (map (shown_view room image contents) views)) number
    ≡ option_map (shown_view room image contents)
    (option_and_then (λ (n : ℕ). row_at n views) number)
shown_by room image contents views None = refl
shown_by room image contents views (Some number) =
    find-map (shown_view room image contents) (λ (view : KeptView). view.number == number) views

pub map_there : {X Y : Type 0} (f : X → Y) (o : Option X) (y : Y) → option_map f o ≡ Some y → IsSome o
map_there f None y is = absurd (none-some y is)
map_there f (Some x) y is = refl

none_there : {X : Type 0} (o : Option X) → o ≡ None → IsSome o → ⊥
none_there {X} None is some = absurd (let there : IsSome {T = X} None = some in cc)
none_there (Some x) is some = cc

module _ {room : Room} {tables : Tables} {image : List ℕ} {store : Store}
    (shows : Shows room tables image store) where
  pub current_shown : (key : Key)
      → current_view key store ≡ option_map (shown_view room image tables.contents)
      (current_row key tables)
  current_shown key =
      ap (current_view key) shows.is
      ∙ shown_by room image tables.contents tables.views (current_of key tables.apps)

  module _ (key : Key) (was : Ordered store) where
    -- in a store in its order it is among the views
    pub current_stands : IsSome (current_of key tables.apps) → IsSome (current_row key tables)
    current_stands some =
        let number = value_of (current_of key tables.apps) some in
        let kept = current_kept key number.0 store was
        (ap (λ (s : Store). current_of key s.apps) shows.is ∙ number.1) in
        map_there (shown_view room image tables.contents) (current_row key tables) kept.0
        (sym (current_shown key) ∙ kept.1)

    -- none is current where no view is found
    pub none_current : current_row key tables ≡ None → current_of key store.apps ≡ None
    none_current none = by (current_of key store.apps) refl
      where
        by : (number : Option ℕ) → current_of key store.apps ≡ number
            → current_of key store.apps ≡ None
        by None is = is
        by (Some number) is =
            let kept = current_kept key number store was is in
            absurd (none-some kept.0
            (sym (ap (option_map (shown_view room image tables.contents)) none)
            ∙ sym (current_shown key) ∙ kept.1))

    -- or where the application has no provider
    pub none_provided : (app : AppState) → entry_of key tables.apps ≡ Some app → app.provider ≡ None
        → current_of key store.apps ≡ None
    none_provided app is none = by (current_of key store.apps) refl
      where
        own : entry_of key store.apps ≡ Some app
        own = ap (λ (s : Store). entry_of key s.apps) shows.is ∙ is

        kept : IsApp store.views app
        kept = all_in (IsApp store.views) store.apps app was.apps (entry_in key store.apps app own).0

        by : (number : Option ℕ) → current_of key store.apps ≡ number
            → current_of key store.apps ≡ None
        by None is = is
        by (Some number) found =
            let named : app.current ≡ Some number =
            sym (ap (λ (o : Option AppState). option_and_then (λ (a : AppState). a.current) o) own)
            ∙ found in
            absurd (none_there app.provider none (kept.provided (some_of app.current number named)))
          where
            some_of : (o : Option ℕ) (n : ℕ) → o ≡ Some n → IsSome o
            some_of None n e = absurd (none-some n e)
            some_of (Some m) n e = refl
