-- The entry of a key, which a change leaves as it was or not.
use Rattle.std.proofs.Common.{◌≡◌, ◌∙◌, sym, ap, List, [], ◌∷◌, Option, Some}
use Rattle.std.specs.Prelude.{unwrap_or}
use Rattle.std.specs.declared.cmp.Ordering.{Ordering}
use Rattle.std.specs.declared.cmp.Ordering.TheVariants.{Less, Equal, Greater}
use Rattle.std.proofs.lemmas.Option.{none-some, same_Some}
use Rattle.identity.specs.declared.key.Key.{Key}
use Rattle.machine.specs.declared.app.AppState.{AppState}
use Rattle.machine.specs.Entries.{KeepsKeys, entry_at, entry_of, fresh, key_cmp, with_entry, with_entry_at}
use Rattle.machine.proofs.EntryOrder.{entry_of-with_entry}

module _ (key : Key) (f : AppState → AppState) (app : AppState) where
  stays_at : (o : Ordering) (first : AppState) (apps : List AppState)
      → entry_at o first (entry_of key apps) ≡ Some app → f app ≡ app
      → (entry_of key apps ≡ Some app → with_entry key f apps ≡ apps)
      → with_entry_at o key f first apps (with_entry key f apps) ≡ first ∷ apps
  stays_at Less first apps is same rest = ap (λ (xs : List AppState). first ∷ xs) (rest is)
  stays_at Equal first apps is same rest =
      let one = same_Some first app is in
      ap (λ (x : AppState). x ∷ apps) (ap f one ∙ same ∙ sym one)
  stays_at Greater first apps is same rest = absurd (none-some app is)

  -- the entries stay where that of the key does
  pub entry_stays : (apps : List AppState) → entry_of key apps ≡ Some app → f app ≡ app
      → with_entry key f apps ≡ apps
  entry_stays [] is same = absurd (none-some app is)
  entry_stays (first ∷ apps) is same =
      stays_at (key_cmp first.key key) first apps is same (λ rest. entry_stays apps rest same)

  module _ (keeps : KeepsKeys f) where
    -- and that of the key stays where the entries do
    pub entry_same : (apps : List AppState) → entry_of key apps ≡ Some app
        → with_entry key f apps ≡ apps → f app ≡ app
    entry_same apps is same =
        same_Some (f app) app
        (sym (entry_of-with_entry key f keeps apps
        ∙ ap (λ (o : Option AppState). Some (f (unwrap_or o (fresh key)))) is)
        ∙ ap (entry_of key) same ∙ is)
