-- What applications weigh where that of a key is changed.
use Rattle.std.proofs.Common.{◌≡◌, ◌∙◌, ◌+◌, refl, sym, ap, ◌<◌, ℕ, zero, suc, min, List, [], ◌∷◌, Option, Some, None, get_or, length, take, drop, arith}
use Rattle.std.specs.Prelude.{slice_get, sum_by}
use Rattle.std.specs.Borrow.{Bor}
use Rattle.std.specs.List.{HoldsAt}
use Rattle.std.specs.Option.{option_copied}
use Rattle.std.specs.declared.cmp.Ordering.{Ordering}
use Rattle.std.specs.declared.cmp.Ordering.TheVariants.{Less, Equal, Greater}
use Rattle.std.proofs.lemmas.List.Sums.{sum_by-cons}
use Rattle.std.proofs.lemmas.Cmp.{tied_itself}
use Rattle.std.proofs.lemmas.Option.{slice_get-get_or}
use Rattle.small_types.specs.declared.target.Target.{Target}
use Rattle.identity.specs.declared.key.Key.{Key}
use Rattle.identity.specs.declared.version.Version.{Version}
use Rattle.identity.specs.Key.{key_text}
use Rattle.machine.specs.declared.app.AppState.{AppState}
use Rattle.machine.specs.declared.weights.TheConstants.{APP_WEIGHT}
use Rattle.machine.specs.Entries.{AreInOrder, IsBelowAll, entry_at, entry_of, fresh, key_cmp, with_entry, with_entry_at}
use Rattle.machine.specs.InstallRow.{with_provider}
use Rattle.machine.specs.Minimums.{raised_app}
use Rattle.machine.specs.RequireRow.{required}
use Rattle.machine.specs.Weight.{app_weight, key_bytes, target_bytes}
use Rattle.machine.proofs.EntryOrder.{order}

module _ (key : Key) (f : AppState → AppState) where
  -- ---- a new key

  new_at : (o : Ordering) (app : AppState) (apps rest : List AppState) (others : Option AppState)
      → (others ≡ None
      → sum_by app_weight rest ≡ app_weight (f (fresh key)) + sum_by app_weight apps)
      → entry_at o app others ≡ None
      → sum_by app_weight (with_entry_at o key f app apps rest)
      ≡ app_weight (f (fresh key)) + sum_by app_weight (app ∷ apps)
  new_at Less app apps rest others later is =
      let behind = later is in
      omega (arith, behind, sum_by-cons app_weight app rest, sum_by-cons app_weight app apps)
  new_at Equal app apps rest others later is = absurd cc
  new_at Greater app apps rest others later is = sum_by-cons app_weight (f (fresh key)) (app ∷ apps)

  pub new_sum : (apps : List AppState) → entry_of key apps ≡ None
      → sum_by app_weight (with_entry key f apps)
      ≡ app_weight (f (fresh key)) + sum_by app_weight apps
  new_sum [] is = sum_by-cons app_weight (f (fresh key)) []
  new_sum (app ∷ apps) is =
      new_at (key_cmp app.key key) app apps (with_entry key f apps) (entry_of key apps)
      (new_sum apps) is

  -- ---- a known key, by the place of its entry

  -- no application is behind itself
  not_behind : (x : AppState) (apps : List AppState) (k : ℕ) → IsBelowAll x.key apps
      → slice_get apps k ≡ Some x → ⊥
  not_behind x [] k below is = absurd cc
  not_behind x (app ∷ apps) zero below is =
      let same : app ≡ x = cc in
      apart (sym below.0 ∙ ap (λ (a : AppState). key_cmp x.key a.key) same
      ∙ tied_itself order (key_text x.key))
    where
      apart : Less ≡ Equal → ⊥
      apart e = cc
  not_behind x (app ∷ apps) (suc k) below is = not_behind x apps k below.1 is

  known_at : (o : Ordering) (app : AppState) (apps rest : List AppState)
      (others : Option AppState) (k : ℕ) (x : AppState) → IsBelowAll app.key apps
      → (others ≡ Some x → sum_by app_weight rest
      ≡ sum_by app_weight (take k apps)
      + (app_weight (f x) + sum_by app_weight (drop (suc k) apps)))
      → slice_get apps k ≡ Some x → entry_at o app others ≡ Some x
      → sum_by app_weight (with_entry_at o key f app apps rest)
      ≡ sum_by app_weight (take (suc k) (app ∷ apps))
      + (app_weight (f x) + sum_by app_weight (drop (suc (suc k)) (app ∷ apps)))
  known_at Less app apps rest others k x below later there is =
      let behind = later is in
      omega (
        arith,
        behind,
        sum_by-cons app_weight app rest,
        sum_by-cons app_weight app (take k apps),
      )
  known_at Equal app apps rest others k x below later there is =
      let same : app ≡ x = cc in
      absurd (not_behind x apps k (rw (← same) below) there)
  known_at Greater app apps rest others k x below later there is = absurd cc

  first_at : (o : Ordering) (app : AppState) (apps rest : List AppState) (others : Option AppState)
      → (others ≡ Some app → ⊥) → entry_at o app others ≡ Some app
      → sum_by app_weight (with_entry_at o key f app apps rest)
      ≡ app_weight (f app) + sum_by app_weight apps
  first_at Less app apps rest others not_later is = absurd (not_later is)
  first_at Equal app apps rest others not_later is = sum_by-cons app_weight (f app) apps
  first_at Greater app apps rest others not_later is = absurd cc

  entry_there : (apps : List AppState) (x : AppState) → entry_of key apps ≡ Some x
      → (k : ℕ) × (slice_get apps k ≡ Some x)
  entry_there [] x is = absurd cc
  entry_there (app ∷ apps) x is =
      by (key_cmp app.key key) (entry_there apps x) is
    where
      by : (o : Ordering) → (entry_of key apps ≡ Some x → (k : ℕ) × (slice_get apps k ≡ Some x))
          → entry_at o app (entry_of key apps) ≡ Some x
          → (k : ℕ) × (slice_get (app ∷ apps) k ≡ Some x)
      by Less later e = let rest = later e in (suc rest.0, rest.1)
      by Equal later e = (0, e)
      by Greater later e = absurd cc

  pub known_sum : (apps : List AppState) (k : ℕ) (x : AppState) → AreInOrder apps
      → slice_get apps k ≡ Some x → entry_of key apps ≡ Some x
      → sum_by app_weight (with_entry key f apps)
      ≡ sum_by app_weight (take k apps)
      + (app_weight (f x) + sum_by app_weight (drop (suc k) apps))
  known_sum [] k x ordered there is = absurd cc
  known_sum (app ∷ apps) zero x ordered there is =
      let same : app ≡ x = cc in
      let weigh = ap (λ (a : AppState). app_weight (f a)) same in
      let sum = first_at (key_cmp app.key key) app apps (with_entry key f apps) (entry_of key apps)
      (λ later. (let found = entry_there apps app later in
      not_behind app apps found.0 ordered.0 found.1)) (is ∙ ap Some (sym same)) in
      omega (arith, weigh, sum)
  known_sum (app ∷ apps) (suc k) x ordered there is =
      known_at (key_cmp app.key key) app apps (with_entry key f apps) (entry_of key apps) k x
      ordered.0 (known_sum apps k x ordered.1 there) there is

  -- ---- a known key whose entry weighs what it did

  module _ (keeps : (app : AppState) → app_weight (f app) ≡ app_weight app) where
    kept_at : (o : Ordering) (app : AppState) (apps rest : List AppState)
        (others : Option AppState) (x : AppState)
        → (others ≡ Some x → sum_by app_weight rest ≡ sum_by app_weight apps)
        → entry_at o app others ≡ Some x
        → sum_by app_weight (with_entry_at o key f app apps rest)
        ≡ sum_by app_weight (app ∷ apps)
    kept_at Less app apps rest others x later is =
        let behind = later is in
        omega (arith, behind, sum_by-cons app_weight app rest, sum_by-cons app_weight app apps)
    kept_at Equal app apps rest others x later is =
        omega (
          arith,
          keeps app,
          sum_by-cons app_weight (f app) apps,
          sum_by-cons app_weight app apps,
        )
    kept_at Greater app apps rest others x later is = absurd cc

    pub kept_sum : (apps : List AppState) (x : AppState) → entry_of key apps ≡ Some x
        → sum_by app_weight (with_entry key f apps) ≡ sum_by app_weight apps
    kept_sum [] x is = absurd cc
    kept_sum (app ∷ apps) x is =
        kept_at (key_cmp app.key key) app apps (with_entry key f apps) (entry_of key apps) x
        (kept_sum apps x) is

-- ---- a minimum weighs nothing

raised_weighs : (version : Version) (app : AppState)
    → app_weight (raised_app version app) ≡ app_weight app
unfolding app_weight
raised_weighs version app = refl

new_weighs : (key : Key) (version : Version)
    → app_weight (raised_app version (fresh key)) ≡ APP_WEIGHT + key_bytes key
unfolding app_weight
new_weighs key version = omega arith

pub required_new : (key : Key) (version : Version) (apps : List AppState) → entry_of key apps ≡ None
    → sum_by app_weight (required key version apps)
    ≡ APP_WEIGHT + key_bytes key + sum_by app_weight apps
required_new key version apps is =
    omega (arith, new_sum key (raised_app version) apps is, new_weighs key version)

pub required_known : (key : Key) (version : Version) (apps : List AppState) (x : AppState)
    → entry_of key apps ≡ Some x
    → sum_by app_weight (required key version apps) ≡ sum_by app_weight apps
required_known key version apps x is =
    kept_sum key (raised_app version) (raised_weighs version) apps x is

-- ---- a provider

provided_weighs : (provider : Target) (app : AppState)
    → app_weight (with_provider provider app)
    ≡ APP_WEIGHT + key_bytes app.key + target_bytes provider
unfolding app_weight
provided_weighs provider app = refl

pub provided_new : (key : Key) (provider : Target) (apps : List AppState)
    → entry_of key apps ≡ None
    → sum_by app_weight (with_entry key (with_provider provider) apps)
    ≡ APP_WEIGHT + key_bytes key + target_bytes provider + sum_by app_weight apps
provided_new key provider apps is =
    omega (
      arith,
      new_sum key (with_provider provider) apps is,
      provided_weighs provider (fresh key),
    )

pub provided_known : (key : Key) (provider : Target) (apps : List AppState) (k : ℕ) (x : AppState)
    → AreInOrder apps → slice_get apps k ≡ Some x → entry_of key apps ≡ Some x
    → sum_by app_weight (with_entry key (with_provider provider) apps)
    ≡ sum_by app_weight (take k apps) + sum_by app_weight (drop (k + 1) apps)
    + (APP_WEIGHT + key_bytes x.key + target_bytes provider)
provided_known key provider apps k x ordered there is =
    let next : suc k ≡ k + 1 = omega arith in
    omega (
      arith,
      ap (λ (n : ℕ). sum_by app_weight (drop n apps)) next,
      known_sum key (with_provider provider) apps k x ordered there is,
      provided_weighs provider x,
    )

-- ---- as they are read

cut : (a b sum limit : ℕ) → a ≡ b → sum ≡ min a limit → sum ≡ min b limit
cut a b sum limit same is = omega (arith, same, is)

none_known : (known : Option (Bor AppState)) → known ≡ None → option_copied known ≡ None
none_known known is = ap (λ (o : Option (Bor AppState)). option_copied o) is

module _ (key : Key) (apps read : List AppState) (same : read ≡ apps) where
  sum_read : sum_by app_weight read ≡ sum_by app_weight apps
  sum_read = ap (λ (xs : List AppState). sum_by app_weight xs) same

  pub some_required : (version : Version) (known : Option (Bor AppState)) (app : Bor AppState)
      (sum limit : ℕ) → option_copied known ≡ entry_of key apps → known ≡ Some app
      → sum ≡ min (sum_by app_weight read) limit
      → sum ≡ min (sum_by app_weight (required key version apps)) limit
  some_required version known app sum limit entry is summed =
      cut (sum_by app_weight read) (sum_by app_weight (required key version apps)) sum limit
      (sum_read ∙ sym (required_known key version apps app.now
      (sym entry ∙ ap (λ (o : Option (Bor AppState)). option_copied o) is))) summed

  pub none_required : (version : Version) (known : Option (Bor AppState))
      (bytes with sum all limit : ℕ) → option_copied known ≡ entry_of key apps → known ≡ None
      → sum ≡ min (sum_by app_weight read) limit → bytes ≡ min (key_bytes key) limit
      → with ≡ min (APP_WEIGHT + bytes) limit → all ≡ min (with + sum) limit
      → all ≡ min (sum_by app_weight (required key version apps)) limit
  none_required version known bytes with sum all limit entry is summed counted weighed joined =
      omega (
        arith,
        sum_read,
        required_new key version apps (sym entry ∙ none_known known is),
        summed,
        counted,
        weighed,
        joined,
      )

  module _ (provider : Target) where
    abbrev Provided : ℕ → ℕ → ℕ → Type 0
    Provided place sum limit =
        HoldsAt (λ (app : AppState). sum ≡ min (sum_by app_weight (take place read)
        + sum_by app_weight (drop (place + 1) read)
        + (APP_WEIGHT + key_bytes app.key + target_bytes provider)) limit) read place

    pub some_provided : (place sum limit : ℕ) → AreInOrder apps → place < length apps
        → slice_get apps place ≡ entry_of key apps → Provided place sum limit
        → sum ≡ min (sum_by app_weight (with_entry key (with_provider provider) apps)) limit
    some_provided place sum limit ordered within entry holds =
        let x = get_or read place (fresh key) in
        let there : slice_get apps place ≡ Some x =
        slice_get-get_or apps place (fresh key) within
        ∙ ap (λ (xs : List AppState). Some (get_or xs place (fresh key))) (sym same) in
        let first = ap (λ (xs : List AppState). sum_by app_weight (take place xs)) same in
        let last = ap (λ (xs : List AppState). sum_by app_weight (drop (place + 1) xs)) same in
        let whole = holds (fresh key) in
        let known = provided_known key provider apps place x ordered there (sym entry ∙ there) in
        omega (arith, first, last, whole, known)

    pub none_provided : (own sum all limit : ℕ) → entry_of key apps ≡ None
        → own ≡ min (APP_WEIGHT + key_bytes key + target_bytes provider) limit
        → sum ≡ min (sum_by app_weight read) limit → all ≡ min (own + sum) limit
        → all ≡ min (sum_by app_weight (with_entry key (with_provider provider) apps)) limit
    none_provided own sum all limit none weighed summed joined =
        let known = provided_new key provider apps none in
        omega (arith, sum_read, weighed, summed, joined, known)
