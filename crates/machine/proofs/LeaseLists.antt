-- Stores with one more lease and with one less.
use Rattle.std.proofs.Common.{◌≡◌, ◌≢◌, ◌∙◌, ◌+◌, ◌<◌, ◌≤◌, refl, sym, ap, subst, ℕ, false, not, eqb, eq-eqb, ne_eqb, eqb-true, List, [], ◌∷◌, length, map, All, Contains, Some, None, arith}
use Rattle.std.specs.Prelude.{IsSome, filter}
use Rattle.std.proofs.lemmas.List.{length_push, map-append}
use Rattle.std.proofs.lemmas.List.Elements.{All-filter, All-push}
use Rattle.std.proofs.lemmas.List.Filters.{length-filter_both}
use Rattle.small_types.specs.declared.limits.TheConstants.{LEASE_LIMIT, NUMBER_LIMIT}
use Rattle.identity.specs.declared.key.Key.{Key}
use Rattle.machine.specs.declared.app.AppState.{AppState}
use Rattle.machine.specs.declared.lease.Lease.{Lease}
use Rattle.machine.specs.Entries.{KeepsKeys, entry_of, fresh, with_entry}
use Rattle.machine.specs.Fields.{IsShortKey}
use Rattle.machine.specs.FinishRow.{finished}
use Rattle.machine.specs.LaunchRow.{launched, started_app}
use Rattle.machine.specs.Leases.{lease_of, with_lease, without_lease}
use Rattle.machine.specs.Minimums.{minimum_of}
use Rattle.machine.specs.Shape.{bare_view}
use Rattle.machine.specs.Store.{Store}
use Rattle.machine.specs.Valid.{AreNumbers, IsApp, Ordered, Valid}
use Rattle.machine.specs.Views.{View}
use Rattle.machine.specs.Weight.{app_weight}
use Rattle.machine.proofs.AppWeights.{KeepsWeight, known_light}
use Rattle.machine.proofs.ChangedEntry.{same_part}
use Rattle.machine.proofs.EntryOrder.{All-with_entry, length-with_known, order-with_entry}
use Rattle.machine.proofs.FirstFound.{find-kept, find-last, find-lost, find-other, find_in, find_none, value_of}
use Rattle.machine.proofs.KeptStores.{installed-with_entry}
use Rattle.machine.proofs.KnownApps.{checked_is_app, fresh_app}
use Rattle.machine.proofs.Members.{all_in, filter_map_is, in_all, in_map}
use Rattle.machine.proofs.NumberLists.{numbers_among, push_numbers}

-- their numbers
abbrev pub numbers : List Lease → List ℕ
numbers leases = map (λ (lease : Lease). lease.number) leases

-- ---- the lease of a number

-- one that lives has a number that was given
pub lease_below : (next number : ℕ) (leases : List Lease)
    → All (λ (n : ℕ). n < next) (numbers leases)
    → IsSome (lease_of number leases) → number < next
lease_below next number leases below lives =
    let lease = value_of (lease_of number leases) lives in
    let found = find_in (λ (l : Lease). eqb l.number number) leases lease.0 lease.1 in
    let less = all_in (λ (n : ℕ). n < next) (numbers leases) lease.0.number below
    (in_map (λ (l : Lease). l.number) leases lease.0 found.0) in
    let same = eqb-true lease.0.number number found.1 in
    omega (arith, less, same)

-- no lease has a number that was not given
pub lease_none : (next : ℕ) (leases : List Lease) → All (λ (n : ℕ). n < next) (numbers leases)
    → lease_of next leases ≡ None
lease_none next leases below =
    find_none (λ (l : Lease). eqb l.number next) leases
    (in_all (λ (l : Lease). eqb l.number next ≡ false) leases (λ l there.
    ne_eqb l.number next (λ e. (let less =
    all_in (λ (n : ℕ). n < next) (numbers leases) l.number below
    (in_map (λ (k : Lease). k.number) leases l there) in omega (arith, less, e)))))

-- the new lease, and each other one as it was
pub lease_new : (next view : ℕ) (leases : List Lease) → All (λ (n : ℕ). n < next) (numbers leases)
    → lease_of next (with_lease next view leases) ≡ Some (record { number = next; view = view })
lease_new next view leases below =
    find-last (λ (l : Lease). eqb l.number next) leases (record { number = next; view = view })
    (lease_none next leases below) (eq-eqb next next refl)

pub lease_other : (number next view : ℕ) (leases : List Lease) → number ≢ next
    → lease_of number (with_lease next view leases) ≡ lease_of number leases
lease_other number next view leases other =
    find-other (λ (l : Lease). eqb l.number number) leases (record { number = next; view = view })
    (ne_eqb next number (λ e. other (sym e)))

-- that which is taken out, and each other one as it was
pub lease_gone : (number : ℕ) (leases : List Lease)
    → lease_of number (without_lease number leases) ≡ None
lease_gone number leases =
    find-lost (λ (l : Lease). eqb l.number number) (λ (l : Lease). not (eqb l.number number)) leases
    (λ l is. ap not is)

pub lease_stays : (number gone : ℕ) (leases : List Lease) → number ≢ gone
    → lease_of number (without_lease gone leases) ≡ lease_of number leases
lease_stays number gone leases other =
    find-kept (λ (l : Lease). eqb l.number number) (λ (l : Lease). not (eqb l.number gone)) leases
    (λ l is. ap not (ne_eqb l.number gone (λ e. other (sym (eqb-true l.number number is) ∙ e))))

-- ---- lists of leases

-- numbers still rise with a new lease behind them
pub numbers_more : (next view : ℕ) (leases : List Lease) → next < NUMBER_LIMIT
    → AreNumbers next (numbers leases)
    → AreNumbers (next + 1) (numbers (with_lease next view leases))
numbers_more next view leases left was =
    subst (AreNumbers (next + 1))
    (sym (map-append (λ (l : Lease). l.number) leases (record { number = next; view = view } ∷ [])))
    (push_numbers next (numbers leases) was left)

-- and where one is taken out
numbers_left : (number : ℕ) (leases : List Lease) → numbers (without_lease number leases)
    ≡ filter (λ (n : ℕ). not (eqb n number)) (numbers leases)
numbers_left number leases =
    sym (filter_map_is (λ (l : Lease). l.number) (λ (n : ℕ). not (eqb n number)) leases)

pub numbers_fewer : (number next : ℕ) (leases : List Lease) → AreNumbers next (numbers leases)
    → AreNumbers next (numbers (without_lease number leases))
numbers_fewer number next leases was =
    subst (AreNumbers next) (sym (numbers_left number leases))
    (numbers_among (λ (n : ℕ). not (eqb n number)) next (numbers leases) was)

pub fewer_leases : (number : ℕ) (leases : List Lease)
    → length (without_lease number leases) ≤ length leases
fewer_leases number leases =
    let both = length-filter_both (λ (l : Lease). not (eqb l.number number))
    (λ (l : Lease). not (not (eqb l.number number))) (λ l. refl) leases in
    omega (arith, both)

-- ---- one more

module _ (key : Key) where
  pub starts_keys : KeepsKeys started_app
  starts_keys app = refl

  starts_weight : KeepsWeight started_app
  unfolding app_weight
  starts_weight app = refl

  -- a start leaves each minimum
  pub started_minimum : (apps : List AppState) (other : Key)
      → minimum_of other (with_entry key started_app apps) ≡ minimum_of other apps
  started_minimum apps other =
      same_part (λ (app : AppState). app.minimum) key started_app starts_keys (λ app. refl)
      refl apps
      other

  module _ (views : List View) where
    started_is_app : (app : AppState) → IsApp views app → IsApp views (started_app app)
    started_is_app = checked_is_app false views

    fresh_is_app : IsShortKey key → IsApp views (started_app (fresh key))
    fresh_is_app is_key = checked_is_app false views (fresh key) (fresh_app views key is_key)

  module _ (number : ℕ) (old : Store) (is_key : IsShortKey key)
      (known : IsSome (entry_of key old.apps))
      (kept : Contains (map (λ (view : View). view.number) old.views) number)
      (few : length old.leases < LEASE_LIMIT) (left : old.next_lease < NUMBER_LIMIT) where
    pub launched_ordered : Ordered old → Ordered (launched key number old)
    launched_ordered was =
        let app = value_of (entry_of key old.apps) known in
        record {
          some_blocks = was.some_blocks;
          few_blocks = was.few_blocks;
          boot = was.boot;
          lease_numbers = numbers_more old.next_lease number old.leases left was.lease_numbers;
          few_leases = omega (
            arith,
            few,
            length_push old.leases (record { number = old.next_lease; view = number }),
          );
          leased = All-push
              (λ (l : Lease). Contains (map (λ (view : View). view.number) old.views) l.view)
              old.leases (record { number = old.next_lease; view = number }) was.leased kept;
          view_numbers = was.view_numbers;
          few_views = was.few_views;
          few_files = was.few_files;
          views = was.views;
          installed = installed-with_entry key started_app starts_keys (λ app current. current)
              old.apps old.views was.installed;
          order = order-with_entry key started_app starts_keys old.apps was.order;
          few_apps = omega (
            arith,
            was.few_apps,
            length-with_known key started_app starts_keys old.apps app.0 app.1,
          );
          apps = All-with_entry key started_app starts_keys (IsApp old.views)
              (fresh_is_app old.views is_key) (started_is_app old.views) old.apps was.apps;
        }

    pub launched_valid : Valid old → Valid (launched key number old)
    launched_valid valid = record {
      ordered = launched_ordered valid.ordered;
      room = valid.room;
      light = (let app = value_of (entry_of key old.apps) known in
          known_light key started_app starts_weight old.room (map bare_view old.views) old.apps app.0
          app.1 valid.light);
    }

-- ---- one less

module _ (number : ℕ) (old : Store) where
  pub finished_ordered : Ordered old → Ordered (finished number old)
  finished_ordered was = record {
    some_blocks = was.some_blocks;
    few_blocks = was.few_blocks;
    boot = was.boot;
    lease_numbers = numbers_fewer number old.next_lease old.leases was.lease_numbers;
    few_leases = omega (arith, was.few_leases, fewer_leases number old.leases);
    leased = All-filter (λ (l : Lease). not (eqb l.number number))
        (λ (l : Lease). Contains (map (λ (view : View). view.number) old.views) l.view) old.leases
        was.leased;
    view_numbers = was.view_numbers;
    few_views = was.few_views;
    few_files = was.few_files;
    views = was.views;
    installed = was.installed;
    order = was.order;
    few_apps = was.few_apps;
    apps = was.apps;
  }

  pub finished_valid : Valid old → Valid (finished number old)
  finished_valid valid = record {
    ordered = finished_ordered valid.ordered;
    room = valid.room;
    light = valid.light;
  }
