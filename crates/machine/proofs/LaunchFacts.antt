-- The row of `launch`.
use Rattle.std.proofs.Common.{◌≡◌, ◌≢◌, ◌∙◌, ◌⊎◌, ◌<◌, ◌≤◌, inl, inr, refl, sym, ap, subst, ℕ, Bool, List, length, map, Option, Some, None, arith}
use Rattle.std.proofs.lemmas.Bool.{cases_lt}
use Rattle.std.proofs.lemmas.Option.{none-some}
use Rattle.small_types.specs.declared.limits.TheConstants.{LEASE_LIMIT, NUMBER_LIMIT}
use Rattle.identity.specs.declared.key.Key.{Key}
use Rattle.identity.specs.declared.version.Version.{Version}
use Rattle.identity.specs.Key.{IsKey}
use Rattle.machine.specs.declared.command.Command.TheVariants.{Launch}
use Rattle.machine.specs.declared.due.Due.{Due}
use Rattle.machine.specs.declared.due.Due.TheVariants as found
use Rattle.machine.specs.declared.reply.Reply.{Reply}
use Rattle.machine.specs.declared.reply.Reply.TheVariants as says
use Rattle.machine.specs.Current.{current_of, current_view}
use Rattle.machine.specs.Due.{due}
use Rattle.machine.specs.Entries.{entry_of}
use Rattle.machine.specs.LaunchRow.{LaunchEffect, launch_refusals, launched}
use Rattle.machine.specs.Laws.{IsAnswered}
use Rattle.machine.specs.Machine.{moment_set}
use Rattle.machine.specs.Rows.{AreExact, ChangeNothing, PassesAll}
use Rattle.machine.specs.Shape.{Shape, shape_of}
use Rattle.machine.specs.Sound.{Sound}
use Rattle.machine.specs.Store.{Session}
use Rattle.machine.specs.Valid.{Ordered, Valid}
use Rattle.machine.specs.Views.{View, version_of}
use Rattle.machine.proofs.FirstRefusal.{AllGive, exactly-exact, exactly_with-exact}
use Rattle.machine.proofs.FirstFound.{some_there}
use Rattle.machine.proofs.KeptStores.{same_views_sound}
use Rattle.machine.proofs.Leased.{current_entry, current_kept, due_installed, due_none}
use Rattle.machine.proofs.LeasesKept.{launched_keeps}
use Rattle.machine.proofs.LeaseLists.{launched_valid, started_minimum}
use Rattle.machine.proofs.Members.{contains_in, in_map}
use Rattle.machine.proofs.Moments.{SetsNone}
use Rattle.machine.proofs.OtherReplies.{not_installed_is_other, required_is_other}
use Rattle.machine.proofs.RowFacts.{Acts, RowFacts, acts_on, kept_unchanged, rises_as}
use Rattle.machine.proofs.Shortness.{short_key}

-- ---- replies, and what is due

lease_is_other : (lease : ℕ) (version : Version) (check_due : Bool)
    → says.Lease lease version check_due ≢ says.Memory
lease_is_other lease version check_due e = cc

check_first_is_other : says.CheckFirst ≢ says.Memory
check_first_is_other e = cc

offered_is_other : (version : Version) → says.Offered version ≢ says.Memory
offered_is_other version e = cc

full_is_other : says.LeasesFull ≢ says.Memory
full_is_other e = cc

spent_is_other : (next : ℕ) → says.Spent next ≢ says.Memory
spent_is_other next e = cc

required_one : (x y : Version) → Some (found.Required x) ≡ Some (found.Required y) → x ≡ y
required_one x y e = cc

offered_one : (x y : Version) → Some (found.Offered x) ≡ Some (found.Offered y) → x ≡ y
offered_one x y e = cc

required_check : (m : Version) → Some (found.Required m) ≡ Some found.CheckFirst → ⊥
required_check m e = cc

required_offered : (m v : Version) → Some (found.Required m) ≡ Some (found.Offered v) → ⊥
required_offered m v e = cc

check_offered : (v : Version) → Some found.CheckFirst ≡ Some (found.Offered v) → ⊥
check_offered v e = cc

clear_required : (c : Bool) (m : Version) → Some (found.Clear c) ≡ Some (found.Required m) → ⊥
clear_required c m e = cc

clear_check : (c : Bool) → Some (found.Clear c) ≡ Some found.CheckFirst → ⊥
clear_check c e = cc

clear_offered : (c : Bool) (v : Version) → Some (found.Clear c) ≡ Some (found.Offered v) → ⊥
clear_offered c v e = cc

-- ---- numbers

few_leases : (n : ℕ) → ¬ (LEASE_LIMIT ≤ n) → n < LEASE_LIMIT
few_leases n not = by (cases_lt n LEASE_LIMIT)
  where
    by : (n < LEASE_LIMIT) ⊎ (LEASE_LIMIT ≤ n) → n < LEASE_LIMIT
    by (inl less) = less
    by (inr full) = absurd (not full)

by_number : (n : ℕ) → n ≤ NUMBER_LIMIT → (n < NUMBER_LIMIT) ⊎ (n ≡ NUMBER_LIMIT)
by_number n le = by (cases_lt n NUMBER_LIMIT)
  where
    by : (n < NUMBER_LIMIT) ⊎ (NUMBER_LIMIT ≤ n) → (n < NUMBER_LIMIT) ⊎ (n ≡ NUMBER_LIMIT)
    by (inl less) = inl less
    by (inr ge) = inr (omega (arith, le, ge))

some_left : (n : ℕ) → n ≤ NUMBER_LIMIT → n ≢ NUMBER_LIMIT → n < NUMBER_LIMIT
some_left n le other = by (by_number n le)
  where
    by : (n < NUMBER_LIMIT) ⊎ (n ≡ NUMBER_LIMIT) → n < NUMBER_LIMIT
    by (inl less) = less
    by (inr is) = absurd (other is)

-- ---- its refusals

module _ (key : Key) (now : ℕ) (shape : Shape) where
  pub launch_exact : AreExact (launch_refusals key now shape)
  launch_exact = (
    exactly-exact _ _,
    (
      exactly_with-exact _ _ (λ x y a b. ap says.Required (required_one x y (sym a ∙ b))),
      (
        exactly-exact _ _,
        (
          exactly_with-exact _ _ (λ x y a b. ap says.Offered (offered_one x y (sym a ∙ b))),
          (exactly-exact _ _, (exactly-exact _ _, tt)),
        ),
      ),
    ),
  )

  same : (session : Session) → session ≡ session
  same session = refl

  pub launch_unchanged : ChangeNothing (launch_refusals key now shape)
  launch_unchanged = (same, (same, (same, (same, (same, (same, tt))))))

  abbrev set : Reply → Option ℕ
  set reply = moment_set (Some reply)

  launch_none : AllGive SetsNone (launch_refusals key now shape)
  launch_none = (
    (λ r given. ap set given.1),
    (
      (λ r given. ap set given.2),
      (
        (λ r given. ap set given.1),
        (
          (λ r given. ap set given.2),
          ((λ r given. ap set given.1), ((λ r given. ap set given.1), tt)),
        ),
      ),
    ),
  )

  due_some : (d : Due) → due key shape now ≡ Some d → current_of key shape.apps ≡ None → ⊥
  due_some d is none = none-some d (sym (due_none key now shape none) ∙ is)

  -- none holds where nothing is due and a lease is free
  pub free_passes : (check_due : Bool) → due key shape now ≡ Some (found.Clear check_due)
      → length shape.leases < LEASE_LIMIT → shape.next_lease < NUMBER_LIMIT
      → PassesAll (launch_refusals key now shape)
  free_passes check_due is few left = (
    (λ none. due_some (found.Clear check_due) is none),
    (
      (λ minimum e. clear_required check_due minimum (sym is ∙ e)),
      (
        (λ e. clear_check check_due (sym is ∙ e)),
        (
          (λ version e. clear_offered check_due version (sym is ∙ e)),
          ((λ full. omega (arith, few, full)), ((λ spent. omega (arith, left, spent)), tt)),
        ),
      ),
    ),
  )

-- ---- its effect

module _ (now : ℕ) (heard : List (List ℕ)) (key : Key) where
  launch_acts : (old : Session) (reply : Reply) (new : Session) → LaunchEffect key now old reply new
      → Acts (Launch key) old reply new
  launch_acts old reply new done =
      acts_on (Launch key) old reply new (launched key done.view.number old.store) done.is
      (λ e. lease_is_other old.store.next_lease (version_of done.view) done.check_due
      (sym done.replied ∙ e))
      (ap (λ (r : Reply). moment_set (Some r)) done.replied) refl refl
      (rises_as old.store.apps (launched key done.view.number old.store).apps
      (started_minimum key old.store.apps))
      (launched_keeps key done.view.number old.store)

  left_valid : (old : Session) (reply : Reply) (new : Session) → IsKey key
      → PassesAll (launch_refusals key now (shape_of old))
      → LaunchEffect key now old reply new
      → Valid old.store → Valid new.store
  left_valid old reply new is passes done valid =
      let current = current_entry key old.store done.view done.current in
      let kept = contains_in (map (λ (view : View). view.number) old.store.views) done.view.number
      (in_map (λ (view : View). view.number) old.store.views done.view current.3) in
      let few = few_leases (length old.store.leases) passes.1.1.1.1.0 in
      let left = some_left old.store.next_lease valid.ordered.lease_numbers.limit
      passes.1.1.1.1.1.0 in
      subst (λ (s : Session). Valid s.store) (sym done.is)
      (launched_valid key done.view.number old.store (short_key is)
      (some_there (entry_of key old.store.apps) current.0 current.1) kept few left valid)

  left_sound : (old : Session) (reply : Reply) (new : Session) → IsKey key
      → PassesAll (launch_refusals key now (shape_of old))
      → LaunchEffect key now old reply new
      → Sound old.store → Sound new.store
  left_sound old reply new is passes done sound =
      same_views_sound old.store new.store (ap (λ (s : Session). s.store.views) done.is)
      (left_valid old reply new is passes done sound.valid) sound

  -- ---- there is an answer

  module _ (old : Session) where
    abbrev shape : Shape
    shape = shape_of old

    not_installed : current_of key old.store.apps ≡ None → IsAnswered now heard old (Launch key)
    not_installed none = record {
      reply = says.NotInstalled;
      new = old;
      answers = inl (inr (tt, inl ((none, refl), refl)));
      other = not_installed_is_other;
    }

    module _ (view : View) (current : current_view key old.store ≡ Some view) where
      granted : (c : Bool) → due key shape now ≡ Some (found.Clear c)
          → length old.store.leases < LEASE_LIMIT → old.store.next_lease < NUMBER_LIMIT
          → IsAnswered now heard old (Launch key)
      granted c is few left = record {
        reply = says.Lease old.store.next_lease (version_of view) c;
        new = record old { store = launched key view.number old.store };
        answers = inr (
          (tt, free_passes key now shape c is few left),
          record {
            view = view;
            current = current;
            check_due = c;
            clear = is;
            replied = refl;
            is = refl;
          },
        );
        other = lease_is_other old.store.next_lease (version_of view) c;
      }

      by_due : (d : Due) → due key shape now ≡ Some d
          → (length old.store.leases < LEASE_LIMIT) ⊎ (LEASE_LIMIT ≤ length old.store.leases)
          → (old.store.next_lease < NUMBER_LIMIT) ⊎ (old.store.next_lease ≡ NUMBER_LIMIT)
          → IsAnswered now heard old (Launch key)
      by_due (found.Required minimum) is few left = record {
        reply = says.Required minimum;
        new = old;
        answers = inl (inr (
          tt,
          inr (
            due_some key now shape (found.Required minimum) is,
            inl ((minimum, is, refl), refl),
          ),
        ));
        other = required_is_other minimum;
      }
      by_due found.CheckFirst is few left = record {
        reply = says.CheckFirst;
        new = old;
        answers = inl (inr (
          tt,
          inr (
            due_some key now shape found.CheckFirst is,
            inr ((λ m e. required_check m (sym e ∙ is)), inl ((is, refl), refl)),
          ),
        ));
        other = check_first_is_other;
      }
      by_due (found.Offered version) is few left = record {
        reply = says.Offered version;
        new = old;
        answers = inl (inr (
          tt,
          inr (
            due_some key now shape (found.Offered version) is,
            inr (
              (λ m e. required_offered m version (sym e ∙ is)),
              inr ((λ e. check_offered version (sym e ∙ is)), inl ((version, is, refl), refl)),
            ),
          ),
        ));
        other = offered_is_other version;
      }
      by_due (found.Clear c) is (inl few) (inl left) = granted c is few left
      by_due (found.Clear c) is (inr full) left = record {
        reply = says.LeasesFull;
        new = old;
        answers = inl (inr (
          tt,
          inr (
            due_some key now shape (found.Clear c) is,
            inr (
              (λ m e. clear_required c m (sym is ∙ e)),
              inr (
                (λ e. clear_check c (sym is ∙ e)),
                inr ((λ v e. clear_offered c v (sym is ∙ e)), inl ((full, refl), refl)),
              ),
            ),
          ),
        ));
        other = full_is_other;
      }
      by_due (found.Clear c) is (inl few) (inr spent) = record {
        reply = says.Spent old.store.next_lease;
        new = old;
        answers = inl (inr (
          tt,
          inr (
            due_some key now shape (found.Clear c) is,
            inr (
              (λ m e. clear_required c m (sym is ∙ e)),
              inr (
                (λ e. clear_check c (sym is ∙ e)),
                inr (
                  (λ v e. clear_offered c v (sym is ∙ e)),
                  inr (
                    (λ full. omega (arith, few, full)),
                    inl ((spent, refl), refl),
                  ),
                ),
              ),
            ),
          ),
        ));
        other = spent_is_other old.store.next_lease;
      }

    by_current : (number : Option ℕ) → current_of key old.store.apps ≡ number → Ordered old.store
        → IsAnswered now heard old (Launch key)
    by_current None is was = not_installed is
    by_current (Some number) is was =
        let view = current_kept key number old.store was is in
        let d = due_installed key now number old.store was is in
        by_due view.0 view.1 d.0 d.1 (cases_lt (length old.store.leases) LEASE_LIMIT)
        (by_number old.store.next_lease was.lease_numbers.limit)

  -- ---- the row

  pub launch_facts : RowFacts now heard (Launch key)
  launch_facts = record {
    refused = λ old reply new given.
        kept_unchanged (Launch key) (launch_refusals key now (shape_of old)) old reply new
        (launch_unchanged key now (shape_of old)) given;
    set_none = λ shape. launch_none key now shape;
    acts = launch_acts;
    valid = λ old reply new is few passes done valid. left_valid old reply new is passes done valid;
    sound = λ old reply new is few passes done sound. left_sound old reply new is passes done sound;
    views = λ old reply new at with_texts none valid passes done. inl
        (ap (λ (s : Session). s.store.views) done.is);
    answered = λ old valid none. by_current old (current_of key old.store.apps) refl valid.ordered;
  }
