-- The row of `require`.
use Rattle.std.proofs.Common.{◌≡◌, ◌≢◌, ◌∙◌, ◌⊎◌, ◌<◌, ◌≤◌, inl, inr, refl, sym, ap, subst, append-nil, ℕ, List, [], length, Option, Some, None, arith}
use Rattle.std.proofs.lemmas.Bool.{cases_lt}
use Rattle.small_types.specs.declared.limit.Limit.TheVariants.{Applications}
use Rattle.small_types.specs.declared.limits.TheConstants.{APPLICATION_LIMIT}
use Rattle.identity.specs.declared.key.Key.{Key}
use Rattle.identity.specs.declared.version.Version.{Version}
use Rattle.machine.specs.declared.app.AppState.{AppState}
use Rattle.machine.specs.declared.command.Command.TheVariants.{Require}
use Rattle.machine.specs.declared.reply.Reply.{Reply}
use Rattle.machine.specs.declared.reply.Reply.TheVariants as says
use Rattle.machine.specs.Entries.{entry_of, key_cmp}
use Rattle.machine.specs.Laws.{IsAnswered}
use Rattle.machine.specs.Machine.{moment_set}
use Rattle.machine.specs.Minimums.{minimum_of, raised}
use Rattle.machine.specs.RequireRow.{require_refusals, required}
use Rattle.machine.specs.Rows.{AreExact}
use Rattle.machine.specs.Shape.{Shape, shape_of}
use Rattle.machine.specs.Store.{Session}
use Rattle.machine.specs.Valid.{Valid}
use Rattle.machine.specs.Weight.{IsTooHeavy, table_room, told_weight, weight_of}
use Rattle.machine.proofs.FirstRefusal.{exactly-exact, exactly_with-exact}
use Rattle.machine.proofs.KeptStores.{required_valid, same_views_sound}
use Rattle.machine.proofs.LeasesKept.{keeps_more}
use Rattle.machine.proofs.Lightness.{heavy_or_light}
use Rattle.machine.proofs.OtherReplies.{table_full_is_other}
use Rattle.machine.proofs.RaisedMinimums.{required_holds}
use Rattle.machine.proofs.RowFacts.{RowFacts, acts_on, kept_unchanged}
use Rattle.machine.proofs.Shortness.{short_key}

minimum_is_other : (version : Version) → says.Minimum version ≢ says.Memory
minimum_is_other version e = cc

too_many_is_other : says.TooMany Applications APPLICATION_LIMIT ≢ says.Memory
too_many_is_other e = cc

some_is_not_none : (app : AppState) → Some app ≢ None
some_is_not_none app e = cc

-- its refusals are exact
pub require_exact : (key : Key) (version : Version) (shape : Shape)
    → AreExact (require_refusals key version shape)
require_exact key version shape = (
  exactly-exact _ _,
  (
    exactly_with-exact _ _ (λ x y a b.
        ap (λ (n : ℕ). says.TableFull (told_weight n) (table_room shape.room)) (a.1 ∙ sym b.1)),
    tt,
  ),
)

module _ (now : ℕ) (heard : List (List ℕ)) (key : Key) (version : Version) where
  module _ (old : Session) where
    abbrev weight : ℕ
    weight = weight_of (shape_of old).views (required key version old.store.apps)

    -- the new entry weighs too much
    abbrev TooHeavy : ℕ → Type 0
    TooHeavy n = (entry_of key old.store.apps ≡ None) × (n ≡ weight) × IsTooHeavy old.store.room n

    raises : ¬ ((entry_of key old.store.apps ≡ None) × (APPLICATION_LIMIT ≤ length old.store.apps))
        → ((n : ℕ) → TooHeavy n → ⊥) → IsAnswered now heard old (Require key version)
    raises room fits = record {
      reply = says.Minimum (raised (minimum_of key old.store.apps) version);
      new = record old { store = record old.store { apps = required key version old.store.apps } };
      answers = inr ((tt, (room, (fits, tt))), (refl, refl));
      other = minimum_is_other (raised (minimum_of key old.store.apps) version);
    }

    refuses : entry_of key old.store.apps ≡ None → APPLICATION_LIMIT ≤ length old.store.apps
        → IsAnswered now heard old (Require key version)
    refuses new full = record {
      reply = says.TooMany Applications APPLICATION_LIMIT;
      new = old;
      answers = inl (inr (tt, inl (((new, full), refl), refl)));
      other = too_many_is_other;
    }

    weighs : entry_of key old.store.apps ≡ None
        → ¬ ((entry_of key old.store.apps ≡ None) × (APPLICATION_LIMIT ≤ length old.store.apps))
        → IsTooHeavy old.store.room weight → IsAnswered now heard old (Require key version)
    weighs new room heavy = record {
      reply = says.TableFull (told_weight weight) (table_room old.store.room);
      new = old;
      answers = inl (inr (tt, inr (room, inl ((weight, (new, refl, heavy), refl), refl))));
      other = table_full_is_other (told_weight weight) (table_room old.store.room);
    }

    by_weight : entry_of key old.store.apps ≡ None
        → ¬ ((entry_of key old.store.apps ≡ None) × (APPLICATION_LIMIT ≤ length old.store.apps))
        → IsTooHeavy old.store.room weight ⊎ (IsTooHeavy old.store.room weight → ⊥)
        → IsAnswered now heard old (Require key version)
    by_weight new room (inl heavy) = weighs new room heavy
    by_weight new room (inr light) =
        raises room (λ n over. light (subst (IsTooHeavy old.store.room) over.1 over.2))

    by_count : entry_of key old.store.apps ≡ None
        → (length old.store.apps < APPLICATION_LIMIT) ⊎ (APPLICATION_LIMIT ≤ length old.store.apps)
        → IsAnswered now heard old (Require key version)
    by_count new (inl few) =
        by_weight new (λ both. let full = both.1 in omega arith)
        (heavy_or_light old.store.room weight)
    by_count new (inr full) = refuses new full

    by_entry : (entry : Option AppState) → entry_of key old.store.apps ≡ entry
        → IsAnswered now heard old (Require key version)
    by_entry None new = by_count new (cases_lt (length old.store.apps) APPLICATION_LIMIT)
    by_entry (Some app) known =
        raises (λ both. some_is_not_none app (sym known ∙ both.0))
        (λ n over. some_is_not_none app (sym known ∙ over.0))

  pub require_facts : RowFacts now heard (Require key version)
  require_facts = record {
    refused = λ old reply new given.
        kept_unchanged (Require key version) (require_refusals key version (shape_of old)) old
        reply new ((λ s. refl), ((λ s. refl), tt)) given;
    set_none = λ shape. (
      (λ reply given. ap (λ (r : Reply). moment_set (Some r)) given.1),
      ((λ reply given. ap (λ (r : Reply). moment_set (Some r)) given.2), tt),
    );
    acts = λ old reply new done.
        acts_on (Require key version) old reply new (record old.store {
          apps =
              required key version old.store.apps;
        })
        done.1 (λ e. minimum_is_other _ (sym done.0 ∙ e))
        (ap (λ (r : Reply). moment_set (Some r)) done.0) refl refl
        (λ other minimum is. required_holds other key version minimum old.store.apps
        (key_cmp key other) refl is)
        (keeps_more old.store (record old.store {
          apps =
              required key version old.store.apps;
        }) [] refl refl
        (sym (append-nil old.store.views)));
    valid = λ old reply new is few passes done valid.
        subst (λ (s : Session). Valid s.store) (sym done.1)
        (required_valid key version old.store (short_key is.0) is.1 passes.0 passes.1.0 valid);
    sound = λ old reply new is few passes done sound.
        same_views_sound old.store new.store (ap (λ (s : Session). s.store.views) done.1)
        (subst (λ (s : Session). Valid s.store) (sym done.1)
        (required_valid key version old.store (short_key is.0) is.1 passes.0 passes.1.0 sound.valid)) sound;
    views = λ old reply new at with_texts none valid passes done. inl
        (ap (λ (s : Session). s.store.views) done.1);
    answered = λ old valid none. by_entry old (entry_of key old.store.apps) refl;
  }
