-- The row of `skip`.
use Rattle.std.proofs.Common.{◌≡◌, ◌≢◌, ◌∙◌, inl, inr, refl, sym, ap, subst, append-nil, ℕ, Bool, List, [], Option, Some, None}
use Rattle.std.proofs.lemmas.Option.{none-some}
use Rattle.identity.specs.declared.key.Key.{Key}
use Rattle.identity.specs.declared.version.Version.{Version}
use Rattle.identity.specs.Key.{IsKey}
use Rattle.machine.specs.declared.app.AppState.{AppState}
use Rattle.machine.specs.declared.command.Command.TheVariants.{Skip}
use Rattle.machine.specs.declared.due.Due.{Due}
use Rattle.machine.specs.declared.due.Due.TheVariants as found
use Rattle.machine.specs.declared.reply.Reply.{Reply}
use Rattle.machine.specs.declared.reply.Reply.TheVariants as says
use Rattle.machine.specs.Current.{current_of}
use Rattle.machine.specs.Due.{due}
use Rattle.machine.specs.Entries.{KeepsKeys, entry_of, with_entry}
use Rattle.machine.specs.Laws.{IsAnswered}
use Rattle.machine.specs.Machine.{moment_set}
use Rattle.machine.specs.Minimums.{minimum_of}
use Rattle.machine.specs.Rows.{AreExact, ChangeNothing}
use Rattle.machine.specs.Shape.{Shape, shape_of}
use Rattle.machine.specs.SkipRow.{SkipEffect, offer_of, skip_refusals, skipped, skipped_app}
use Rattle.machine.specs.Store.{Session}
use Rattle.machine.specs.Valid.{IsApp, Ordered, Valid}
use Rattle.machine.specs.Views.{View}
use Rattle.machine.specs.Weight.{app_weight}
use Rattle.machine.proofs.AppWeights.{KeepsWeight}
use Rattle.machine.proofs.ChangedEntry.{same_part}
use Rattle.machine.proofs.FirstRefusal.{AllGive, exactly-exact, exactly_with-exact}
use Rattle.machine.proofs.FirstFound.{some_there, then_value}
use Rattle.machine.proofs.KeptStores.{same_views_sound}
use Rattle.machine.proofs.KnownApps.{known_valid}
use Rattle.machine.proofs.Leased.{due_installed}
use Rattle.machine.proofs.LeasesKept.{keeps_more}
use Rattle.machine.proofs.Moments.{SetsNone}
use Rattle.machine.proofs.OtherReplies.{not_installed_is_other, required_is_other}
use Rattle.machine.proofs.RowFacts.{Acts, RowFacts, acts_on, kept_unchanged, rises_as}
use Rattle.machine.proofs.Shortness.{short_key}

-- ---- replies, and what is due

skipped_is_other : (version : Version) → says.Skipped version ≢ says.Memory
skipped_is_other version e = cc

nothing_is_other : says.NothingOffered ≢ says.Memory
nothing_is_other e = cc

required_one : (x y : Version) → Some (found.Required x) ≡ Some (found.Required y) → x ≡ y
required_one x y e = cc

check_required : (m : Version) → Some found.CheckFirst ≡ Some (found.Required m) → ⊥
check_required m e = cc

offered_required : (v m : Version) → Some (found.Offered v) ≡ Some (found.Required m) → ⊥
offered_required v m e = cc

clear_required : (c : Bool) (m : Version) → Some (found.Clear c) ≡ Some (found.Required m) → ⊥
clear_required c m e = cc

-- ---- its refusals

module _ (key : Key) (now : ℕ) (shape : Shape) where
  pub skip_exact : AreExact (skip_refusals key now shape)
  skip_exact = (
    exactly-exact _ _,
    (
      exactly_with-exact _ _ (λ x y a b. ap says.Required (required_one x y (sym a ∙ b))),
      (exactly-exact _ _, tt),
    ),
  )

  pub skip_unchanged : ChangeNothing (skip_refusals key now shape)
  skip_unchanged = ((λ s. refl), ((λ s. refl), ((λ s. refl), tt)))

  abbrev set : Reply → Option ℕ
  set reply = moment_set (Some reply)

  skip_none : AllGive SetsNone (skip_refusals key now shape)
  skip_none = ((λ r given. ap set given.1), ((λ r given. ap set given.2), ((λ r given. ap set given.1), tt)))

-- ---- its effect

pub skips_keys : KeepsKeys skipped_app
skips_keys app = refl

skips_weight : KeepsWeight skipped_app
unfolding app_weight
skips_weight app = refl

-- it leaves each minimum
skipped_minimum : (key : Key) (apps : List AppState) (other : Key)
    → minimum_of other (with_entry key skipped_app apps) ≡ minimum_of other apps
skipped_minimum key apps other =
    same_part (λ (app : AppState). app.minimum) key skipped_app skips_keys (λ app. refl) refl apps
    other

pub skipped_is_app : (views : List View) (app : AppState) → IsApp views app
    → IsApp views (skipped_app app)
skipped_is_app views app is = record {
  key = is.key;
  provider = is.provider;
  current = is.current;
  previous = is.previous;
  minimum = is.minimum;
  offer = is.offer;
  skipped = is.offer;
  excluded = is.excluded;
  last_check = is.last_check;
  beside = is.beside;
  other = is.other;
  provided = is.provided;
}

module _ (now : ℕ) (heard : List (List ℕ)) (key : Key) where
  skip_acts : (old : Session) (reply : Reply) (new : Session) → SkipEffect key old reply new
      → Acts (Skip key) old reply new
  skip_acts old reply new done =
      acts_on (Skip key) old reply new (skipped key old.store) done.is
      (λ e. skipped_is_other done.offer (sym done.replied ∙ e))
      (ap (λ (r : Reply). moment_set (Some r)) done.replied) refl refl
      (rises_as old.store.apps (skipped key old.store).apps (skipped_minimum key old.store.apps))
      (keeps_more old.store (skipped key old.store) [] refl refl (sym (append-nil old.store.views)))

  left_valid : (old : Session) (reply : Reply) (new : Session) → IsKey key
      → SkipEffect key old reply new → Valid old.store → Valid new.store
  left_valid old reply new is done valid =
      let app = then_value (λ (a : AppState). a.offer) (entry_of key old.store.apps) done.offer
      done.offered in
      subst (λ (s : Session). Valid s.store) (sym done.is)
      (known_valid key skipped_app skips_keys (λ a current. current) old.store (short_key is)
      (some_there (entry_of key old.store.apps) app.0 app.1) (skipped_is_app old.store.views)
      skips_weight valid)

  -- ---- there is an answer

  module _ (old : Session) where
    abbrev shape : Shape
    shape = shape_of old

    not_installed : current_of key old.store.apps ≡ None → IsAnswered now heard old (Skip key)
    not_installed none = record {
      reply = says.NotInstalled;
      new = old;
      answers = inl (inr (tt, inl ((none, refl), refl)));
      other = not_installed_is_other;
    }

    module _ (installed : current_of key old.store.apps ≡ None → ⊥) where
      required : (minimum : Version) → due key shape now ≡ Some (found.Required minimum)
          → IsAnswered now heard old (Skip key)
      required minimum is = record {
        reply = says.Required minimum;
        new = old;
        answers = inl (inr (tt, inr (installed, inl ((minimum, is, refl), refl))));
        other = required_is_other minimum;
      }

      by_offer : ((m : Version) → due key shape now ≡ Some (found.Required m) → ⊥)
          → (offer : Option Version) → offer_of key old.store.apps ≡ offer
          → IsAnswered now heard old (Skip key)
      by_offer free None none = record {
        reply = says.NothingOffered;
        new = old;
        answers = inl (inr (tt, inr (installed, inr (free, inl ((none, refl), refl)))));
        other = nothing_is_other;
      }
      by_offer free (Some offer) is = record {
        reply = says.Skipped offer;
        new = record old { store = skipped key old.store };
        answers = inr (
          (tt, (installed, (free, ((λ none. none-some offer (sym none ∙ is)), tt)))),
          record { offer = offer; offered = is; replied = refl; is = refl },
        );
        other = skipped_is_other offer;
      }

      by_due : (d : Due) → due key shape now ≡ Some d → IsAnswered now heard old (Skip key)
      by_due (found.Required minimum) is = required minimum is
      by_due found.CheckFirst is =
          by_offer (λ m e. check_required m (sym is ∙ e)) (offer_of key old.store.apps) refl
      by_due (found.Offered version) is =
          by_offer (λ m e. offered_required version m (sym is ∙ e)) (offer_of key old.store.apps) refl
      by_due (found.Clear c) is =
          by_offer (λ m e. clear_required c m (sym is ∙ e)) (offer_of key old.store.apps) refl

    by_current : (number : Option ℕ) → current_of key old.store.apps ≡ number → Ordered old.store
        → IsAnswered now heard old (Skip key)
    by_current None is was = not_installed is
    by_current (Some number) is was =
        let d = due_installed key now number old.store was is in
        by_due (λ none. none-some number (sym none ∙ is)) d.0 d.1

  -- ---- the row

  pub skip_facts : RowFacts now heard (Skip key)
  skip_facts = record {
    refused = λ old reply new given.
        kept_unchanged (Skip key) (skip_refusals key now (shape_of old)) old reply new
        (skip_unchanged key now (shape_of old)) given;
    set_none = λ shape. skip_none key now shape;
    acts = skip_acts;
    valid = λ old reply new is few passes done valid. left_valid old reply new is done valid;
    sound = λ old reply new is few passes done sound.
        same_views_sound old.store new.store (ap (λ (s : Session). s.store.views) done.is)
        (left_valid old reply new is done sound.valid) sound;
    views = λ old reply new at with_texts none valid passes done. inl
        (ap (λ (s : Session). s.store.views) done.is);
    answered = λ old valid none. by_current old (current_of key old.store.apps) refl valid.ordered;
  }
