-- The row of `rollback`.
use Rattle.std.proofs.Common.{◌≡◌, ◌≢◌, ◌∙◌, inl, inr, refl, sym, ap, subst, append-nil, ℕ, Bool, true, false, List, [], Option, Some, None}
use Rattle.std.specs.Prelude.{IsSomeAnd, option_and_then, option_map}
use Rattle.std.specs.Ordering.{is_lt}
use Rattle.std.proofs.lemmas.Bool.{false≢true}
use Rattle.std.proofs.lemmas.Option.{none-some, same_Some}
use Rattle.identity.specs.declared.key.Key.{Key}
use Rattle.identity.specs.declared.version.Version.{Version}
use Rattle.identity.specs.Key.{IsKey}
use Rattle.identity.specs.Version.{IsBelow, IsVersion, version_cmp}
use Rattle.identity.proofs.VersionLemmas.{IsBelow-from_cmp, cmp_from_IsBelow}
use Rattle.machine.specs.declared.app.AppState.{AppState}
use Rattle.machine.specs.declared.command.Command.TheVariants.{Rollback}
use Rattle.machine.specs.declared.reply.Reply.{Reply}
use Rattle.machine.specs.declared.reply.Reply.TheVariants as says
use Rattle.machine.specs.Current.{current_of, current_version}
use Rattle.machine.specs.Entries.{KeepsKeys, entry_of, with_entry}
use Rattle.machine.specs.Laws.{IsAnswered}
use Rattle.machine.specs.Machine.{moment_set}
use Rattle.machine.specs.Minimums.{minimum_of}
use Rattle.machine.specs.Previous.{numbered_version, previous_of, previous_version}
use Rattle.machine.specs.RollbackRow.{IsPreviousBelow, RollbackEffect, rollback_refusals, rolled_back, rolled_back_app}
use Rattle.machine.specs.Rows.{AreExact, ChangeNothing}
use Rattle.machine.specs.Shape.{Shape, shape_of}
use Rattle.machine.specs.Store.{Session, Store, session_over}
use Rattle.machine.specs.Valid.{IsApp, IsView, Ordered, Valid}
use Rattle.machine.specs.Views.{View, version_of}
use Rattle.machine.specs.Weight.{app_weight}
use Rattle.machine.proofs.AppWeights.{KeepsWeight}
use Rattle.machine.proofs.ChangedEntry.{same_part}
use Rattle.machine.proofs.FirstRefusal.{AllGive, exactly-exact, exactly_with-exact}
use Rattle.machine.proofs.FirstFound.{some_there, then_value}
use Rattle.machine.proofs.KeptStores.{same_views_sound}
use Rattle.machine.proofs.KnownApps.{changed_valid, installed_still}
use Rattle.machine.proofs.Leased.{current_by, entry_in, own_view, previous_kept}
use Rattle.machine.proofs.LeasesKept.{keeps_more}
use Rattle.machine.proofs.Members.{all_in}
use Rattle.machine.proofs.Moments.{SetsNone}
use Rattle.machine.proofs.Numbered.{numbered_in, version_by, version_numbered}
use Rattle.machine.proofs.OtherReplies.{not_installed_is_other}
use Rattle.machine.proofs.RowFacts.{Acts, RowFacts, acts_on, kept_unchanged, rises_as}
use Rattle.machine.proofs.Shortness.{short_key}

-- ---- replies

current_is_other : (version : Version) → says.Current version ≢ says.Memory
current_is_other version e = cc

no_previous_is_other : says.NoPrevious ≢ says.Memory
no_previous_is_other e = cc

below_is_other : (minimum : Version) → says.BelowMinimum minimum ≢ says.Memory
below_is_other minimum e = cc

-- ---- its refusals

module _ (key : Key) (shape : Shape) where
  pub rollback_exact : AreExact (rollback_refusals key shape)
  rollback_exact = (
    exactly-exact _ _,
    (
      exactly-exact _ _,
      (
        exactly_with-exact _ _ (λ x y a b. ap says.BelowMinimum (same_Some x y (sym a.0 ∙ b.0))),
        tt,
      ),
    ),
  )

  pub rollback_unchanged : ChangeNothing (rollback_refusals key shape)
  rollback_unchanged = ((λ s. refl), ((λ s. refl), ((λ s. refl), tt)))

  abbrev set : Reply → Option ℕ
  set reply = moment_set (Some reply)

  rollback_none : AllGive SetsNone (rollback_refusals key shape)
  rollback_none = ((λ r given. ap set given.1), ((λ r given. ap set given.1), ((λ r given. ap set given.2), tt)))

-- ---- its effect

pub back_keys : (have : Version) → KeepsKeys (rolled_back_app have)
back_keys have app = refl

back_weight : (have : Version) → KeepsWeight (rolled_back_app have)
unfolding app_weight
back_weight have app = refl

-- it leaves each minimum
pub back_minimum : (key : Key) (have : Version) (apps : List AppState) (other : Key)
    → minimum_of other (with_entry key (rolled_back_app have) apps) ≡ minimum_of other apps
back_minimum key have apps other =
    same_part (λ (app : AppState). app.minimum) key (rolled_back_app have) (back_keys have)
    (λ app. refl) refl apps other

pub back_is_app : (views : List View) (have : Version) → IsVersion have → (app : AppState)
    → IsApp views app → IsApp views (rolled_back_app have app)
back_is_app views have is_version app is = record {
  key = is.key;
  provider = is.provider;
  current = is.previous;
  previous = tt;
  minimum = is.minimum;
  offer = is.offer;
  skipped = is.skipped;
  excluded = is_version;
  last_check = is.last_check;
  beside = λ some. absurd (false≢true some);
  other = λ number current none. absurd (none-some number none);
  provided = λ some. is.provided (is.beside some);
}

-- a version that is current is one of a view that is kept
have_version : (key : Key) (store : Store) (have : Version) → Ordered store
    → current_version key (shape_of (session_over store)) ≡ Some have → IsVersion have
have_version key store have was is =
    let by = version_by store (current_of key store.apps) have is in
    let known = numbered_in store (current_of key store.apps) by.0 by.1 in
    let of_view = all_in IsView store.views by.0 was.views known.0 in
    subst IsVersion by.2 of_view.deployment.identity.version

-- one that is previous has an entry that names its view
pub previous_by : (key : Key) (store : Store) (version : Version)
    → previous_version key (shape_of (session_over store)) ≡ Some version
    → (number : ℕ) × (app : AppState) × (entry_of key store.apps ≡ Some app)
    × (app.previous ≡ Some number)
previous_by key store version is =
    let by = version_by store (previous_of key store.apps) version is in
    let known = numbered_in store (previous_of key store.apps) by.0 by.1 in
    let app = then_value (λ (a : AppState). a.previous) (entry_of key store.apps) by.0.number
    known.1 in
    (by.0.number, app.0, app.1, app.2)

module _ (now : ℕ) (heard : List (List ℕ)) (key : Key) where
  rollback_acts : (old : Session) (reply : Reply) (new : Session) → RollbackEffect key old reply new
      → Acts (Rollback key) old reply new
  rollback_acts old reply new done =
      acts_on (Rollback key) old reply new (rolled_back key done.have old.store) done.is
      (λ e. current_is_other done.version (sym done.replied ∙ e))
      (ap (λ (r : Reply). moment_set (Some r)) done.replied) refl refl
      (rises_as old.store.apps (rolled_back key done.have old.store).apps
      (back_minimum key done.have old.store.apps))
      (keeps_more old.store (rolled_back key done.have old.store) [] refl refl
      (sym (append-nil old.store.views)))

  left_valid : (old : Session) (reply : Reply) (new : Session) → IsKey key
      → RollbackEffect key old reply new → Valid old.store → Valid new.store
  left_valid old reply new is done valid =
      let by = previous_by key old.store done.version done.previous in
      subst (λ (s : Session). Valid s.store) (sym done.is)
      (changed_valid key (rolled_back_app done.have) (back_keys done.have) old.store (short_key is)
      (some_there (entry_of key old.store.apps) by.1 by.2)
      (back_is_app old.store.views done.have
      (have_version key old.store done.have valid.ordered done.current))
      (installed_still key (rolled_back_app done.have) (back_keys done.have) old.store.apps by.1 by.2
      (some_there by.1.previous by.0 by.3) old.store.views) (back_weight done.have) valid)

  -- ---- there is an answer

  module _ (old : Session) where
    abbrev shape : Shape
    shape = shape_of old

    not_installed : current_of key old.store.apps ≡ None → IsAnswered now heard old (Rollback key)
    not_installed none = record {
      reply = says.NotInstalled;
      new = old;
      answers = inl (inr (tt, inl ((none, refl), refl)));
      other = not_installed_is_other;
    }

    module _ (installed : current_of key old.store.apps ≡ None → ⊥) where
      no_previous : previous_of key old.store.apps ≡ None → IsAnswered now heard old (Rollback key)
      no_previous none = record {
        reply = says.NoPrevious;
        new = old;
        answers = inl (inr (tt, inr (installed, inl ((none, refl), refl))));
        other = no_previous_is_other;
      }

      module _ (before : previous_of key old.store.apps ≡ None → ⊥) (have version : Version)
          (current : current_version key shape ≡ Some have)
          (previous : previous_version key shape ≡ Some version) where
        goes : ((minimum : Version) → IsPreviousBelow key shape minimum → ⊥)
            → IsAnswered now heard old (Rollback key)
        goes free = record {
          reply = says.Current version;
          new = record old { store = rolled_back key have old.store };
          answers = inr (
            (tt, (installed, (before, (free, tt)))),
            record {
              have = have;
              current = current;
              version = version;
              previous = previous;
              replied = refl;
              is = refl;
            },
          );
          other = current_is_other version;
        }

        is_below : (minimum : Version) → IsPreviousBelow key shape minimum
            → IsAnswered now heard old (Rollback key)
        is_below minimum below = record {
          reply = says.BelowMinimum minimum;
          new = old;
          answers = inl (inr (tt, inr (installed, inr (before, inl ((minimum, below, refl), refl)))));
          other = below_is_other minimum;
        }

        by_minimum : (minimum : Option Version) → minimum_of key old.store.apps ≡ minimum
            → IsAnswered now heard old (Rollback key)
        by_minimum None none = goes (λ m below. none-some m (sym none ∙ below.0))
        by_minimum (Some minimum) is = by (is_lt (version_cmp version minimum)) refl
          where
            by : (b : Bool) → is_lt (version_cmp version minimum) ≡ b
                → IsAnswered now heard old (Rollback key)
            by true less =
                is_below minimum (
                  is,
                  subst (λ (o : Option Version). IsSomeAnd o (λ v. IsBelow v minimum)) (sym previous)
                      (IsBelow-from_cmp version minimum less),
                )
            by false reaches =
                goes (λ m below. (let own = subst
                (λ (o : Option Version). IsSomeAnd o (λ v. IsBelow v m)) previous below.1 in
                false≢true (sym reaches ∙ cmp_from_IsBelow version minimum
                (subst (IsBelow version) (same_Some m minimum (sym below.0 ∙ is)) own))))

    by_previous : (app : AppState) (number : ℕ) → entry_of key old.store.apps ≡ Some app
        → app.current ≡ Some number → IsApp old.store.views app → (previous : Option ℕ)
        → app.previous ≡ previous → IsAnswered now heard old (Rollback key)
    by_previous app number known current own None none =
        no_previous
        (λ missing. none-some number (sym missing ∙ named (λ a. a.current) ∙ current))
        (named (λ a. a.previous) ∙ none)
      where
        named : (part : AppState → Option ℕ)
            → option_and_then part (entry_of key old.store.apps) ≡ part app
        named part = ap (λ (e : Option AppState). option_and_then part e) known
    by_previous app number known current own (Some before) is =
        let view = own_view old.store.views app number own current in
        let back = previous_kept old.store.views app before own is in
        by_minimum
        (λ missing. none-some number (sym missing ∙ named (λ a. a.current) ∙ current))
        (λ missing. none-some before (sym missing ∙ named (λ a. a.previous) ∙ is))
        (version_of view.0) (version_of back.0)
        (ap (λ (o : Option ℕ). numbered_version o shape) (named (λ a. a.current) ∙ current)
        ∙ version_numbered old.store (Some number) ∙ ap (option_map version_of) view.1)
        (ap (λ (o : Option ℕ). numbered_version o shape) (named (λ a. a.previous) ∙ is)
        ∙ version_numbered old.store (Some before) ∙ ap (option_map version_of) back.1)
        (minimum_of key old.store.apps) refl
      where
        named : (part : AppState → Option ℕ)
            → option_and_then part (entry_of key old.store.apps) ≡ part app
        named part = ap (λ (e : Option AppState). option_and_then part e) known

    by_current : (number : Option ℕ) → current_of key old.store.apps ≡ number → Ordered old.store
        → IsAnswered now heard old (Rollback key)
    by_current None is was = not_installed is
    by_current (Some number) is was =
        let app = current_by key old.store.apps number is in
        let own = all_in (IsApp old.store.views) old.store.apps app.0 was.apps
        (entry_in key old.store.apps app.0 app.1).0 in
        by_previous app.0 number app.1 app.2 own app.0.previous refl

  -- ---- the row

  pub rollback_facts : RowFacts now heard (Rollback key)
  rollback_facts = record {
    refused = λ old reply new given.
        kept_unchanged (Rollback key) (rollback_refusals key (shape_of old)) old reply new
        (rollback_unchanged key (shape_of old)) given;
    set_none = λ shape. rollback_none key shape;
    acts = rollback_acts;
    valid = λ old reply new is few passes done valid. left_valid old reply new is done valid;
    sound = λ old reply new is few passes done sound.
        same_views_sound old.store new.store (ap (λ (s : Session). s.store.views) done.is)
        (left_valid old reply new is done sound.valid) sound;
    views = λ old reply new at with_texts none valid passes done. inl
        (ap (λ (s : Session). s.store.views) done.is);
    answered = λ old valid none. by_current old (current_of key old.store.apps) refl valid.ordered;
  }
