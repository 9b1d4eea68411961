-- What a rollback leaves, and that an excluded offer is not due.
use Rattle.std.proofs.Common.{◌≡◌, ◌≢◌, ◌∙◌, ◌⊎◌, ◌||◌, inl, inr, refl, sym, ap, subst, ℕ, Bool, true, false, cond, List, Option, Some, None, IsSome}
use Rattle.std.specs.Prelude.{IfSome, IsSomeAnd, option_and_then, unwrap_or}
use Rattle.std.proofs.lemmas.Bool.{or_right}
use Rattle.std.proofs.lemmas.Option.{none-some, same_Some}
use Rattle.identity.specs.declared.key.Key.{Key}
use Rattle.identity.specs.declared.version.Version.{Version}
use Rattle.identity.specs.Version.{IsBelow}
use Rattle.machine.specs.declared.app.AppState.{AppState}
use Rattle.machine.specs.declared.command.Command.TheVariants.{Rollback}
use Rattle.machine.specs.declared.due.Due.TheVariants.{Required, CheckFirst, Offered, Clear}
use Rattle.machine.specs.declared.reply.Reply.{Reply}
use Rattle.machine.specs.declared.reply.Reply.TheVariants as says
use Rattle.machine.specs.Current.{current_bare, current_of, current_view, view_at}
use Rattle.machine.specs.Due.{due, due_of, first_due, is_version, offered_to, required_by, unless_declined}
use Rattle.machine.specs.Entries.{entry_of, fresh}
use Rattle.machine.specs.Installed.{above}
use Rattle.machine.specs.LifeLaws.{IsRolledBack, excluded_of}
use Rattle.machine.specs.Machine.{Answers}
use Rattle.machine.specs.Minimums.{minimum_of}
use Rattle.machine.specs.Previous.{previous_of, previous_version, previous_view}
use Rattle.machine.specs.RollbackRow.{IsPreviousBelow, RollbackEffect, rollback_refusals, rolled_back, rolled_back_app}
use Rattle.machine.specs.Shape.{BareView, Shape, shape_of}
use Rattle.machine.specs.Store.{Session, Store, session_over}
use Rattle.machine.specs.Views.{View, version_of}
use Rattle.machine.proofs.DueChecks.{due_by, is_itself}
use Rattle.machine.proofs.FirstRefusal.{AllGive, given_reply}
use Rattle.machine.proofs.EntryOrder.{entry_of-other, entry_of-with_entry}
use Rattle.machine.proofs.FirstFound.{then_value, value_of}
use Rattle.machine.proofs.Numbered.{numbered_in, version_by}
use Rattle.machine.proofs.RollbackFacts.{back_keys, back_minimum, previous_by}

-- ---- an answer that is no refusal

abbrev IsNoCurrent : Reply → Type 0
IsNoCurrent reply = (version : Version) → ¬ (reply ≡ says.Current version)

module _ (version : Version) where
  memory_apart : says.Memory ≡ says.Current version → ⊥
  memory_apart e = cc

  not_installed_apart : says.NotInstalled ≡ says.Current version → ⊥
  not_installed_apart e = cc

  no_previous_apart : says.NoPrevious ≡ says.Current version → ⊥
  no_previous_apart e = cc

  below_apart : (minimum : Version) → says.BelowMinimum minimum ≡ says.Current version → ⊥
  below_apart minimum e = cc

  current_one : (other : Version) → says.Current version ≡ says.Current other → version ≡ other
  current_one other e = cc

no_current : (key : Key) (shape : Shape) → AllGive IsNoCurrent (rollback_refusals key shape)
no_current key shape = (
  (λ r given v e. not_installed_apart v (sym given.1 ∙ e)),
  (
    (λ r given v e. no_previous_apart v (sym given.1 ∙ e)),
    ((λ r given v e. below_apart v _ (sym given.2 ∙ e)), tt),
  ),
)

-- the effect, and that the previous version is not below the minimum
rollback_done : (now : ℕ) (heard : List (List ℕ)) (old : Session) (key : Key) (version : Version)
    (new : Session) → Answers now heard old (Rollback key) (says.Current version) new
    → RollbackEffect key old (says.Current version) new
    × ((minimum : Version) → IsPreviousBelow key (shape_of old) minimum → ⊥)
rollback_done now heard old key version new (inl (inl memory)) =
    absurd (memory_apart version (sym memory.0))
rollback_done now heard old key version new (inl (inr refused)) =
    absurd (given_reply IsNoCurrent (rollback_refusals key (shape_of old)) old
    (says.Current version) new (no_current key (shape_of old)) refused.1 version refl)
rollback_done now heard old key version new (inr done) = (done.1, done.0.1.1.1.0)

-- ---- what it leaves

module _ (key : Key) (have : Version) (store : Store) (app : AppState)
    (known : entry_of key store.apps ≡ Some app) where
  entry_back : entry_of key (rolled_back key have store).apps ≡ Some (rolled_back_app have app)
  entry_back =
      entry_of-with_entry key (rolled_back_app have) (back_keys have) store.apps
      ∙ ap (λ (e : Option AppState). Some (rolled_back_app have (unwrap_or e (fresh key)))) known

  current_back : current_of key (rolled_back key have store).apps ≡ app.previous
  current_back =
      ap (λ (e : Option AppState). option_and_then (λ (a : AppState). a.current) e) entry_back

  none_back : previous_of key (rolled_back key have store).apps ≡ None
  none_back =
      ap (λ (e : Option AppState). option_and_then (λ (a : AppState). a.previous) e) entry_back

module _ (old : Session) (key : Key) (have version : Version) (view back : View) (app : AppState)
    (was_current : current_view key old.store ≡ Some view) (has : version_of view ≡ have)
    (was_previous : previous_view key old.store ≡ Some back) (shown : version_of back ≡ version)
    (number : previous_of key old.store.apps ≡ Some back.number)
    (known : entry_of key old.store.apps ≡ Some app) (named : app.previous ≡ Some back.number)
    (previous : previous_version key (shape_of old) ≡ Some version)
    (free : (minimum : Version) → IsPreviousBelow key (shape_of old) minimum → ⊥) where
  is_back : current_view key (rolled_back key have old.store) ≡ Some back
  is_back =
      ap (λ (o : Option ℕ). option_and_then (λ (n : ℕ). view_at n old.store.views) o)
      (current_back key have old.store app known ∙ named ∙ sym number)
      ∙ was_previous

  reaches : (minimum : Option Version) → minimum_of key old.store.apps ≡ minimum
      → IfSome minimum (λ m. ¬ IsBelow version m)
  reaches None is = tt
  reaches (Some minimum) is = λ below. free minimum (
    is,
    subst (λ (o : Option Version). IsSomeAnd o (λ v. IsBelow v minimum)) (sym previous) below,
  )

  abbrev went : Option ℕ → Version → AppState
  went current excluded = record app {
    current = current;
    previous = None;
    excluded = Some excluded;
  }

  entry_is : entry_of key (rolled_back key have old.store).apps
      ≡ Some (went (Some back.number) (version_of view))
  entry_is =
      entry_back key have old.store app known
      ∙ ap (λ (o : Option ℕ). Some (went o have)) named
      ∙ ap (λ (v : Version). Some (went (Some back.number) v)) (sym has)

  went_back : IsRolledBack key version old (record old { store = rolled_back key have old.store })
  went_back = record {
    view = view;
    back = back;
    was_current = was_current;
    was_previous = was_previous;
    is_current = is_back;
    shown = shown;
    minimum = subst (λ (o : Option Version). IfSome o (λ m. ¬ IsBelow version m))
        (sym (back_minimum key have old.store.apps key)) (reaches (minimum_of key old.store.apps) refl);
    app = app;
    known = known;
    entry = entry_is;
    others = λ other apart.
        entry_of-other key (rolled_back_app have) (back_keys have) other apart old.store.apps;
    rest = refl;
  }

pub rollback_is : (now : ℕ) (heard : List (List ℕ)) (old : Session) (key : Key)
    (version : Version) (new : Session)
    → Answers now heard old (Rollback key) (says.Current version) new
    → IsRolledBack key version old new
rollback_is now heard old key version new answers =
    let both = rollback_done now heard old key version new answers in
    let done = both.0 in
    let same : version ≡ done.version = current_one version done.version done.replied in
    let view = version_by old.store (current_of key old.store.apps) done.have done.current in
    let back = version_by old.store (previous_of key old.store.apps) done.version done.previous in
    let number = (numbered_in old.store (previous_of key old.store.apps) back.0 back.1).1 in
    let app = then_value (λ (a : AppState). a.previous) (entry_of key old.store.apps) back.0.number
    number in
    subst (λ (s : Session). IsRolledBack key version old s) (sym done.is)
    (subst (λ (v : Version). IsRolledBack key v old
    (record old { store = rolled_back key done.have old.store })) (sym same)
    (went_back old key done.have done.version view.0 back.0 app.0 view.1 view.2 back.1 back.2 number
    app.1 app.2 done.previous both.1))

-- ---- where it is granted

pub rollback_granted : (now : ℕ) (heard : List (List ℕ)) (old : Session) (key : Key)
    (version : Version) (reply : Reply) (new : Session)
    → IsSome (current_of key old.store.apps)
    → previous_version key (shape_of old) ≡ Some version
    → IfSome (minimum_of key old.store.apps) (λ minimum. ¬ IsBelow version minimum)
    → Answers now heard old (Rollback key) reply new
    → (reply ≡ says.Current version) ⊎ (reply ≡ says.Memory)
rollback_granted now heard old key version reply new is previous reaches (inl (inl memory)) =
    inr memory.0
rollback_granted now heard old key version reply new is previous reaches
    (inl (inr (_, inl given))) =
    absurd (none-some (value_of (current_of key old.store.apps) is).0
    (sym given.0.0 ∙ (value_of (current_of key old.store.apps) is).1))
rollback_granted now heard old key version reply new is previous reaches
    (inl (inr (_, inr (_, inl given)))) =
    absurd (let by = previous_by key old.store version previous in
    none-some by.0 (sym given.0.0
    ∙ ap (λ (e : Option AppState). option_and_then (λ (a : AppState). a.previous) e) by.2 ∙ by.3))
rollback_granted now heard old key version reply new is previous reaches
    (inl (inr (_, inr (_, inr (_, inl given))))) =
    absurd (subst (λ (o : Option Version). IfSome o (λ m. ¬ IsBelow version m)) given.0.1.0 reaches
    (subst (λ (o : Option Version). IsSomeAnd o (λ v. IsBelow v given.0.0)) previous given.0.1.1))
rollback_granted now heard old key version reply new is previous reaches
    (inl (inr (_, inr (_, inr (_, inr later))))) = absurd later.1
rollback_granted now heard old key version reply new is previous reaches (inr done) =
    inl (done.1.replied
    ∙ ap says.Current (same_Some done.1.version version (sym done.1.previous ∙ previous)))

-- ---- a second one at once

module _ (at : ℕ) (texts : List (List ℕ)) (mid : Session) (key : Key) (reply : Reply)
    (new : Session) (installed : current_of key mid.store.apps ≡ None → ⊥)
    (single : previous_of key mid.store.apps ≡ None) where
  second : Answers at texts mid (Rollback key) reply new
      → ((reply ≡ says.NoPrevious) ⊎ (reply ≡ says.Memory)) × (new ≡ mid)
  second (inl (inl memory)) = (inr memory.0, memory.1)
  second (inl (inr (_, inl given))) = absurd (installed given.0.0)
  second (inl (inr (_, inr (_, inl given)))) = (inl given.0.1, given.1)
  second (inl (inr (_, inr (_, inr later)))) = absurd (later.0 single)
  second (inr done) = absurd (done.0.1.1.0 single)

pub rollback_single : (now : ℕ) (heard : List (List ℕ)) (old : Session) (key : Key)
    (version : Version) (mid : Session) (at : ℕ) (texts : List (List ℕ)) (reply : Reply)
    (new : Session)
    → Answers now heard old (Rollback key) (says.Current version) mid
    → Answers at texts mid (Rollback key) reply new
    → ((reply ≡ says.NoPrevious) ⊎ (reply ≡ says.Memory)) × (new ≡ mid)
rollback_single now heard old key version mid at texts reply new first later =
    let done = (rollback_done now heard old key version mid first).0 in
    let by = previous_by key old.store done.version done.previous in
    second at texts mid key reply new
    (λ none. none-some by.0 (sym none ∙ ap (λ (s : Session). current_of key s.store.apps) done.is
    ∙ current_back key done.have old.store by.1 by.2 ∙ by.3))
    (ap (λ (s : Session). previous_of key s.store.apps) done.is
    ∙ none_back key done.have old.store by.1 by.2) later

-- ---- an excluded offer

-- what is offered is not excluded
offer_free : (app : AppState) (offer : Option Version) (version : Version)
    → app.excluded ≡ Some version → unless_declined app offer ≢ Some version
offer_free app None version is e = none-some version e
offer_free app (Some offer) version is e =
    by (is_version offer app.skipped || is_version offer app.excluded) refl e
  where
    by : (b : Bool) → (is_version offer app.skipped || is_version offer app.excluded) ≡ b
        → cond b None (Some offer) ≡ Some version → ⊥
    by true declined none = none-some version none
    by false free some =
        clash (sym free ∙ or_right (is_version offer app.skipped) (is_version offer app.excluded)
        (ap (is_version offer) is
        ∙ ap (λ (v : Version). is_version offer (Some v)) (sym (same_Some offer version some))
        ∙ is_itself offer))
      where
        clash : false ≡ true → ⊥
        clash e = cc

-- what is due is offered
offer_due : (required offer : Option Version) (first time : Bool) (version : Version)
    → first_due required first offer time ≡ Offered version → offer ≡ Some version
offer_due (Some minimum) offer first time version e = absurd (apart minimum version e)
  where
    apart : (m v : Version) → Required m ≡ Offered v → ⊥
    apart m v e = cc
offer_due None offer true time version e = absurd (apart version e)
  where
    apart : (v : Version) → CheckFirst ≡ Offered v → ⊥
    apart v e = cc
offer_due None (Some other) false time version e = one other version e
  where
    one : (a b : Version) → Offered a ≡ Offered b → Some a ≡ Some b
    one a b e = cc
offer_due None None false time version e = absurd (apart time version e)
  where
    apart : (t : Bool) (v : Version) → Clear t ≡ Offered v → ⊥
    apart t v e = cc

none_due : (view : Option BareView) (at : ℕ) (app : AppState) (version : Version)
    → app.excluded ≡ Some version → due_by view at app ≢ Some (Offered version)
none_due None at app version is e = none-some (Offered version) e
none_due (Some view) at app version is e =
    let own = view.deployment.identity.version in
    offer_free app (above own app.offer) version is
    (offer_due (required_by own app) (offered_to own app) _ _ version
    (same_Some (due_of own view.deployment.rule app at) (Offered version) e))

pub excluded_not_due : (key : Key) (version : Version) (store : Store) (at : ℕ)
    → excluded_of key store.apps ≡ Some version
    → due key (shape_of (session_over store)) at ≢ Some (Offered version)
excluded_not_due key version store at is e =
    let app = then_value (λ (a : AppState). a.excluded) (entry_of key store.apps) version is in
    none_due (current_bare key (shape_of (session_over store))) at app.0 version app.2
    (sym (ap (λ (o : Option AppState). option_and_then
    (due_by (current_bare key (shape_of (session_over store))) at) o) app.1) ∙ e)
