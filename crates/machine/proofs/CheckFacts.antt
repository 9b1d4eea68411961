-- The row of `check`.
use Rattle.std.proofs.Common.{◌≡◌, ◌≢◌, ◌∙◌, ◌⊎◌, ◌≤◌, inl, inr, refl, sym, ap, subst, append-nil, ℕ, true, List, [], ◌∷◌, Option, Some, None}
use Rattle.std.specs.Prelude.{IfSome, IsSome, option_and_then}
use Rattle.std.proofs.lemmas.Option.{none-some}
use Rattle.small_types.specs.declared.limits.TheConstants.{NUMBER_LIMIT}
use Rattle.small_types.specs.declared.target.Target.{Target}
use Rattle.causes.specs.declared.cause.Cause.{Cause}
use Rattle.identity.specs.declared.key.Key.{Key}
use Rattle.identity.specs.declared.version.Version.{Version}
use Rattle.identity.specs.Key.{IsKey}
use Rattle.identity.specs.Version.{IsVersion}
use Rattle.manifest_parts.specs.declared.fault.ManifestFault.{ManifestFault}
use Rattle.manifests.specs.declared.facts.Deployment.{Deployment}
use Rattle.manifests.specs.Deployments.{deployment_of}
use Rattle.machine.specs.declared.app.AppState.{AppState}
use Rattle.machine.specs.declared.command.Command.TheVariants.{Check}
use Rattle.machine.specs.declared.reply.Reply.{Reply}
use Rattle.machine.specs.declared.reply.Reply.TheVariants as says
use Rattle.machine.specs.CheckRow.{CheckEffect, check_refusals, checked, heard_app, provider_of, unheard_app, unheard_store}
use Rattle.machine.specs.Current.{current_of}
use Rattle.machine.specs.Entries.{KeepsKeys, entry_of, with_entry}
use Rattle.machine.specs.Fields.{IsDeployment}
use Rattle.machine.specs.InstallRow.{OfDeployment}
use Rattle.machine.specs.Laws.{IsAllLinks, IsAnswered}
use Rattle.machine.specs.Machine.{moment_set}
use Rattle.machine.specs.Minimums.{minimum_of}
use Rattle.machine.specs.Rows.{AreExact, PassesAll, Refuses}
use Rattle.machine.specs.Shape.{Shape, shape_of}
use Rattle.machine.specs.Store.{Session}
use Rattle.machine.specs.Valid.{IsApp, Ordered, Valid}
use Rattle.machine.specs.Views.{View}
use Rattle.machine.specs.Weight.{app_weight}
use Rattle.machine.proofs.AppWeights.{KeepsWeight}
use Rattle.machine.proofs.ChangedEntry.{same_part}
use Rattle.machine.proofs.FirstRefusal.{AllGive, exactly-exact, exactly_with-exact, leaving-exact, unheard_exact}
use Rattle.machine.proofs.FirstFound.{some_there, value_of}
use Rattle.machine.proofs.InstallExact.{reason_one, some_is_not_none, text_one}
use Rattle.machine.proofs.NewView.{version-above, version-raised_by}
use Rattle.machine.proofs.KeptStores.{same_views_sound}
use Rattle.machine.proofs.KnownApps.{checked_is_app, known_valid}
use Rattle.machine.proofs.Leased.{current_by, entry_in}
use Rattle.machine.proofs.LeasesKept.{keeps_more}
use Rattle.machine.proofs.Members.{all_in}
use Rattle.machine.proofs.Moments.{SetsNone}
use Rattle.machine.proofs.OtherReplies.{all_links_is_other, not_installed_is_other}
use Rattle.machine.proofs.RaisedMinimums.{raised_minimum}
use Rattle.machine.proofs.ReadDeployments.{deployment_read}
use Rattle.machine.proofs.RowFacts.{Acts, Kept, Rises, RowFacts, acts_on, kept_same, rises_as}
use Rattle.machine.proofs.Shortness.{short_key}

-- ---- replies

checked_is_other : (offer minimum : Option Version) → says.Checked offer minimum ≢ says.Memory
checked_is_other offer minimum e = cc

not_installed_links : IsAllLinks says.NotInstalled → ⊥
not_installed_links is = absurd (apart is.0 is.1 is.2)
  where
    apart : (target : Target) (causes : List Cause) → says.NotInstalled ≡ says.AllLinks target causes → ⊥
    apart target causes e = cc

manifest_links : (fault : ManifestFault) → IsAllLinks (says.Manifest fault) → ⊥
manifest_links fault is = absurd (apart is.0 is.1 is.2)
  where
    apart : (target : Target) (causes : List Cause)
        → says.Manifest fault ≡ says.AllLinks target causes → ⊥
    apart target causes e = cc

identity_links : (found : Key) → IsAllLinks (says.IdentityDiffers found) → ⊥
identity_links found is = absurd (apart is.0 is.1 is.2)
  where
    apart : (target : Target) (causes : List Cause)
        → says.IdentityDiffers found ≡ says.AllLinks target causes → ⊥
    apart target causes e = cc

-- ---- its refusals

module _ (key : Key) (text : List ℕ) (texts : List (List ℕ)) (shape : Shape) where
  -- they are exact where a manifest is heard
  pub check_exact : AreExact (check_refusals key (text ∷ texts) shape)
  check_exact = (
    exactly-exact _ _,
    (
      leaving-exact _ _ (unheard_exact _ (λ target there. some_is_not_none text there.1)),
      (
        exactly_with-exact _ _
            (λ x y first second. ap says.Manifest
            (reason_one deployment_of 0 (text ∷ texts) x y first second)),
        (
          exactly_with-exact _ _ (λ x y first second.
              ap says.IdentityDiffers (sym first.0.4 ∙ ap (λ (d : Deployment). d.identity.key)
              (text_one deployment_of 0 (text ∷ texts) first.0 second.0) ∙ second.0.4)),
          tt,
        ),
      ),
    ),
  )

module _ (key : Key) (heard : List (List ℕ)) (shape : Shape) where
  abbrev set : Reply → Option ℕ
  set reply = moment_set (Some reply)

  check_none : AllGive SetsNone (check_refusals key heard shape)
  check_none = (
    (λ r given. ap set given.1),
    (
      (λ r given. ap set given.3),
      ((λ r given. ap set given.2), ((λ r given. ap set given.2), tt)),
    ),
  )

-- a refused check changes nothing, or it was not heard and counts as made
pub check_refused : (key : Key) (heard : List (List ℕ)) (old : Session) (reply : Reply)
    (new : Session) → Refuses (check_refusals key heard (shape_of old)) old reply new
    → ((IsAllLinks reply → ⊥) × (new ≡ old))
    ⊎ (IsAllLinks reply × (new ≡ record old { store = unheard_store key old.store }))
check_refused key heard old reply new (inl given) =
    inl ((λ is. not_installed_links (subst IsAllLinks given.0.1 is)), given.1)
check_refused key heard old reply new (inr (_, inl given)) =
    inr ((given.0.0, given.0.1, given.0.3), given.1)
check_refused key heard old reply new (inr (_, inr (_, inl given))) =
    inl ((λ is. manifest_links given.0.0 (subst IsAllLinks given.0.2 is)), given.1)
check_refused key heard old reply new (inr (_, inr (_, inr (_, inl given)))) =
    inl ((λ is. identity_links given.0.0 (subst IsAllLinks given.0.2 is)), given.1)
check_refused key heard old reply new (inr (_, inr (_, inr (_, inr none)))) = absurd none.1

-- where it changes something a view is current
past_current : (key : Key) (heard : List (List ℕ)) (old : Session) (reply : Reply) (new : Session)
    → Refuses (check_refusals key heard (shape_of old)) old reply new
    → (new ≡ old) ⊎ (current_of key old.store.apps ≡ None → ⊥)
past_current key heard old reply new (inl given) = inl given.1
past_current key heard old reply new (inr rest) = inr rest.0

-- ---- what an unheard one leaves

pub unheard_keys : KeepsKeys unheard_app
unheard_keys app = refl

unheard_weight : KeepsWeight unheard_app
unfolding app_weight
unheard_weight app = refl

unheard_minimum : (key : Key) (apps : List AppState) (other : Key)
    → minimum_of other (with_entry key unheard_app apps) ≡ minimum_of other apps
unheard_minimum key apps other =
    same_part (λ (app : AppState). app.minimum) key unheard_app unheard_keys (λ app. refl) refl apps
    other

pub unheard_is_app : (views : List View) (app : AppState) → IsApp views app
    → IsApp views (unheard_app app)
unheard_is_app = checked_is_app true

-- the key has an entry where a view is current
pub known_app : (key : Key) (apps : List AppState) → (current_of key apps ≡ None → ⊥)
    → IsSome (entry_of key apps)
known_app key apps installed = by (entry_of key apps) refl
  where
    by : (entry : Option AppState) → entry_of key apps ≡ entry → IsSome entry
    by None none = absurd (installed (ap (λ (e : Option AppState). option_and_then
        (λ (app : AppState). app.current) e) none))
    by (Some app) is = refl

unheard_kept : (key : Key) (old : Session) (target : Target) (causes : List Cause)
    → (current_of key old.store.apps ≡ None → ⊥)
    → Kept (Check key) old (says.AllLinks target causes) (record old { store = unheard_store key old.store })
unheard_kept key old target causes installed = record {
  memory = λ e. absurd (all_links_is_other target causes e);
  room = refl;
  boot = refl;
  jobs = refl;
  next_job = refl;
  minimums = rises_as old.store.apps (unheard_store key old.store).apps
      (unheard_minimum key old.store.apps);
  leases = keeps_more old.store (unheard_store key old.store) [] refl refl
      (sym (append-nil old.store.views));
  views = refl;
  next_view = refl;
  valid = λ is valid. known_valid key unheard_app unheard_keys (λ app current. current) old.store
      (short_key is) (known_app key old.store.apps installed) (unheard_is_app old.store.views)
      unheard_weight valid;
}

-- ---- what a heard one leaves

module _ (key : Key) (have version : Version) (minimum : Option Version) (now : ℕ) where
  abbrev change : AppState → AppState
  change app = heard_app have version minimum now app

  pub heard_keys : KeepsKeys (heard_app have version minimum now)
  heard_keys app = refl

  pub heard_weight : KeepsWeight (heard_app have version minimum now)
  unfolding app_weight
  heard_weight app = refl

  pub heard_is_app : (views : List View) → IsVersion version → IfSome minimum IsVersion
      → now ≤ NUMBER_LIMIT → (app : AppState) → IsApp views app
      → IsApp views (heard_app have version minimum now app)
  heard_is_app views is_version is_minimum few app is = record {
    key = is.key;
    provider = is.provider;
    current = is.current;
    previous = is.previous;
    minimum = version-raised_by minimum app.minimum is_minimum is.minimum;
    offer = version-above have (Some version) is_version;
    skipped = is.skipped;
    excluded = is.excluded;
    last_check = few;
    beside = is.beside;
    other = is.other;
    provided = is.provided;
  }

  heard_rises : (apps : List AppState)
      → Rises apps (with_entry key (heard_app have version minimum now) apps)
  heard_rises apps =
      raised_minimum key (heard_app have version minimum now) heard_keys minimum (λ app. refl) apps

module _ (now : ℕ) (heard : List (List ℕ)) (key : Key) where
  check_acts : (old : Session) (reply : Reply) (new : Session)
      → CheckEffect key heard now old reply new → Acts (Check key) old reply new
  check_acts old reply new done =
      let d = done.deployment in
      acts_on (Check key) old reply new (checked key done.have d now old.store) done.is
      (λ e. checked_is_other _ _ (sym done.replied ∙ e))
      (ap (λ (r : Reply). moment_set (Some r)) done.replied) refl refl
      (heard_rises key done.have d.identity.version d.minimum now old.store.apps)
      (keeps_more old.store (checked key done.have d now old.store) [] refl refl
      (sym (append-nil old.store.views)))

  -- what was heard may be held
  held : (d : Deployment) → OfDeployment heard (λ x. x ≡ d) → IsDeployment d
  held d told = subst IsDeployment told.4 (deployment_read told.0 told.1 told.3)

  left_valid : (old : Session) (reply : Reply) (new : Session) → IsKey key → now ≤ NUMBER_LIMIT
      → PassesAll (check_refusals key heard (shape_of old))
      → CheckEffect key heard now old reply new → Valid old.store → Valid new.store
  left_valid old reply new is few passes done valid =
      let d = done.deployment in
      let may = held d done.told in
      subst (λ (s : Session). Valid s.store) (sym done.is)
      (known_valid key (heard_app done.have d.identity.version d.minimum now)
      (heard_keys key done.have d.identity.version d.minimum now) (λ app current. current) old.store
      (short_key is) (known_app key old.store.apps passes.0)
      (heard_is_app key done.have d.identity.version d.minimum now old.store.views
      may.identity.version may.minimum few)
      (heard_weight key done.have d.identity.version d.minimum now) valid)

  refused : (old : Session) (reply : Reply) (new : Session)
      → Refuses (check_refusals key heard (shape_of old)) old reply new
      → Kept (Check key) old reply new
  refused old reply new given =
      by (check_refused key heard old reply new given) (past_current key heard old reply new given)
    where
      by : ((IsAllLinks reply → ⊥) × (new ≡ old))
          ⊎ (IsAllLinks reply × (new ≡ record old { store = unheard_store key old.store }))
          → (new ≡ old) ⊎ (current_of key old.store.apps ≡ None → ⊥) → Kept (Check key) old reply new
      by (inl same) any = kept_same (Check key) old reply new same.1
      by (inr left) (inl same) = kept_same (Check key) old reply new same
      by (inr left) (inr installed) =
          subst (λ (s : Session). Kept (Check key) old reply s) (sym left.1)
          (subst (λ (r : Reply). Kept (Check key) old r (record old { store = unheard_store key old.store }))
          (sym left.0.2) (unheard_kept key old left.0.0 left.0.1 installed))

-- ---- there is an answer

module _ (now : ℕ) (key : Key) (old : Session) where
  not_installed : current_of key old.store.apps ≡ None → IsAnswered now [] old (Check key)
  not_installed none = record {
    reply = says.NotInstalled;
    new = old;
    answers = inl (inr (tt, inl ((none, refl), refl)));
    other = not_installed_is_other;
  }

  unanswered : (current_of key old.store.apps ≡ None → ⊥) → (target : Target)
      → provider_of key old.store.apps ≡ Some target → IsAnswered now [] old (Check key)
  unanswered installed target is = record {
    reply = says.AllLinks target [];
    new = record old { store = unheard_store key old.store };
    answers = inl (inr (tt, inr (installed, inl ((target, [], (is, refl), refl), refl))));
    other = all_links_is_other target [];
  }

  by_current : (number : Option ℕ) → current_of key old.store.apps ≡ number → Ordered old.store
      → IsAnswered now [] old (Check key)
  by_current None is was = not_installed is
  by_current (Some number) is was =
      let app = current_by key old.store.apps number is in
      let own = all_in (IsApp old.store.views) old.store.apps app.0 was.apps
      (entry_in key old.store.apps app.0 app.1).0 in
      let provider = value_of app.0.provider (own.provided (some_there app.0.current number app.2)) in
      unanswered (λ none. none-some number (sym none ∙ is)) provider.0
      (ap (λ (e : Option AppState). option_and_then (λ (a : AppState). a.provider) e) app.1
      ∙ provider.1)

-- ---- the row

heard_nothing : (now : ℕ) (heard : List (List ℕ)) (key : Key) (old : Session) → Ordered old.store
    → heard ≡ [] → IsAnswered now heard old (Check key)
heard_nothing now heard key old was none =
    subst (λ (texts : List (List ℕ)). IsAnswered now texts old (Check key)) (sym none)
    (by_current now key old (current_of key old.store.apps) refl was)

pub check_facts : (now : ℕ) (heard : List (List ℕ)) (key : Key) → RowFacts now heard (Check key)
check_facts now heard key = record {
  refused = refused now heard key;
  set_none = λ shape. check_none key heard shape;
  acts = check_acts now heard key;
  valid = λ old reply new is few passes done valid.
      left_valid now heard key old reply new is few passes done valid;
  sound = λ old reply new is few passes done sound.
      same_views_sound old.store new.store (ap (λ (s : Session). s.store.views) done.is)
      (left_valid now heard key old reply new is few passes done sound.valid) sound;
  views = λ old reply new at with_texts none valid passes done. inl
      (ap (λ (s : Session). s.store.views) done.is);
  answered = λ old valid none. heard_nothing now heard key old valid.ordered none;
}
