-- What checks and skipped offers leave to be due.
use Rattle.std.proofs.Common.{◌≡◌, ◌≢◌, ◌∙◌, ◌⊎◌, ◌&&◌, ◌||◌, inl, inr, refl, sym, ap, subst, ℕ, Bool, true, false, cond, not, List, Option, Some, None, arith}
use Rattle.std.specs.Prelude.{option_and_then, option_map}
use Rattle.std.specs.Ordering.{is_lt}
use Rattle.std.specs.declared.cmp.Ordering.TheVariants.{Equal}
use Rattle.std.proofs.lemmas.Option.{none-some, same_Some}
use Rattle.small_types.specs.declared.target.Target.{Target}
use Rattle.causes.specs.declared.cause.Cause.{Cause}
use Rattle.identity.specs.declared.key.Key.{Key}
use Rattle.identity.specs.declared.version.Version.{Version}
use Rattle.identity.specs.Version.{version_cmp}
use Rattle.manifest_parts.specs.declared.fault.ManifestFault.{ManifestFault}
use Rattle.manifests.specs.declared.facts.Deployment.{Deployment}
use Rattle.manifests.specs.declared.facts.Rule.{Rule}
use Rattle.manifests.specs.Deployments.{deployment_of}
use Rattle.machine.specs.declared.app.AppState.{AppState}
use Rattle.machine.specs.declared.command.Command.TheVariants.{Check, Skip}
use Rattle.machine.specs.declared.due.Due.{Due}
use Rattle.machine.specs.declared.due.Due.TheVariants.{Required, CheckFirst, Offered, Clear}
use Rattle.machine.specs.declared.reply.Reply.{Reply}
use Rattle.machine.specs.declared.reply.Reply.TheVariants as says
use Rattle.machine.specs.CheckLaws.{IsMade, ShowsHeld}
use Rattle.machine.specs.CheckRow.{CheckEffect, check_refusals, checked, heard_app, unheard_app, unheard_store}
use Rattle.machine.specs.Current.{current_bare}
use Rattle.machine.specs.Due.{check_due, checks_first, due, due_of, first_due, is_equal, is_version, offered_to, required_by, unless_declined}
use Rattle.machine.specs.Entries.{entry_of, entry_or_fresh}
use Rattle.machine.specs.Installed.{above}
use Rattle.machine.specs.Laws.{IsAllLinks}
use Rattle.machine.specs.Machine.{Answers}
use Rattle.machine.specs.Minimums.{minimum_of}
use Rattle.machine.specs.Shape.{BareView, Shape, shape_of}
use Rattle.machine.specs.SkipRow.{SkipEffect, skip_refusals, skipped, skipped_app}
use Rattle.machine.specs.Store.{Session, Store, session_over}
use Rattle.machine.proofs.CheckFacts.{check_refused, heard_keys, unheard_keys}
use Rattle.machine.proofs.FirstRefusal.{AllGive, given_reply}
use Rattle.machine.proofs.EntryOrder.{entry_of-with_entry}
use Rattle.machine.proofs.InstallExact.{text_one}
use Rattle.machine.proofs.SkipFacts.{skips_keys}

-- ---- replies

abbrev IsUnchecked : Reply → Type 0
IsUnchecked reply = (offer minimum : Option Version) → ¬ (reply ≡ says.Checked offer minimum)

module _ (offer minimum : Option Version) where
  memory_apart : says.Memory ≡ says.Checked offer minimum → ⊥
  memory_apart e = cc

  not_installed_apart : says.NotInstalled ≡ says.Checked offer minimum → ⊥
  not_installed_apart e = cc

  links_apart : (target : Target) (causes : List Cause)
      → says.AllLinks target causes ≡ says.Checked offer minimum → ⊥
  links_apart target causes e = cc

  manifest_apart : (fault : ManifestFault) → says.Manifest fault ≡ says.Checked offer minimum → ⊥
  manifest_apart fault e = cc

  identity_apart : (found : Key) → says.IdentityDiffers found ≡ says.Checked offer minimum → ⊥
  identity_apart found e = cc

  module _ (other least : Option Version) where
    one_offer : says.Checked offer minimum ≡ says.Checked other least → offer ≡ other
    one_offer e = cc

    one_minimum : says.Checked offer minimum ≡ says.Checked other least → minimum ≡ least
    one_minimum e = cc

memory_links : IsAllLinks says.Memory → ⊥
memory_links is = absurd (apart is.0 is.1 is.2)
  where
    apart : (target : Target) (causes : List Cause) → says.Memory ≡ says.AllLinks target causes → ⊥
    apart target causes e = cc

none_checked : (key : Key) (heard : List (List ℕ)) (shape : Shape)
    → AllGive IsUnchecked (check_refusals key heard shape)
none_checked key heard shape = (
  (λ r given o m e. not_installed_apart o m (sym given.1 ∙ e)),
  (
    (λ r given o m e. links_apart o m _ _ (sym given.3 ∙ e)),
    (
      (λ r given o m e. manifest_apart o m _ (sym given.2 ∙ e)),
      ((λ r given o m e. identity_apart o m _ (sym given.2 ∙ e)), tt),
    ),
  ),
)

check_done : (now : ℕ) (heard : List (List ℕ)) (old : Session) (key : Key)
    (offer minimum : Option Version) (new : Session)
    → Answers now heard old (Check key) (says.Checked offer minimum) new
    → CheckEffect key heard now old (says.Checked offer minimum) new
check_done now heard old key offer minimum new (inl (inl memory)) =
    absurd (memory_apart offer minimum (sym memory.0))
check_done now heard old key offer minimum new (inl (inr refused)) =
    absurd (given_reply IsUnchecked (check_refusals key heard (shape_of old)) old
    (says.Checked offer minimum) new (none_checked key heard (shape_of old)) refused.1 offer
    minimum refl)
check_done now heard old key offer minimum new (inr done) = done.1

-- ---- what a check shows

checked_entry : (now : ℕ) (heard : List (List ℕ)) (old : Session) (key : Key) (reply : Reply)
    (new : Session) (done : CheckEffect key heard now old reply new)
    → entry_of key new.store.apps ≡ Some (heard_app done.have done.deployment.identity.version
    done.deployment.minimum now (entry_or_fresh key old.store.apps))
checked_entry now heard old key reply new done =
    let d = done.deployment in
    ap (λ (s : Session). entry_of key s.store.apps) done.is
    ∙ entry_of-with_entry key (heard_app done.have d.identity.version d.minimum now)
    (heard_keys key done.have d.identity.version d.minimum now) old.store.apps

pub shows_held : (now : ℕ) (heard : List (List ℕ)) (old : Session) (key : Key)
    (offer minimum : Option Version) (new : Session)
    → Answers now heard old (Check key) (says.Checked offer minimum) new
    → ShowsHeld key offer minimum new.store
shows_held now heard old key offer minimum new answers =
    let done = check_done now heard old key offer minimum new answers in
    let shown = above done.have (Some done.deployment.identity.version) in
    record {
      offered =
          ap (λ (e : Option AppState). option_and_then (λ (app : AppState). app.offer) e)
          (checked_entry now heard old key (says.Checked offer minimum) new done)
          ∙ sym (one_offer offer minimum shown (minimum_of key new.store.apps) done.replied);
      required = sym (one_minimum offer minimum shown (minimum_of key new.store.apps) done.replied);
    }

-- ---- one effect

pub one_effect : (key : Key) (heard : List (List ℕ)) (now : ℕ) (old : Session) (a b : Reply)
    (x y : Session) → CheckEffect key heard now old a x → CheckEffect key heard now old b y
    → (a ≡ b) × (x ≡ y)
one_effect key heard now old a b x y first second = (one_reply, one_new)
  where
    one_told : first.deployment ≡ second.deployment
    one_told =
        sym first.told.4 ∙ text_one deployment_of 0 heard first.told second.told ∙ second.told.4

    one_have : first.have ≡ second.have
    one_have = same_Some first.have second.have (sym first.current ∙ second.current)

    one_new : x ≡ y
    one_new =
        first.is
        ∙ ap (λ (v : Version). record old { store = checked key v first.deployment now old.store })
        one_have
        ∙ ap (λ (d : Deployment). record old { store = checked key second.have d now old.store })
        one_told
        ∙ sym second.is

    one_reply : a ≡ b
    one_reply =
        first.replied
        ∙ ap (λ (v : Version). says.Checked (above v (Some first.deployment.identity.version))
        (minimum_of key x.store.apps)) one_have
        ∙ ap (λ (d : Deployment). says.Checked (above second.have (Some d.identity.version))
        (minimum_of key x.store.apps)) one_told
        ∙ ap (λ (s : Session). says.Checked
        (above second.have (Some second.deployment.identity.version))
        (minimum_of key s.store.apps)) one_new
        ∙ sym second.replied

-- ---- what is due

-- no check stands before a start of a checked application
first_apart : (required offer : Option Version) (first time : Bool) → first ≡ false
    → first_due required first offer time ≢ CheckFirst
first_apart (Some minimum) offer first time none e = apart minimum e
  where
    apart : (m : Version) → Required m ≡ CheckFirst → ⊥
    apart m e = cc
first_apart None offer true time none e = absurd (let f = none in cc)
first_apart None (Some version) false time none e = apart version e
  where
    apart : (v : Version) → Offered v ≡ CheckFirst → ⊥
    apart v e = cc
first_apart None None false time none e = apart time e
  where
    apart : (t : Bool) → Clear t ≡ CheckFirst → ⊥
    apart t e = cc

no_more : (b : Bool) → (b && false) ≡ false
no_more true = refl
no_more false = refl

due_apart : (version : Version) (rule : Rule) (app : AppState) (at : ℕ) → app.checked ≡ true
    → due_of version rule app at ≢ CheckFirst
due_apart version rule app at checked =
    first_apart (required_by version app) (offered_to version app)
    (checks_first rule && not app.checked) (check_due rule app.last_check at)
    (ap (λ (b : Bool). checks_first rule && not b) checked ∙ no_more (checks_first rule))

-- what is due of an entry, where a view is current
abbrev pub due_by : Option BareView → ℕ → AppState → Option Due
due_by view at app =
    option_map (λ (v : BareView). due_of v.deployment.identity.version v.deployment.rule app at) view

none_due : (view : Option BareView) (at : ℕ) (app : AppState) → app.checked ≡ true
    → due_by view at app ≢ Some CheckFirst
none_due None at app checked e = none-some CheckFirst e
none_due (Some view) at app checked e =
    due_apart view.deployment.identity.version view.deployment.rule app at checked
    (same_Some (due_of view.deployment.identity.version view.deployment.rule app at) CheckFirst e)

entry_due : (key : Key) (store : Store) (at : ℕ) (app : AppState)
    → entry_of key store.apps ≡ Some app → app.checked ≡ true
    → due key (shape_of (session_over store)) at ≢ Some CheckFirst
entry_due key store at app is checked e =
    none_due (current_bare key (shape_of (session_over store))) at app checked
    (sym (ap (λ (o : Option AppState). option_and_then
    (due_by (current_bare key (shape_of (session_over store))) at) o) is) ∙ e)

unheard_due : (key : Key) (old : Store) (at : ℕ)
    → due key (shape_of (session_over (unheard_store key old))) at ≢ Some CheckFirst
unheard_due key old at =
    entry_due key (unheard_store key old) at (unheard_app (entry_or_fresh key old.apps))
    (entry_of-with_entry key unheard_app unheard_keys old.apps) refl

pub made_counts : (now : ℕ) (heard : List (List ℕ)) (old : Session) (key : Key) (reply : Reply)
    (new : Session) (at : ℕ) → Answers now heard old (Check key) reply new → IsMade reply
    → due key (shape_of new) at ≢ Some CheckFirst
made_counts now heard old key reply new at (inl (inl memory)) (inl made) =
    absurd (memory_apart made.0 made.1 (sym memory.0 ∙ made.2))
made_counts now heard old key reply new at (inl (inl memory)) (inr links) =
    absurd (memory_links (subst IsAllLinks memory.0 links))
made_counts now heard old key reply new at (inl (inr refused)) (inl made) =
    absurd (given_reply IsUnchecked (check_refusals key heard (shape_of old)) old reply new
    (none_checked key heard (shape_of old)) refused.1 made.0 made.1 made.2)
made_counts now heard old key reply new at (inl (inr refused)) (inr links) =
    by (check_refused key heard old reply new refused.1)
  where
    by : ((IsAllLinks reply → ⊥) × (new ≡ old))
        ⊎ (IsAllLinks reply × (new ≡ record old { store = unheard_store key old.store }))
        → due key (shape_of new) at ≢ Some CheckFirst
    by (inl other) = absurd (other.0 links)
    by (inr left) =
        subst (λ (s : Session). due key (shape_of s) at ≢ Some CheckFirst) (sym left.1)
        (unheard_due key old.store at)
made_counts now heard old key reply new at (inr done) made =
    entry_due key new.store at _ (checked_entry now heard old key reply new done.1) refl

-- ---- a skipped offer

abbrev IsNoSkip : Reply → Type 0
IsNoSkip reply = (version : Version) → ¬ (reply ≡ says.Skipped version)

module _ (version : Version) where
  memory_unskipped : says.Memory ≡ says.Skipped version → ⊥
  memory_unskipped e = cc

  not_installed_unskipped : says.NotInstalled ≡ says.Skipped version → ⊥
  not_installed_unskipped e = cc

  required_unskipped : (minimum : Version) → says.Required minimum ≡ says.Skipped version → ⊥
  required_unskipped minimum e = cc

  nothing_unskipped : says.NothingOffered ≡ says.Skipped version → ⊥
  nothing_unskipped e = cc

none_skipped : (key : Key) (now : ℕ) (shape : Shape)
    → AllGive IsNoSkip (skip_refusals key now shape)
none_skipped key now shape = (
  (λ r given v e. not_installed_unskipped v (sym given.1 ∙ e)),
  (
    (λ r given v e. required_unskipped v _ (sym given.2 ∙ e)),
    ((λ r given v e. nothing_unskipped v (sym given.1 ∙ e)), tt),
  ),
)

skip_done : (now : ℕ) (heard : List (List ℕ)) (old : Session) (key : Key) (version : Version)
    (new : Session) → Answers now heard old (Skip key) (says.Skipped version) new
    → SkipEffect key old (says.Skipped version) new
skip_done now heard old key version new (inl (inl memory)) =
    absurd (memory_unskipped version (sym memory.0))
skip_done now heard old key version new (inl (inr refused)) =
    absurd (given_reply IsNoSkip (skip_refusals key now (shape_of old)) old
    (says.Skipped version) new (none_skipped key now (shape_of old)) refused.1 version refl)
skip_done now heard old key version new (inr done) = done.1

one_version : (version : Version) → version_cmp version version ≡ Equal
one_version version = grind arith

pub is_itself : (version : Version) → is_version version (Some version) ≡ true
is_itself version = ap is_equal (one_version version)

-- what is skipped is declined
declined : (app : AppState) → app.skipped ≡ app.offer → (offer : Option Version)
    → app.offer ≡ offer → (b : Bool)
    → unless_declined app (cond b offer None) ≡ None
declined app skips None is true = refl
declined app skips None is false = refl
declined app skips (Some offer) is false = refl
declined app skips (Some offer) is true =
    ap (λ (s : Option Version). cond (is_version offer s || is_version offer app.excluded) None
    (Some offer)) (skips ∙ is)
    ∙ ap (λ (b : Bool). cond (b || is_version offer app.excluded) None (Some offer))
    (is_itself offer)

none_offered : (version : Version) (app : AppState) → app.skipped ≡ app.offer
    → offered_to version app ≡ None
none_offered version app skips = by app.offer refl
  where
    by : (offer : Option Version) → app.offer ≡ offer
        → unless_declined app (above version app.offer) ≡ None
    by None is = ap (λ (o : Option Version). unless_declined app (above version o)) is
    by (Some offer) is =
        ap (λ (o : Option Version). unless_declined app (above version o)) is
        ∙ declined app skips (Some offer) is (is_lt (version_cmp version offer))

offer_apart : (required offer : Option Version) (first time : Bool) (other : Version)
    → offer ≡ None → first_due required first offer time ≢ Offered other
offer_apart (Some minimum) offer first time other none e = apart minimum other e
  where
    apart : (m v : Version) → Required m ≡ Offered v → ⊥
    apart m v e = cc
offer_apart None offer true time other none e = apart other e
  where
    apart : (v : Version) → CheckFirst ≡ Offered v → ⊥
    apart v e = cc
offer_apart None (Some version) false time other none e = absurd (none-some version (sym none))
offer_apart None None false time other none e = apart time other e
  where
    apart : (t : Bool) (v : Version) → Clear t ≡ Offered v → ⊥
    apart t v e = cc

no_offer : (view : Option BareView) (at : ℕ) (app : AppState) (other : Version)
    → app.skipped ≡ app.offer → due_by view at app ≢ Some (Offered other)
no_offer None at app other skips e = none-some (Offered other) e
no_offer (Some view) at app other skips e =
    let version = view.deployment.identity.version in
    offer_apart (required_by version app) (offered_to version app) _ _ other
    (none_offered version app skips)
    (same_Some (due_of version view.deployment.rule app at) (Offered other) e)

pub skipped_not_due : (now : ℕ) (heard : List (List ℕ)) (old : Session) (key : Key)
    (version : Version) (new : Session) (at : ℕ) (other : Version)
    → Answers now heard old (Skip key) (says.Skipped version) new
    → due key (shape_of new) at ≢ Some (Offered other)
skipped_not_due now heard old key version new at other answers =
    let done = skip_done now heard old key version new answers in
    subst (λ (s : Session). due key (shape_of s) at ≢ Some (Offered other)) (sym done.is)
    (λ e. no_offer (current_bare key (shape_of (session_over (skipped key old.store)))) at
    (skipped_app (entry_or_fresh key old.store.apps)) other refl
    (sym (ap (λ (o : Option AppState). option_and_then
    (due_by (current_bare key (shape_of (session_over (skipped key old.store)))) at) o)
    (entry_of-with_entry key skipped_app skips_keys old.store.apps)) ∙ e))
