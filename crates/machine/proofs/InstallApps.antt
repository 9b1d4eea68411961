-- The application of an install.
use Rattle.std.proofs.Common.{◌≡◌, ◌≢◌, ◌∙◌, ◌++◌, ◌<◌, refl, sym, ap, subst, ℕ, Bool, true, false, cond, List, [], ◌∷◌, map, All, Option, Some, None, arith}
use Rattle.std.specs.Prelude.{IfSome, IsSomeAnd, option_and_then, option_map, unwrap_or}
use Rattle.std.specs.Ordering.{is_lt}
use Rattle.std.specs.declared.cmp.Ordering.TheVariants.{Equal}
use Rattle.std.proofs.lemmas.Bool.{eq-eqb, ne_eqb}
use Rattle.std.proofs.lemmas.List.Elements.{All-head, All-tail}
use Rattle.small_types.specs.declared.target.Target.{Target}
use Rattle.identity.specs.declared.key.Key.{Key}
use Rattle.identity.specs.declared.version.Version.{Version}
use Rattle.identity.specs.Version.{IsBelow, version_cmp}
use Rattle.identity.proofs.VersionLemmas.{cmp_from_IsBelow}
use Rattle.manifests.specs.declared.facts.Deployment.{Deployment}
use Rattle.manifests.specs.Facts.{IsMinimum}
use Rattle.machine.specs.declared.reply.Reply.{Reply}
use Rattle.machine.specs.declared.app.AppState.{AppState}
use Rattle.machine.specs.Current.{current_of, current_version, view_at}
use Rattle.machine.specs.Entries.{entry_of, entry_or_fresh, fresh, key_cmp, with_entry}
use Rattle.machine.specs.Installed.{installed_app, new_view, raised_by, with_view}
use Rattle.machine.specs.InstallLaws.{IsCurrent, IsInstall}
use Rattle.machine.specs.InstallRow.{InstallEffect, IsBelowMinimum}
use Rattle.machine.specs.Minimums.{minimum_of}
use Rattle.machine.specs.Shape.{BareView, bare_view, shape_of}
use Rattle.machine.specs.Store.{Session, Store, session_over}
use Rattle.machine.specs.Valid.{Ordered}
use Rattle.machine.specs.Views.{View}
use Rattle.machine.proofs.BroughtFiles.{bare_current}
use Rattle.machine.proofs.EntryOrder.{entry_of-other, entry_of-with_entry}
use Rattle.machine.proofs.InstallSteps.{deployment_passes, held_deployment, of_deployment}
use Rattle.machine.proofs.RaisedMinimums.{Holds, minimum_raised, raised_minimum}

-- ---- a view behind others with smaller numbers

last_found : (views : List View) (view : View) → All (λ (n : ℕ). n < view.number) (map (λ (v : View). v.number) views) → view_at view.number (views ++ view ∷ []) ≡ Some view
last_found [] view below = ap (λ (b : Bool). cond b (Some view) None) (eq-eqb view.number view.number refl)
last_found (v ∷ views) view below =
    let less = All-head (λ (n : ℕ). n < view.number) v.number (map (λ (w : View). w.number) views) below in
    ap (λ (b : Bool). cond b (Some v) (view_at view.number (views ++ view ∷ []))) (ne_eqb v.number view.number (λ e. omega (arith, less, e)))
    ∙ last_found views view (All-tail (λ (n : ℕ). n < view.number) v.number (map (λ (w : View). w.number) views) below)

-- ---- minimums

not_below : (version minimum : Version) → IsMinimum version minimum → ¬ IsBelow version minimum
not_below version minimum is below = apart (sym (cmp_from_IsBelow version minimum below) ∙ is)
  where
    apart : true ≡ false → ⊥
    apart e = cc

greater_reached : (b : Bool) (version minimum heard : Version) → ¬ IsBelow version minimum → ¬ IsBelow version heard → ¬ IsBelow version (cond b heard minimum)
greater_reached true version minimum heard first second = second
greater_reached false version minimum heard first second = first

reached : (version : Version) (heard old : Option Version) → IfSome heard (IsMinimum version) → IfSome old (λ m. ¬ IsBelow version m) → IfSome (raised_by heard old) (λ m. ¬ IsBelow version m)
reached version None old first second = second
reached version (Some heard) None first second = not_below version heard first
reached version (Some heard) (Some minimum) first second = greater_reached (is_lt (version_cmp minimum heard)) version minimum heard second (not_below version heard first)

-- ---- the entry

module _ (number : ℕ) (d : Deployment) (provider : Target) (now : ℕ) where
  change : AppState → AppState
  change app = installed_app number d provider now app

  keeps : (app : AppState) → (change app).key ≡ app.key
  unfolding change
  keeps app = refl

  entry_is : (apps : List AppState) → entry_of d.identity.key (with_entry d.identity.key (installed_app number d provider now) apps) ≡ Some (installed_app number d provider now (entry_or_fresh d.identity.key apps))
  unfolding change
  entry_is apps = entry_of-with_entry d.identity.key change keeps apps

  others_stay : (apps : List AppState) (key : Key) → key_cmp d.identity.key key ≢ Equal → entry_of key (with_entry d.identity.key (installed_app number d provider now) apps) ≡ entry_of key apps
  unfolding change
  others_stay apps key apart = entry_of-other d.identity.key change keeps key apart apps

  minimum_is : (apps : List AppState) → minimum_of d.identity.key (with_entry d.identity.key (installed_app number d provider now) apps) ≡ raised_by d.minimum (minimum_of d.identity.key apps)
  unfolding change
  minimum_is apps = minimum_raised d.identity.key change keeps d.minimum (λ app. refl) apps

  minimum_holds : (apps : List AppState) (key : Key) (minimum : Version) → minimum_of key apps ≡ Some minimum → Holds minimum (minimum_of key (with_entry d.identity.key (installed_app number d provider now) apps))
  unfolding change
  minimum_holds apps = raised_minimum d.identity.key change keeps d.minimum (λ app. refl) apps

-- ---- an install

-- a minimum that held holds once it had its effect, or one that is not below it
pub effect_minimum : {url : List ℕ} {heard : List (List ℕ)} {now : ℕ} {old : Session} {reply : Reply} {new : Session} → InstallEffect url heard now old reply new → (key : Key) (minimum : Version) → minimum_of key old.store.apps ≡ Some minimum → IsSomeAnd (minimum_of key new.store.apps) (λ later. ¬ IsBelow later minimum)
effect_minimum {now = now} {old = old} done key minimum held =
    let d = done.deployment in
    subst (λ (s : Session). IsSomeAnd (minimum_of key s.store.apps) (λ later. ¬ IsBelow later minimum)) (sym done.is)
    (subst (λ (store : Store). IsSomeAnd (minimum_of key store.apps) (λ later. ¬ IsBelow later minimum)) (sym done.installed.is)
    (minimum_holds old.store.next_view d done.installed.provider now old.store.apps key minimum held))

current_or_fresh : (key : Key) (entry : Option AppState) → (unwrap_or entry (fresh key)).current ≡ option_and_then (λ (app : AppState). app.current) entry
current_or_fresh key None = refl
current_or_fresh key (Some app) = refl

module _ {url : List ℕ} {heard : List (List ℕ)} {now : ℕ} {old : Session} {reply : Reply} {new : Session} (is : IsInstall url heard now old reply new) where
  abbrev d : Deployment
  d = is.effect.deployment

  abbrev left : Store
  left = with_view is.effect.installed.provider is.effect.base d is.effect.application is.effect.files is.effect.installed.data_files now old.store

  left_is : new.store ≡ left
  left_is = ap (λ (s : Session). s.store) is.effect.is ∙ is.effect.installed.is

  entry_left : entry_of d.identity.key left.apps ≡ Some (installed_app old.store.next_view d is.effect.installed.provider now (entry_or_fresh d.identity.key old.store.apps))
  entry_left = entry_is old.store.next_view d is.effect.installed.provider now old.store.apps

  current_left : current_of d.identity.key left.apps ≡ Some old.store.next_view
  current_left = ap (λ (e : Option AppState). option_and_then (λ (app : AppState). app.current) e) entry_left

  version_left : Ordered old.store → current_version d.identity.key (shape_of (session_over left)) ≡ Some d.identity.version
  version_left was =
      let view = new_view old.store.next_view is.effect.base d is.effect.application is.effect.files is.effect.installed.data_files in
      ap (λ (o : Option BareView). option_map (λ (v : BareView). v.deployment.identity.version) o) (bare_current d.identity.key left)
      ∙ ap (λ (n : Option ℕ). option_map (λ (v : BareView). v.deployment.identity.version) (option_map bare_view (option_and_then (λ (k : ℕ). view_at k left.views) n))) current_left
      ∙ ap (λ (v : Option View). option_map (λ (w : BareView). w.deployment.identity.version) (option_map bare_view v)) (last_found old.store.views view was.view_numbers.below)

  current_is : Ordered old.store → IsCurrent d old.store.next_view old.store left
  current_is was = record {
    current = current_left;
    previous =
        ap (λ (e : Option AppState). option_and_then (λ (app : AppState). app.previous) e) entry_left
        ∙ current_or_fresh d.identity.key (entry_of d.identity.key old.store.apps);
    version = version_left was;
    others = others_stay old.store.next_view d is.effect.installed.provider now old.store.apps;
  }

  pub is_current : Ordered old.store → IsCurrent d old.store.next_view old.store new.store
  is_current was = subst (λ (store : Store). IsCurrent d old.store.next_view old.store store) (sym left_is) (current_is was)

  pub kept_minimum : (key : Key) (minimum : Version) → minimum_of key old.store.apps ≡ Some minimum → IsSomeAnd (minimum_of key new.store.apps) (λ later. ¬ IsBelow later minimum)
  kept_minimum key minimum held = effect_minimum is.effect key minimum held

  old_reached : (minimum : Option Version) → minimum_of d.identity.key old.store.apps ≡ minimum → IfSome minimum (λ m. ¬ IsBelow d.identity.version m)
  old_reached None e = tt
  old_reached (Some minimum) e = λ below. (deployment_passes is).1.1.1.0 minimum (of_deployment is {P = λ (x : Deployment). IsBelowMinimum (shape_of old) x minimum} (e, below))

  pub reached_minimum : IfSome (minimum_of d.identity.key new.store.apps) (λ minimum. ¬ IsBelow d.identity.version minimum)
  reached_minimum =
      subst (λ (store : Store). IfSome (minimum_of d.identity.key store.apps) (λ minimum. ¬ IsBelow d.identity.version minimum)) (sym left_is)
      (subst (λ (m : Option Version). IfSome m (λ minimum. ¬ IsBelow d.identity.version minimum)) (sym (minimum_is old.store.next_view d is.effect.installed.provider now old.store.apps))
      (reached d.identity.version d.minimum (minimum_of d.identity.key old.store.apps) (held_deployment is).facts.minimum (old_reached (minimum_of d.identity.key old.store.apps) refl)))
