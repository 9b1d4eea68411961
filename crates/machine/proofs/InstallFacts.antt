-- The row of `install`.
use Rattle.std.proofs.Common.{◌≡◌, ◌≢◌, ◌∙◌, ◌++◌, ◌≤◌, inr, refl, sym, ap, subst, ℕ, List, [], ◌∷◌, Some}
use Rattle.small_types.specs.declared.limits.TheConstants.{NUMBER_LIMIT}
use Rattle.addresses.specs.Address.{target_of_text}
use Rattle.identity.specs.declared.key.Key.{Key}
use Rattle.identity.specs.declared.version.Version.{Version}
use Rattle.manifests.specs.declared.facts.Deployment.{Deployment}
use Rattle.machine.specs.declared.command.Command.TheVariants.{Install}
use Rattle.machine.specs.declared.reply.Reply.{Reply}
use Rattle.machine.specs.declared.reply.Reply.TheVariants as says
use Rattle.machine.specs.Installed.{new_view, with_view}
use Rattle.machine.specs.InstallLaws.{IsInstall}
use Rattle.machine.specs.InstallRow.{InstallEffect, address_refusals, deployment_refusals, file_refusals, install_refusals, release_refusals}
use Rattle.machine.specs.Laws.{IsAnswered}
use Rattle.machine.specs.Machine.{moment_set}
use Rattle.machine.specs.Minimums.{minimum_of}
use Rattle.machine.specs.Rows.{ChangeNothing, PassesAll, Refusal}
use Rattle.machine.specs.Shape.{Shape, shape_of}
use Rattle.machine.specs.Store.{Session, Store}
use Rattle.machine.specs.Views.{View}
use Rattle.machine.proofs.InstallApps.{effect_minimum}
use Rattle.machine.proofs.InstallSteps.{left_sound, left_valid}
use Rattle.machine.proofs.LeasesKept.{KeepsLeases, keeps_more}
use Rattle.machine.proofs.Moments.{install_none}
use Rattle.machine.proofs.RaisedMinimums.{Holds}
use Rattle.machine.proofs.RowFacts.{Acts, RowFacts, acts_on, kept_unchanged}
use Rattle.machine.proofs.Unheard.{unheard}

-- ---- its refusals leave nothing

pub unchanged_both : {R S : Type 0} (xs ys : List (Refusal R S)) → ChangeNothing xs → ChangeNothing ys
    → ChangeNothing (xs ++ ys)
unchanged_both [] ys first second = second
unchanged_both (x ∷ xs) ys first second = (first.0, unchanged_both xs ys first.1 second)

module _ (url : List ℕ) (heard : List (List ℕ))
    (shape : Shape) where
  same : (session : Session) → session ≡ session
  same session = refl

  address_unchanged : ChangeNothing (address_refusals url)
  address_unchanged = (same, (same, tt))

  deployment_unchanged : ChangeNothing (deployment_refusals url heard shape)
  deployment_unchanged =
      (same, (same, (same, (same, (same, (same, (same, (same, (same, tt)))))))))

  release_unchanged : ChangeNothing (release_refusals url heard shape)
  release_unchanged = (same, (same, (same, (same, (same, (same, (same, (same, tt))))))))

  file_unchanged : ChangeNothing (file_refusals url heard shape)
  file_unchanged = (same, tt)

  pub install_unchanged : ChangeNothing (install_refusals url heard shape)
  install_unchanged =
      unchanged_both
      (address_refusals url ++ deployment_refusals url heard shape
      ++ release_refusals url heard shape)
      (file_refusals url heard shape)
      (unchanged_both (address_refusals url ++ deployment_refusals url heard shape)
      (release_refusals url heard shape)
      (unchanged_both (address_refusals url) (deployment_refusals url heard shape)
      address_unchanged deployment_unchanged) release_unchanged) file_unchanged

-- ---- its effect, where it is refused nowhere

installed_is_other : (key : Key) (version : Version) (view : ℕ)
    → says.Installed key version view ≢ says.Memory
installed_is_other key version view e = cc

module _ (now : ℕ) (heard : List (List ℕ)) (url : List ℕ) (old : Session) (reply : Reply)
    (new : Session) where
  as_install : now ≤ NUMBER_LIMIT
      → PassesAll (install_refusals url heard (shape_of old))
      → InstallEffect url heard now old reply new
      → IsInstall url heard now old reply new
  as_install few passes done =
      record { moment = few; passes = passes; effect = done }

  -- it leaves the constants of a store, and what a session has beside it
  pub store_left : {X : Type 0} (part : Store → X)
      → ((provider base : _) (d : _) (a : _) (files : _) (data_files : _)
      → part (with_view provider base d a files data_files now old.store) ≡ part old.store)
      → InstallEffect url heard now old reply new → part new.store ≡ part old.store
  store_left part leaves done =
      ap (λ (s : Session). part s.store) done.is ∙ ap part done.installed.is
      ∙ leaves done.installed.provider done.base done.deployment done.application done.files
      done.installed.data_files

  module _ (done : InstallEffect url heard now old reply new) where
    abbrev d : Deployment
    d = done.deployment

    abbrev view : View
    view =
        new_view old.store.next_view done.base d done.application done.files
        done.installed.data_files

    abbrev left : Store
    left =
        with_view done.installed.provider done.base d done.application done.files
        done.installed.data_files now old.store

    install_keeps : KeepsLeases old.store done.store
    install_keeps =
        subst (λ (s : Store). KeepsLeases old.store s) (sym done.installed.is)
        (keeps_more old.store left (view ∷ []) refl refl refl)

    install_acts : Acts (Install url) old reply new
    install_acts =
        acts_on (Install url) old reply new done.store done.is
        (λ e. installed_is_other d.identity.key d.identity.version old.store.next_view
        (sym done.replied ∙ e))
        (ap (λ (r : Reply). moment_set (Some r)) done.replied)
        (ap (λ (s : Store). s.room) done.installed.is)
        (ap (λ (s : Store). s.boot) done.installed.is)
        (λ key minimum is. subst (λ (s : Session). Holds minimum (minimum_of key s.store.apps))
        done.is
        (effect_minimum done key minimum is))
        install_keeps

-- ---- the row

heard_nothing : (now : ℕ) (heard : List (List ℕ)) (url : List ℕ) (old : Session) → heard ≡ []
    → IsAnswered now heard old (Install url)
heard_nothing now heard url old none =
    subst (λ (texts : List (List ℕ)). IsAnswered now texts old (Install url)) (sym none)
    (unheard now old url (target_of_text url) refl)

pub install_facts : (now : ℕ) (heard : List (List ℕ)) (url : List ℕ)
    → RowFacts now heard (Install url)
install_facts now heard url = record {
  refused = λ old reply new given.
      kept_unchanged (Install url)
      (install_refusals url heard (shape_of old)) old reply new
      (install_unchanged url heard (shape_of old)) given;
  set_none = λ shape. install_none url heard shape;
  acts = λ old reply new done. install_acts now heard url old reply new done;
  valid = λ old reply new is few passes done valid.
      left_valid (as_install now heard url old reply new few passes done) valid;
  sound = λ old reply new is few passes done sound.
      left_sound (as_install now heard url old reply new few passes done) sound;
  views = λ old reply new at with_texts none valid passes done. inr (inr none);
  answered = λ old valid none. heard_nothing now heard url old none;
}
