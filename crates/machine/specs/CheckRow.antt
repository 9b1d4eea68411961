-- check KEY: what the application's provider offers.
use Rattle.std.specs.Prelude.{◌≡◌, ◌≢◌, ℕ, true, List, [], ◌∷◌, slice_get, Option, Some, None, IsSome, option_and_then}
use Rattle.small_types.specs.declared.target.Target.{Target}
use Rattle.identity.specs.declared.key.Key.{Key}
use Rattle.identity.specs.declared.version.Version.{Version}
use Rattle.manifests.specs.declared.facts.Deployment.{Deployment}
use Rattle.manifests.specs.Deployments.{deployment_of}
use Rattle.machine.specs.declared.app.AppState.{AppState}
use Rattle.machine.specs.declared.reply.Reply.{Reply}
use Rattle.machine.specs.declared.reply.Reply.TheVariants as says
use Rattle.machine.specs.Current.{current_of, current_version}
use Rattle.machine.specs.Entries.{entry_of, with_entry}
use Rattle.machine.specs.Installed.{above, raised_by}
use Rattle.machine.specs.InstallRow.{IsRefused, OfDeployment}
use Rattle.machine.specs.Minimums.{minimum_of}
use Rattle.machine.specs.Rows.{Refusal, exactly, exactly_with, leaving}
use Rattle.machine.specs.Shape.{Shape, shape_of}
use Rattle.machine.specs.Store.{Session, Store}
use Rattle.machine.specs.Unheard.{unheard}

-- the address that is asked, where there is one
abbrev pub provider_of : Key → List AppState → Option Target
provider_of key apps = option_and_then (λ app. app.provider) (entry_of key apps)

-- ---- where no link gave the manifest

-- the check counts as made, for one start alone
abbrev pub unheard_app : AppState → AppState
unheard_app app = record app { checked = true }

abbrev pub unheard_store : Key → Store → Store
unheard_store key old = record old { apps = with_entry key unheard_app old.apps }

-- ---- refusals

-- the key of the manifest that was heard is another one
abbrev pub HeardOther : Key → List (List ℕ) → Key → Type 0
HeardOther key heard found = OfDeployment heard (λ d. d.identity.key ≡ found) × (found ≢ key)

-- No link gave the manifest, and the check counts as made all the same; else the manifest cannot be
-- read, or is that of another application.
abbrev pub offer_refusals : Key → List (List ℕ) → Shape → List (Refusal Reply Session)
offer_refusals key heard shape =
    leaving
    (unheard (λ target. (provider_of key shape.apps ≡ Some target) × (slice_get heard 0 ≡ None)))
    (λ old. record old { store = unheard_store key old.store })
    ∷ exactly_with (IsRefused deployment_of 0 heard) (λ fault. says.Manifest fault)
    ∷ exactly_with (HeardOther key heard) (λ found. says.IdentityDiffers found)
    ∷ []

abbrev pub check_refusals : Key → List (List ℕ) → Shape → List (Refusal Reply Session)
check_refusals key heard shape =
    exactly (current_of key shape.apps ≡ None) says.NotInstalled ∷ offer_refusals key heard shape

-- ---- the effect

-- The application once its provider was heard: a version above the current one is offered, and none
-- else is.
abbrev pub heard_app : Version → Version → Option Version → ℕ → AppState → AppState
heard_app have version minimum now app = record app {
  minimum = raised_by minimum app.minimum;
  offer = above have (Some version);
  last_check = Some now;
  checked = true;
}

abbrev pub checked : Key → Version → Deployment → ℕ → Store → Store
checked key have d now old = record old {
  apps = with_entry key (heard_app have d.identity.version d.minimum now) old.apps;
}

-- the reply shows the offer, and the minimum that then holds
pub record CheckEffect (key : Key) (heard : List (List ℕ)) (now : ℕ) (old : Session)
    (reply : Reply) (new : Session) : Type 0 where
  pub deployment : Deployment
  pub told : OfDeployment heard (λ d. d ≡ deployment)
  pub have : Version
  pub current : current_version key (shape_of old) ≡ Some have
  pub replied : reply
      ≡ says.Checked (above have (Some deployment.identity.version)) (minimum_of key new.store.apps)
  pub is : new ≡ record old { store = checked key have deployment now old.store }

-- ---- what it hears

-- nothing, or the deployment manifest where a view is current
abbrev pub HearsOffer : Key → Shape → List (List ℕ) → Type 0
HearsOffer key shape [] = Unit {0}
HearsOffer key shape (deployment ∷ []) = IsSome (current_of key shape.apps)
HearsOffer key shape (deployment ∷ other ∷ others) = ⊥
