-- skip KEY: the version that is offered is not wanted.
use Rattle.std.specs.Prelude.{◌≡◌, ℕ, List, [], ◌∷◌, Option, Some, None, option_and_then}
use Rattle.identity.specs.declared.key.Key.{Key}
use Rattle.identity.specs.declared.version.Version.{Version}
use Rattle.machine.specs.declared.app.AppState.{AppState}
use Rattle.machine.specs.declared.due.Due.TheVariants as found
use Rattle.machine.specs.declared.reply.Reply.{Reply}
use Rattle.machine.specs.declared.reply.Reply.TheVariants as says
use Rattle.machine.specs.Current.{current_of}
use Rattle.machine.specs.Due.{due}
use Rattle.machine.specs.Entries.{entry_of, with_entry}
use Rattle.machine.specs.Rows.{Refusal, exactly, exactly_with}
use Rattle.machine.specs.Shape.{Shape}
use Rattle.machine.specs.Store.{Session, Store}

-- the version that is offered for the key, where there is one
abbrev pub offer_of : Key → List AppState → Option Version
offer_of key apps = option_and_then (λ app. app.offer) (entry_of key apps)

-- Refused where no view is current; where its version is below the minimum, so that the newer one
-- is needed; and where nothing is offered.
abbrev pub skip_refusals : Key → ℕ → Shape → List (Refusal Reply Session)
skip_refusals key now shape =
    exactly (current_of key shape.apps ≡ None) says.NotInstalled
    ∷ exactly_with (λ minimum. due key shape now
    ≡ Some (found.Required minimum)) (λ minimum. says.Required minimum)
    ∷ exactly (offer_of key shape.apps ≡ None) says.NothingOffered
    ∷ []

-- the application once its offer is skipped
abbrev pub skipped_app : AppState → AppState
skipped_app app = record app { skipped = app.offer }

abbrev pub skipped : Key → Store → Store
skipped key old = record old { apps = with_entry key skipped_app old.apps }

-- the reply shows the offer
pub record SkipEffect (key : Key) (old : Session) (reply : Reply) (new : Session) : Type 0 where
  pub offer : Version
  pub offered : offer_of key old.store.apps ≡ Some offer
  pub replied : reply ≡ says.Skipped offer
  pub is : new ≡ record old { store = skipped key old.store }
