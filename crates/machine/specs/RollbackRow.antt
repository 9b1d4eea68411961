-- rollback KEY: the application goes back to its previous view.
use Rattle.std.specs.Prelude.{◌≡◌, List, [], ◌∷◌, Some, None, IsSomeAnd}
use Rattle.identity.specs.declared.key.Key.{Key}
use Rattle.identity.specs.declared.version.Version.{Version}
use Rattle.identity.specs.Version.{IsBelow}
use Rattle.machine.specs.declared.app.AppState.{AppState}
use Rattle.machine.specs.declared.reply.Reply.{Reply}
use Rattle.machine.specs.declared.reply.Reply.TheVariants as says
use Rattle.machine.specs.Current.{current_of, current_version}
use Rattle.machine.specs.Entries.{with_entry}
use Rattle.machine.specs.Minimums.{minimum_of}
use Rattle.machine.specs.Previous.{previous_of, previous_version}
use Rattle.machine.specs.Rows.{Refusal, exactly, exactly_with}
use Rattle.machine.specs.Shape.{Shape, shape_of}
use Rattle.machine.specs.Store.{Session, Store}

-- there is a minimum, and the previous version, which would become current, is below it
abbrev pub IsPreviousBelow : Key → Shape → Version → Type 0
IsPreviousBelow key shape minimum =
    (minimum_of key shape.apps ≡ Some minimum)
    × IsSomeAnd (previous_version key shape) (λ version. IsBelow version minimum)

-- Refused where no view is current; where none is previous; and where the version of the previous
-- one is below the minimum.
abbrev pub rollback_refusals : Key → Shape → List (Refusal Reply Session)
rollback_refusals key shape =
    exactly (current_of key shape.apps ≡ None) says.NotInstalled
    ∷ exactly (previous_of key shape.apps ≡ None) says.NoPrevious
    ∷ exactly_with (IsPreviousBelow key shape) (λ minimum. says.BelowMinimum minimum)
    ∷ []

-- The application once its previous view is current. The version that was current is excluded, and
-- no view is previous.
abbrev pub rolled_back_app : Version → AppState → AppState
rolled_back_app have app = record app {
  current = app.previous;
  previous = None;
  excluded = Some have;
}

abbrev pub rolled_back : Key → Version → Store → Store
rolled_back key have old = record old { apps = with_entry key (rolled_back_app have) old.apps }

-- the reply shows the version that is current from then on
pub record RollbackEffect (key : Key) (old : Session) (reply : Reply) (new : Session) : Type 0 where
  pub have : Version
  pub current : current_version key (shape_of old) ≡ Some have
  pub version : Version
  pub previous : previous_version key (shape_of old) ≡ Some version
  pub replied : reply ≡ says.Current version
  pub is : new ≡ record old { store = rolled_back key have old.store }
