-- Applications, where the kept views are others.
use Rattle.std.proofs.Common.{ℕ, List, Option, Some, None}
use Rattle.std.specs.Prelude.{IfSome}
use Rattle.identity.specs.declared.key.Key.{Key}
use Rattle.machine.specs.declared.app.AppState.{AppState}
use Rattle.machine.specs.Valid.{IsApp, IsViewOf}
use Rattle.machine.specs.Views.{View}

-- one whose views are kept
pub over_views : (views later : List View) (app : AppState)
    → IfSome app.current (IsViewOf later app.key) → IfSome app.previous (IsViewOf later app.key)
    → IsApp views app → IsApp later app
over_views views later app current previous is = record {
  key = is.key;
  provider = is.provider;
  current = current;
  previous = previous;
  minimum = is.minimum;
  offer = is.offer;
  skipped = is.skipped;
  excluded = is.excluded;
  last_check = is.last_check;
  beside = is.beside;
  other = is.other;
  provided = is.provided;
}

-- each, where each view is kept
module _ (views later : List View)
    (stays : (key : Key) (number : ℕ) → IsViewOf views key number → IsViewOf later key number) where
  pub still : (key : Key) (number : Option ℕ) → IfSome number (IsViewOf views key)
      → IfSome number (IsViewOf later key)
  still key None is = tt
  still key (Some number) is = stays key number is

  pub same_app : (app : AppState) → IsApp views app → IsApp later app
  same_app app is =
      over_views views later app (still app.key app.current is.current)
      (still app.key app.previous is.previous) is
