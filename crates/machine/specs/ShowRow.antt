-- show KEY: what is known of the application.
use Rattle.std.specs.Prelude.{◌≡◌, List, [], ◌∷◌, Some, None, option_map}
use Rattle.identity.specs.declared.key.Key.{Key}
use Rattle.machine.specs.declared.app.AppState.{AppState}
use Rattle.machine.specs.declared.reply.Reply.{Reply}
use Rattle.machine.specs.declared.reply.Reply.TheVariants as says
use Rattle.machine.specs.declared.rows.ShowRow.{ShowRow}
use Rattle.machine.specs.Entries.{entry_of}
use Rattle.machine.specs.Previous.{numbered_bare, numbered_version}
use Rattle.machine.specs.Rows.{Refusal, exactly}
use Rattle.machine.specs.Shape.{Shape, shape_of}
use Rattle.machine.specs.Store.{Session}

-- refused where the key has no entry, and not where it has one without a current view
abbrev pub show_refusals : Key → Shape → List (Refusal Reply Session)
show_refusals key shape = exactly (entry_of key shape.apps ≡ None) says.NotInstalled ∷ []

-- versions stand for views; the entry is that of the current view's application
abbrev pub show_row : Shape → AppState → ShowRow
show_row shape app = record {
  key = app.key;
  current = numbered_version app.current shape;
  previous = numbered_version app.previous shape;
  minimum = app.minimum;
  offer = app.offer;
  skipped = app.skipped;
  excluded = app.excluded;
  last_check = app.last_check;
  checked = app.checked;
  entry = option_map (λ view. view.application.entry) (numbered_bare app.current shape);
  provider = app.provider;
}

-- the reply shows the entry of the key, and nothing changes
pub record ShowEffect (key : Key) (old : Session) (reply : Reply) (new : Session) : Type 0 where
  pub app : AppState
  pub known : entry_of key old.store.apps ≡ Some app
  pub replied : reply ≡ says.Shown (show_row (shape_of old) app)
  pub is : new ≡ old
