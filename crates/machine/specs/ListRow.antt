-- list: each application and its current version.
use Rattle.std.specs.Prelude.{◌≡◌, List, [], map}
use Rattle.machine.specs.declared.app.AppState.{AppState}
use Rattle.machine.specs.declared.reply.Reply.{Reply}
use Rattle.machine.specs.declared.reply.Reply.TheVariants as says
use Rattle.machine.specs.declared.rows.ListRow.{ListRow}
use Rattle.machine.specs.Previous.{numbered_version}
use Rattle.machine.specs.Rows.{Refusal}
use Rattle.machine.specs.Shape.{Shape, shape_of}
use Rattle.machine.specs.Store.{Session}

-- it is never refused
abbrev pub list_refusals : List (Refusal Reply Session)
list_refusals = []

-- a version stands for the current view
abbrev pub list_row : Shape → AppState → ListRow
list_row shape app = record {
  key = app.key;
  current = numbered_version app.current shape;
}

-- the reply shows a row for each application, in order of their printed keys, and nothing changes
abbrev pub list_effect : Session → Reply → Session → Type 0
list_effect old reply new =
    (reply ≡ says.Listed (map (list_row (shape_of old)) old.store.apps)) × (new ≡ old)
