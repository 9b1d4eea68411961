use Rattle.std.proofs.Common.{◌∙◌, List, ap}
use Rattle.machine.specs.declared.app.AppState.{AppState}
use Rattle.store_state.specs.Notes.{noted}
use Rattle.store_state.proofs.CheckedApps.{place_is}
use Rattle.store_state.proofs.state.StoreState.note_key.Goals as goal

-- the place is that of the key
pub returns : goal.returns
returns c =
    c.note.ensures
    ∙ ap (λ (apps : List AppState). record c.args.self.now { apps = apps })
    (place_is c.args.key.now (noted c.args.note) c.args.self.now.apps c.in-Some.place
    c.are_tables.ensures.order c.in-Some.ensures.found.0 c.in-Some.ensures.found.1)
