use Rattle.std.proofs.Common.{◌∙◌}
use Rattle.store_state.proofs.RolledBack.{back_at, row_within, version_read_at}
use Rattle.store_state.proofs.state.StoreState.roll_back.Goals as goal

pub note-requires : goal.note-requires
note-requires c = row_within c.args.place c.args.self.now c.requires.installed

-- the version that is read is the current one
pub returns : goal.returns
returns c =
    c.note.ensures
    ∙ back_at c.args.place c.args.self.now c.in-Some.view.now.deployment.identity.version
    (version_read_at c.args.place c.args.self.now c.in-Some.view.now c.in-Some.ensures)
