use Rattle.std.proofs.Common.{◌∙◌, sym}
use Rattle.store_state.proofs.CheckedApps.{current_entry, heard_at, version_read}
use Rattle.store_state.proofs.state.StoreState.hear.Goals as goal

pub note_key-requires : goal.note_key-requires
note_key-requires c = current_entry c.args.key.now c.args.self.now c.requires

-- the version that is read is the current one
pub returns : goal.returns
returns c =
    let view = c.in-Some.view.now in
    c.note_key.ensures
    ∙ heard_at c.args.key.now c.args.self.now view.deployment.identity.version c.args.version
    c.args.minimum c.args.now
    (version_read c.args.key.now c.args.self.now view (sym c.in-Some.ensures.row))
