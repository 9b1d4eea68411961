use Rattle.std.proofs.Common.{◌∙◌, ap, refl, sym, subst, Contains}
use Rattle.small_types.specs.Blocks.{blocks_start}
use Rattle.small_types.specs.declared.room.Room.{Room}
use Rattle.file_store.specs.Stores.{store_base}
use Rattle.machine.proofs.Members.{in_contains}
use Rattle.store_state.specs.Stored.{content_bytes}
use Rattle.updater.specs.Shown.{Updater}
use Rattle.updater.proofs.FileBytes.{content_held, content_stands, content_whole}
use Rattle.updater.proofs.updater.Updater.has_content.Goals as goal

pub has_bytes-requires : goal.has_bytes-requires
has_bytes-requires g c =
    content_held c.self.inside.state c.args.content.now c.self.invariant.0.measured
    (in_contains c.self.inside.state.contents c.args.content.now
    (subst (λ (u : Updater). Contains u.state.contents c.args.content.now) (sym c.self.view_is) c.requires))

pub returns-clause-same : goal.returns-clause-same
returns-clause-same g c = λ told session holds.
    let seen = g.D.Disk.seen c.args.disk.now in
    let room = session.store.room in
    let shows = holds.shows seen (g.met.D.Disk.seen_left c.args.disk.now) in
    let there = in_contains c.args.self.now.state.contents c.args.content.now c.requires in
    let front = c.self.invariant.2.base
    ∙ ap (λ (r : Room). blocks_start r.half) (ap (λ (u : Updater). u.room) c.self.view_is ∙ holds.room) in
    c.has_bytes.ensures.same told (content_bytes room seen c.args.content.now)
    (content_whole room c.args.self.now.state seen session.store shows c.args.content.now there)
    (content_stands room c.args.self.now.state seen session.store shows (store_base c.self.inside.files) seen front refl
    c.args.content.now there)
