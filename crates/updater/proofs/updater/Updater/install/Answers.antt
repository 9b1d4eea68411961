use Rattle.std.proofs.Common.{◌≡◌, ◌++◌, refl}
use Rattle.table_files.specs.Freed.{brought}
use Rattle.table_files.specs.Held.{held_by}
use Rattle.updater.proofs.Brings.{install_short}
use Rattle.updater.proofs.EncodedChanges.{encodes}
use Rattle.updater.proofs.FilesWritten.{passed_writing}
use Rattle.updater.proofs.InstallEnds.{install_failed, install_kept, install_refused}
use Rattle.updater.proofs.Seen.{begun_as, seen}
use Rattle.updater.proofs.SmallBlocks.{used_small}
use Rattle.updater.proofs.TakenBlocks.{uses_still, uses_taken}
use Rattle.updater.proofs.updater.Updater.install.Goals as goal

pub keep_files-requires-clause-may : goal.keep_files-requires-clause-may
keep_files-requires-clause-may g c =
    let inside = c.self.inside in
    let ready = c.in-Change.ensures.prepared.0 in
    let takes = c.in-Change.ensures.prepared.2 in
    let wrote = c.prepare.ensures.writes.2 in
    let uses = uses_taken inside.files c.prepare.new.files inside.room (held_by inside.state) c.self.invariant.2 wrote.range c.in-Change.taken takes.blocks in
    record {
      fits = ready.fits;
      has = encodes inside.state c.in-Change.change ready.fits ready.few ready.measured
          (used_small c.prepare.new.files inside.room (held_by inside.state) c.in-Change.taken (brought c.in-Change.change) c.in-Change.unused
          uses takes.same c.self.invariant.0.limits.most);
      short = install_short c.in-Change.change ready.few;
      light = ready.light;
      measured = ready.measured;
    }

pub keep_files-requires-clause-blocks : goal.keep_files-requires-clause-blocks
keep_files-requires-clause-blocks g c =
    let inside = c.self.inside in
    uses_taken inside.files c.prepare.new.files inside.room (held_by inside.state) c.self.invariant.2
    c.prepare.ensures.writes.2.range c.in-Change.taken c.in-Change.ensures.prepared.2.blocks

pub keep_files-requires-clause-same : goal.keep_files-requires-clause-same
keep_files-requires-clause-same g c = c.in-Change.ensures.prepared.2.same

pub returns-in-Change : goal.returns-in-Change
returns-in-Change g c =
    let inside = c.self.inside in
    let u = seen inside in
    let prepared = c.in-Change.ensures.prepared in
    let writes = c.in-Change.ensures.writes in
    begun_as c.self.view_is
    (install_kept g.D.Disk g.L.Links c.args.now c.args.url.now c.prepare.new.heard.texts u c.args.disk.now c.prepare.new.disk c.args.links.now c.prepare.new.links
    (g.met.D.Disk.seen_left c.prepare.new.disk) c.requires.moment writes.0 writes.1 _
    (passed_writing g.D.Disk u inside.files c.args.disk.now c.prepare.new.disk writes.0 _ (g.met.D.Disk.seen_left c.args.disk.now)
    c.self.invariant.2 writes.2.only writes.2.spends)
    (λ e. absurd (cc)) (g.met.D.Disk.seen_left c.args.disk.now) c.in-Change.change c.in-Change.reply prepared.0 prepared.1
    (record { log = c.keep_files.new.log; room = inside.room; state = c.keep_files.new.state }) c.keep_files.new.disk c.keep_files.result c.answer.result c.keep_files.ensures.makes c.answer.ensures)

pub returns-in-Reply : goal.returns-in-Reply
returns-in-Reply g c =
    let inside = c.self.inside in
    let u = seen inside in
    let prepared = c.in-Reply.ensures.prepared in
    let writes = c.in-Reply.ensures.writes in
    begun_as c.self.view_is
    (install_refused g.D.Disk g.L.Links c.args.now c.args.url.now c.prepare.new.heard.texts u c.args.disk.now c.prepare.new.disk c.args.links.now c.prepare.new.links
    (g.met.D.Disk.seen_left c.prepare.new.disk) c.requires.moment writes.0 writes.1 _
    (passed_writing g.D.Disk u inside.files c.args.disk.now c.prepare.new.disk writes.0 _ (g.met.D.Disk.seen_left c.args.disk.now)
    c.self.invariant.2 writes.2.only writes.2.spends)
    (λ e. absurd (cc)) c.in-Reply.reply c.in-Reply.ensures.leaves prepared.0)

pub returns-in-DiskFault : goal.returns-in-DiskFault
returns-in-DiskFault g c =
    let inside = c.self.inside in
    let u = seen inside in
    let prepared = c.in-DiskFault.ensures.prepared in
    let writes = c.in-DiskFault.ensures.writes in
    begun_as c.self.view_is
    (install_failed g.D.Disk g.L.Links c.args.now c.args.url.now c.prepare.new.heard.texts u c.args.disk.now c.prepare.new.disk c.args.links.now c.prepare.new.links
    (g.met.D.Disk.seen_left c.prepare.new.disk) c.requires.moment writes.0 writes.1 _
    (passed_writing g.D.Disk u inside.files c.args.disk.now c.prepare.new.disk writes.0 _ (g.met.D.Disk.seen_left c.args.disk.now)
    c.self.invariant.2 writes.2.only writes.2.spends)
    refl prepared.0 _ refl)

pub invariant_of-self : goal.invariant_of-self
invariant_of-self g c = (c.keep_files.ensures.kept, c.keep_files.ensures.rooms, c.keep_files.ensures.blocks)

pub invariant_of-self-in-Reply : goal.invariant_of-self-in-Reply
invariant_of-self-in-Reply g c =
    let inside = c.self.inside in (
      c.self.invariant.0,
      c.self.invariant.1,
      uses_still inside.files c.prepare.new.files inside.room (held_by inside.state) c.self.invariant.2
          c.in-Reply.ensures.writes.2.range c.in-Reply.ensures.prepared.1,
    )

pub invariant_of-self-in-DiskFault : goal.invariant_of-self-in-DiskFault
invariant_of-self-in-DiskFault g c =
    let inside = c.self.inside in (
      c.self.invariant.0,
      c.self.invariant.1,
      uses_still inside.files c.prepare.new.files inside.room (held_by inside.state) c.self.invariant.2
          c.in-DiskFault.ensures.writes.2.range c.in-DiskFault.ensures.prepared.1,
    )
