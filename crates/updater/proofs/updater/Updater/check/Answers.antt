use Rattle.std.proofs.Common.{subst}
use Rattle.updater.proofs.Brings.{check_brings}
use Rattle.updater.proofs.CheckEnds.{check_kept, check_over}
use Rattle.updater.proofs.EncodedChanges.{check_encodes}
use Rattle.updater.proofs.Seen.{kept_as, rested_as, seen}
use Rattle.updater.specs.Shown.{Updater}
use Rattle.store_state.specs.Change.{Fits}
use Rattle.updater.proofs.updater.Updater.check.Goals as goal

pub returns-in-Reply : goal.returns-in-Reply
returns-in-Reply g c =
    let u = seen c.self.inside in
    rested_as c.self.view_is
    (check_over g.D.Disk g.L.Links c.args.now c.args.key.now c.prepare_check.new.heard.texts
    u c.args.disk.now c.args.links.now c.prepare_check.new.links
    (g.met.D.Disk.seen_left c.args.disk.now) c.requires.words c.requires.moment c.in-Reply.reply
    (c.in-Reply.ensures u.room))

pub keep_lighter-requires : goal.keep_lighter-requires
keep_lighter-requires g c =
    let ready = c.in-Change.ensures c.self.inside.room in
    record {
      may = (
        subst (λ (u : Updater). Fits u.state c.in-Change.noted) c.self.view_is ready.fits,
        check_encodes c.self.inside.state c.args.key.now c.in-Change.noted c.requires.words ready.of ready.fits,
      );
      lighter = check_brings c.args.self.now.state c.args.key.now c.in-Change.noted ready.of;
    }

pub returns-in-Change : goal.returns-in-Change
returns-in-Change g c =
    let u = seen c.self.inside in
    kept_as c.self.view_is c.keep_lighter.ensures (λ keeps.
    check_kept g.D.Disk g.L.Links c.args.now c.args.key.now c.prepare_check.new.heard.texts
    u c.args.disk.now c.args.links.now c.prepare_check.new.links
    (g.met.D.Disk.seen_left c.args.disk.now) c.requires.words c.requires.moment
    c.in-Change.noted c.in-Change.reply (c.in-Change.ensures u.room)
    c.keep_lighter.new.self c.keep_lighter.new.disk c.keep_lighter.result c.answer.result keeps c.answer.ensures)
