use Rattle.std.proofs.Common.{Err, sym, ap, ◌∙◌}
use Rattle.updater.specs.declared.updater.Updater.TheInside.{Inside}
use Rattle.updater.specs.Shown.{Updater}
use Rattle.updater.proofs.OpeningEnds as opening
use Rattle.updater.proofs.updater.Updater.recover.Goals as goal

pub returns-in-Err : goal.returns-in-Err
returns-in-Err g c = opening.unread g.D.Disk c.args.boot c.requires c.args.disk.now c.load.result c.load.new.disk c.load.ensures c.in-Err.fault c.in-Err.is

pub returns-then-updater-boot : goal.returns-then-updater-boot
returns-then-updater-boot g c =
    opening.same g.D.Disk c.args.boot c.requires c.args.disk.now c.load.result c.load.new.disk c.load.ensures c.an_image_reads_as_one.ensures.one c.in-Ok.updater c.in-Ok.is (g.met.D.Disk.seen_left c.load.new.disk)
    (ap (λ (u : Updater). u.state.boot) (sym c.updater.view_is) ∙ ap (λ (i : Inside). i.state.boot) (sym c.updater-inside.view_is) ∙ c.if-updater-boot.true)

pub returns-in-Ok-keep_lighter : goal.returns-in-Ok-keep_lighter
returns-in-Ok-keep_lighter g c =
    opening.other g.D.Disk c.args.boot c.requires c.args.disk.now c.load.result c.load.new.disk c.load.ensures c.an_image_reads_as_one.ensures.one c.in-Ok.updater c.in-Ok.is (g.met.D.Disk.seen_left c.load.new.disk)
    c.keep_lighter.result c.keep_lighter.new.self c.keep_lighter.new.disk c.keep_lighter.ensures c.in-Ok-keep_lighter.field-0 c.in-Ok-keep_lighter.is
    (λ is. c.if-updater-boot.false (ap (λ (i : Inside). i.state.boot) c.updater-inside.view_is ∙ ap (λ (u : Updater). u.state.boot) c.updater.view_is ∙ is))

pub returns-in-Err-Memory : goal.returns-in-Err-Memory
returns-in-Err-Memory g c =
    opening.memory g.D.Disk c.args.boot c.requires c.args.disk.now c.load.result c.load.new.disk c.load.ensures c.an_image_reads_as_one.ensures.one c.in-Ok.updater c.in-Ok.is (g.met.D.Disk.seen_left c.load.new.disk)
    c.keep_lighter.result c.keep_lighter.new.self c.keep_lighter.new.disk c.keep_lighter.ensures (c.in-Err-Memory.is ∙ ap Err c.in-Err-Memory.field-0-is)

pub returns : goal.returns
returns g c =
    opening.fault g.D.Disk c.args.boot c.requires c.args.disk.now c.load.result c.load.new.disk c.load.ensures c.an_image_reads_as_one.ensures.one c.in-Ok.updater c.in-Ok.is (g.met.D.Disk.seen_left c.load.new.disk)
    c.keep_lighter.result c.keep_lighter.new.self c.keep_lighter.new.disk c.keep_lighter.ensures (c.in-Err-DiskFault.is ∙ ap Err c.in-Err-DiskFault.field-0-is)
