use Rattle.std.proofs.Common.{Ok, Err}
use Rattle.demo.proofs.RunLine.{alone, failed, replied}
use Rattle.demo.proofs.lines.answer.Goals as goal

pub returns-in-Ok : goal.returns-in-Ok
returns-in-Ok g c = replied g.D.Disk g.L.Links c.args.command.now c.args.updater.now c.args.disk.now c.args.links.now c.apply.new.self c.apply.new.disk c.apply.new.links c.apply.new.heard c.in-Ok.reply
    (alone g.D.Disk g.L.Links c.args.command.now c.args.updater.now c.args.disk.now c.args.links.now c.apply.new.self c.apply.new.disk c.apply.new.links _ c.apply.new.heard.texts (Ok c.in-Ok.reply) c.nothing_heard-heard.ensures c.in-Ok.ensures)

pub returns-in-Err : goal.returns-in-Err
returns-in-Err g c = failed g.D.Disk g.L.Links c.args.command.now c.args.updater.now c.args.disk.now c.args.links.now c.apply.new.self c.apply.new.disk c.apply.new.links c.apply.new.heard.texts c.in-Err.field-0
    (alone g.D.Disk g.L.Links c.args.command.now c.args.updater.now c.args.disk.now c.args.links.now c.apply.new.self c.apply.new.disk c.apply.new.links _ c.apply.new.heard.texts (Err c.in-Err.field-0) c.nothing_heard-heard.ensures c.in-Err.ensures)
