use Rattle.updater_cli.proofs.RunLine.{answered, faulted, unread}
use Rattle.updater_cli.proofs.line.run_line.Goals as goal

pub returns-in-Err : goal.returns-in-Err
returns-in-Err g c = unread g.D.Disk g.L.Links c.args.now c.requires.moment c.args.line.now c.args.updater.now c.args.disk.now c.args.links.now c.in-Err.fault c.in-Err.ensures.exact

pub returns-in-Ok-answer : goal.returns-in-Ok-answer
returns-in-Ok-answer g c =
    answered g.D.Disk g.L.Links c.args.now c.requires.moment c.args.line.now c.args.updater.now c.args.disk.now c.args.links.now c.in-Ok.command c.nothing_heard-heard.result.texts c.apply-answer.new.heard c.nothing_heard-heard.ensures
    c.in-Ok.ensures.exact c.in-Ok.ensures.fits c.apply-answer.new.self c.apply-answer.new.disk c.apply-answer.new.links c.in-Ok-answer.reply c.in-Ok-answer.ensures

pub returns-in-Err-answer : goal.returns-in-Err-answer
returns-in-Err-answer g c =
    faulted g.D.Disk g.L.Links c.args.now c.requires.moment c.args.line.now c.args.updater.now c.args.disk.now c.args.links.now c.in-Ok.command c.nothing_heard-heard.result.texts c.apply-answer.new.heard c.nothing_heard-heard.ensures
    c.in-Ok.ensures.exact c.in-Ok.ensures.fits c.apply-answer.new.self c.apply-answer.new.disk c.apply-answer.new.links c.in-Err-answer.field-0 c.in-Err-answer.ensures
