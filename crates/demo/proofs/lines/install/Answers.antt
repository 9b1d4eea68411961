use Rattle.demo.proofs.RunLine.{installs}
use Rattle.demo.proofs.Touches.{fails, with_fault, with_other}
use Rattle.demo.proofs.lines.install.Goals as goal

pub returns-in-Err-clause-goes : goal.returns-in-Err-clause-goes
returns-in-Err-clause-goes g c = λ seed site. fails g.D.Disk (with_fault g.D.Disk c.in-Err.fault c.in-Err.ensures.touches)

pub returns-in-Err-as_published-clause-goes : goal.returns-in-Err-as_published-clause-goes
returns-in-Err-as_published-clause-goes g c = λ seed site. fails g.D.Disk (with_other g.D.Disk c.in-Err-as_published.fault c.in-Err-as_published.ensures.fault c.in-Ok.ensures.touches)

pub returns-in-Ok-as_published-clause-goes : goal.returns-in-Ok-as_published-clause-goes
returns-in-Ok-as_published-clause-goes g c = λ seed site.
    let heard = c.in-Ok-as_published.ensures.published in
    installs g.D.Disk _ seed c.args.release c.args.updater.now c.args.disk.now c.args.site.now.links c.ask_install.new.updater c.ask_install.new.disk c.ask_install.new.links
    c.args.site.now c.in-Ok.said (record { asked = c.asked_count.result; blocks = c.used_blocks.result }) site site.unasked c.in-Ok.ensures
    (record { reply = heard.reply; texts = heard.texts })
    c.asked_count.ensures c.used_blocks.ensures (g.met.D.Disk.seen_left c.ask_install.new.disk)
