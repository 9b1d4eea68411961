use Rattle.std.proofs.Common.{false, ap, subst, sym}
use Rattle.machine.specs.declared.command.Command.TheVariants.{Launch}
use Rattle.machine.specs.declared.reply.Reply.TheVariants as says
use Rattle.identity.specs.declared.key.Key.{Key}
use Rattle.identity.specs.Key.{IsKey}
use Rattle.generated_release.specs.declared.release.GeneratedRelease.TheVariants.{One}
use Rattle.generated_release.specs.Options.{demo_key, version_of}
use Rattle.demo.proofs.RunLine.{judged}
use Rattle.demo.proofs.Keys.{demo_is_key}
use Rattle.demo.proofs.Touches.{fails, with_fault}
use Rattle.demo.proofs.lines.launch.Goals as goal

pub ask_launch-requires : goal.ask_launch-requires
ask_launch-requires g c = subst IsKey (sym c.requires) demo_is_key

pub returns-in-Err : goal.returns-in-Err
returns-in-Err g c = fails g.D.Disk (with_fault g.D.Disk c.in-Err.fault c.in-Err.ensures.touches)

pub returns-in-Ok : goal.returns-in-Ok
returns-in-Ok g c =
    judged g.D.Disk _ (Launch c.args.site.now.key) c.args.updater.now c.args.disk.now c.args.site.now.links c.ask_launch.new.updater c.ask_launch.new.disk c.ask_launch.new.links
    c.leased.result (Launch demo_key) c.in-Ok.said.0 c.in-Ok.said.1 (says.Lease 1 (version_of One) false) (λ shape texts is. is) (subst IsKey (sym c.requires) demo_is_key)
    (ap (λ (k : Key). Launch k) c.requires) c.in-Ok.ensures c.leased.ensures.leased c.leased.ensures.fault
