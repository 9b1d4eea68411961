use Rattle.std.proofs.Common.{◌≤◌, ℕ, Err, ap, subst, sym, ◌∙◌, refl}
use Rattle.small_types.specs.declared.limits.TheConstants.{NUMBER_LIMIT}
use Rattle.machine.specs.declared.command.Command.TheVariants as command
use Rattle.machine.specs.declared.reply.Reply.TheVariants as says
use Rattle.file_store.specs.Stores.{store_base}
use Rattle.store_state.specs.Stored.{content_bytes}
use Rattle.install_plan.proofs.Downs.{counts_none}
use Rattle.updater.proofs.CommandEnds.{refused}
use Rattle.updater.proofs.ReadEnds.{read_failed, read_missed, read_over}
use Rattle.updater.proofs.FileBytes.{content_held, content_stands, content_whole, leased_in}
use Rattle.updater.proofs.LeasedFiles.{read_rests}
use Rattle.updater.proofs.ShownViews.{keeps_view}
use Rattle.updater.proofs.Seen.{rested_as, seen}
use Rattle.updater.proofs.updater.Updater.read.Goals as goal

pub returns-in-Err : goal.returns-in-Err
returns-in-Err g c =
    let u = seen c.self.inside in
    rested_as c.self.view_is
    (refused g.D.Disk g.L.Links c.args.now
    (command.Read c.args.lease c.args.name.now c.args.from c.args.count)
    u c.args.disk.now c.args._links.now
    (g.met.D.Disk.seen_left c.args.disk.now) c.requires tt c.in-Err.reply
    (subst (λ (n : ℕ). n ≤ NUMBER_LIMIT) (sym (c.in-Err.ensures.still c.args.now)) c.requires)
    (counts_none c.in-Err.ensures.no_target) (λ e. tt)
    (λ old s. c.in-Err.ensures.refused (keeps_view s.shows c.args.lease s.valid.ordered)
    c.args.now u.room c.args.from c.args.count old))

pub read_part-requires : goal.read_part-requires
read_part-requires g c =
    content_held c.self.inside.state c.in-Ok.file.now c.self.invariant.0.measured
    (leased_in c.args.lease c.args.name.now c.self.inside.state c.in-Ok.file.now c.in-Ok.ensures.file)

pub returns-in-Ok-read_part : goal.returns-in-Ok-read_part
returns-in-Ok-read_part g c =
    let u = seen c.self.inside in
    rested_as c.self.view_is
    (read_over g.D.Disk g.L.Links c.args.now (command.Read c.args.lease c.args.name.now c.args.from c.args.count)
    u c.args.disk.now c.read_part.new.disk c.args._links.now
    (g.met.D.Disk.seen_left c.read_part.new.disk) c.requires tt _ c.read_part.ensures.still c.read_part.ensures.spends
    (λ e. absurd (cc)) (says.Read c.in-Ok.file.now.size c.in-Ok-read_part.bytes) c.requires
    (counts_none refl) (λ e. tt)
    (λ told old s.
    let seen_same = c.read_part.ensures.still.same_reads in
    let there = leased_in c.args.lease c.args.name.now u.state c.in-Ok.file.now c.in-Ok.ensures.file in
    let image = g.D.Disk.seen c.read_part.new.disk in
    read_rests c.args.lease c.args.name.now u.state
    c.args.now u.room c.args.from c.args.count image _ _ old s.jobs s.shows
    c.in-Ok.file.now c.in-Ok-read_part.bytes c.in-Ok.file.now.size
    c.in-Ok.ensures.file (sym (content_whole u.room u.state image old.store s.shows c.in-Ok.file.now there))
    (c.in-Ok-read_part.ensures.bytes told (content_bytes u.room image c.in-Ok.file.now)
    (content_whole u.room u.state image old.store s.shows c.in-Ok.file.now there)
    (content_stands u.room u.state image old.store s.shows (store_base c.self.inside.files)
    (g.D.Disk.seen c.args.disk.now) c.self.invariant.2.base seen_same c.in-Ok.file.now there))))

pub returns-in-Err-Memory : goal.returns-in-Err-Memory
returns-in-Err-Memory g c =
    read_missed g.D.Disk g.L.Links c.args.now (command.Read c.args.lease c.args.name.now c.args.from c.args.count)
    c.args.self.now c.args.disk.now c.read_part.new.disk c.args._links.now
    (g.met.D.Disk.seen_left c.read_part.new.disk) c.requires tt _ c.read_part.ensures.still c.read_part.ensures.spends
    (λ e. absurd (cc)) tt

pub returns-in-Err-DiskFault : goal.returns-in-Err-DiskFault
returns-in-Err-DiskFault g c =
    read_failed g.D.Disk g.L.Links c.args.now (command.Read c.args.lease c.args.name.now c.args.from c.args.count)
    c.args.self.now c.args.disk.now c.read_part.new.disk c.args._links.now
    (g.met.D.Disk.seen_left c.read_part.new.disk) c.requires tt _ c.read_part.ensures.still c.read_part.ensures.spends
    (c.in-Err-DiskFault.is ∙ ap Err c.in-Err-DiskFault.field-0-is) _ refl
