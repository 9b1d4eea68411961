use Rattle.std.proofs.Common.{[], ◌≤◌, ℕ, refl, subst, sym}
use Rattle.small_types.specs.declared.limits.TheConstants.{NUMBER_LIMIT}
use Rattle.machine.specs.declared.command.Command.TheVariants as command
use Rattle.machine.specs.declared.reply.Reply.TheVariants as says
use Rattle.install_plan.proofs.Downs.{counts_none}
use Rattle.updater.proofs.CommandEnds.{refused, rested, unlinked}
use Rattle.updater.proofs.RequireChange.{required_rests}
use Rattle.updater.proofs.Seen.{rested_as, seen}
use Rattle.updater.specs.Shown.{Updater}
use Rattle.machine.specs.Machine.{refusals}
use Rattle.machine.specs.Rows.{PassesAll}
use Rattle.store_state.specs.Tables.{table_shape}
use Rattle.updater.specs.Requirement.{Raises}
use Rattle.updater.proofs.updater.Updater.require.Goals as goal

pub returns-in-Some : goal.returns-in-Some
returns-in-Some g c =
    let u = seen c.self.inside in
    rested_as c.self.view_is
    (refused g.D.Disk g.L.Links c.args.now (command.Require c.args.key.now c.args.version) u c.args.disk.now c.args.links.now (g.met.D.Disk.seen_left c.args.disk.now) c.requires.moment tt c.in-Some.reply
    (subst (λ (n : ℕ). n ≤ NUMBER_LIMIT) (sym (c.in-Some.ensures.still c.args.now)) c.requires.moment)
    (counts_none c.in-Some.ensures.no_target) (λ e. tt)
    (λ old s. c.in-Some.ensures.some c.args.now c.args.version old))

pub returns-in-Some-minimum_that_stays : goal.returns-in-Some-minimum_that_stays
returns-in-Some-minimum_that_stays g c =
    let command = command.Require c.args.key.now c.args.version in
    let u = seen c.self.inside in
    rested_as c.self.view_is
    (rested g.D.Disk g.L.Links c.args.now [] command u c.args.disk.now c.args.links.now c.args.links.now (g.met.D.Disk.seen_left c.args.disk.now) c.requires.moment
    (unlinked g.L.Links command u c.args.links.now) (says.Minimum c.in-Some-minimum_that_stays.minimum) c.requires.moment
    (counts_none refl) (λ e. tt)
    (λ old s. required_rests c.args.now c.args.key.now c.args.version _ u.state _ _ _ old s.jobs s.shows (c.in_default.ensures.none refl c.args.now c.args.version) c.in-Some-minimum_that_stays.minimum c.in-Some-minimum_that_stays.ensures.some))

pub raise-requires-clause-passed : goal.raise-requires-clause-passed
raise-requires-clause-passed g c =
    subst (λ (u : Updater). PassesAll (refusals c.args.now [] (table_shape u.room u.state) (command.Require c.args.key.now c.args.version))) c.self.view_is
    (c.in_default.ensures.none refl c.args.now c.args.version)

pub raise-requires-clause-raises : goal.raise-requires-clause-raises
raise-requires-clause-raises g c =
    subst (λ (u : Updater). Raises c.args.key.now c.args.version u.state.apps) c.self.view_is (c.in_default-minimum_that_stays.ensures.none refl)
