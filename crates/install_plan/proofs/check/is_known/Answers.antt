use Rattle.install_plan.proofs.KnownNotes.{known_by, never_checked, never_offered, never_then}
use Rattle.install_plan.proofs.check.is_known.Goals as goal

pub returns-then-not-app : goal.returns-then-not-app
returns-then-not-app c = never_checked c.args.offered c.args.app.now c.if-not-app.true

pub returns-then-not-is_moment : goal.returns-then-not-is_moment
returns-then-not-is_moment c =
    never_then c.args.offered c.args.app.now c.is_moment.result c.is_moment.ensures
    c.if-not-is_moment.true

pub returns-then-not-is_version : goal.returns-then-not-is_version
returns-then-not-is_version c =
    never_offered c.args.offered c.args.app.now c.is_version.result c.offer_of.result
    c.offer_of.ensures c.is_version.ensures c.if-not-is_version.true

pub returns : goal.returns
returns c =
    known_by c.args.offered c.args.app.now c.if-not-app.false c.is_moment.result
    c.is_moment.ensures c.if-not-is_moment.false c.is_version.result c.offer_of.result
    c.offer_of.ensures c.is_version.ensures c.if-not-is_version.false c.is_version-2.result
    c.raised_by.result c.raised_by.ensures c.is_version-2.ensures
