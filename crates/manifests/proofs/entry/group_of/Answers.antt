use Rattle.std.proofs.Common.{ap, sym}
use Rattle.manifest_parts.proofs.Readings.{ok_at, fails_then}
use Rattle.manifests.specs.Applications.{group_of}
use Rattle.manifests.proofs.Chains.{then_fails, handed_on}
use Rattle.manifests.proofs.entry.group_of.Goals as goal

pub returns-in_err-optional : goal.returns-in_err-optional
unfolding group_of
returns-in_err-optional c =
    handed_on _ _ _ _ c.from_residual.ensures
    (fails_then _ _ _ c.in_err-optional.ensures)

pub returns-in_err-group : goal.returns-in_err-group
unfolding group_of
returns-in_err-group c =
    handed_on _ _ _ _ c.from_residual-in_err-group.ensures
    (then_fails _ _ _ _ c.in_ok-optional.ensures
    (fails_then _ _ _ c.in_err-group.ensures))

pub returns : goal.returns
unfolding group_of
returns c =
    rw c.in_ok-optional.ensures (rw c.in_ok-group.ensures (ap ok_at (sym c.kept_group.ensures)))
