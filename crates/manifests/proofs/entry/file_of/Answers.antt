use Rattle.manifest_parts.proofs.Readings.{fails_then}
use Rattle.manifests.specs.Applications.{file_of}
use Rattle.manifests.proofs.Chains.{then_fails, then_gives, handed_on}
use Rattle.manifests.proofs.entry.file_of.Goals as goal

pub returns-in_err-name : goal.returns-in_err-name
unfolding file_of
returns-in_err-name c =
    handed_on _ _ _ _ c.from_residual.ensures
    (fails_then _ _ _ c.in_err-name.ensures)

pub returns-in_err-size : goal.returns-in_err-size
unfolding file_of
returns-in_err-size c =
    handed_on _ _ _ _ c.from_residual-in_err-size.ensures
    (then_fails _ _ _ _ c.in_ok-name.ensures
    (fails_then _ _ _ (rw c.size_limit.ensures at c.in_err-size.ensures)))

pub returns-in_err-list : goal.returns-in_err-list
unfolding file_of
returns-in_err-list c =
    handed_on _ _ _ _ c.from_residual-in_err-list.ensures
    (then_fails _ _ _ _ c.in_ok-name.ensures
    (then_fails _ _ _ _ (rw c.size_limit.ensures at c.in_ok-size.ensures)
    (fails_then _ _ _ (rw c.as_str.ensures.value at c.in_err-list.ensures))))

pub returns-in_err-group : goal.returns-in_err-group
unfolding file_of
returns-in_err-group c =
    handed_on _ _ _ _ c.from_residual-in_err-group.ensures
    (then_fails _ _ _ _ c.in_ok-name.ensures
    (then_fails _ _ _ _ (rw c.size_limit.ensures at c.in_ok-size.ensures)
    (then_fails _ _ _ _ (rw c.as_str.ensures.value at c.in_ok-list.ensures)
    (fails_then _ _ _ c.in_err-group.ensures))))

pub returns : goal.returns
unfolding file_of
returns c =
    then_gives _ _ _ _ _ c.in_ok-name.ensures
    (then_gives _ _ _ _ _ (rw c.size_limit.ensures at c.in_ok-size.ensures)
    (then_gives _ _ _ _ _ (rw c.as_str.ensures.value at c.in_ok-list.ensures)
    (then_gives _ _ _ _ _ c.in_ok-group.ensures c.counted.ensures)))
