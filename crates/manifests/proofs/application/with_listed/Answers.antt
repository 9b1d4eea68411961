use Rattle.manifest_parts.proofs.Readings.{fails_then}
use Rattle.manifests.proofs.Chains.{handed_on}
use Rattle.manifests.proofs.FileSteps.{added_gives}
use Rattle.manifests.proofs.application.with_listed.Goals as goal

pub returns-in_err-entry : goal.returns-in_err-entry
returns-in_err-entry c = handed_on _ _ _ _ c.from_residual.ensures (fails_then _ _ _ c.in_err-entry.ensures)

pub returns : goal.returns
returns c = added_gives c.with.result c.args.files _ c.in_ok-entry.entry c.in_ok-entry.ensures c.with.ensures.added c.with.ensures.memory
