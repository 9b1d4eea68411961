use Rattle.manifest_parts.proofs.Roots.{never_fails, root_spelled, root_again, root_only, root_refuses, tree_refuses}
use Rattle.manifest_parts.proofs.root.read_root.Goals as goal

pub returns-in-Ok-clause-spelled : goal.returns-in-Ok-clause-spelled
returns-in-Ok-clause-spelled c = root_spelled c.args.bytes.now c.in-Ok.root c.manifest_root.result c.in-Ok.ensures.spelled c.manifest_root.ensures

pub returns-in-Ok-clause-root : goal.returns-in-Ok-clause-root
returns-in-Ok-clause-root c = root_again c.in-Ok.root c.manifest_root.result c.manifest_root.ensures

pub returns-in-Ok-clause-refused : goal.returns-in-Ok-clause-refused
returns-in-Ok-clause-refused c = root_refuses c.args.bytes.now c.in-Ok.root c.manifest_root.result c.in-Ok.ensures.spelled c.manifest_root.ensures

pub returns-in-Ok-clause-only : goal.returns-in-Ok-clause-only
returns-in-Ok-clause-only c = λ t p. root_only t c.in-Ok.root c.manifest_root.result (c.in-Ok.ensures.only t p) c.manifest_root.ensures

pub returns-in-Err-clause-refused : goal.returns-in-Err-clause-refused
returns-in-Err-clause-refused c = tree_refuses c.args.bytes.now c.in-Err.fault c.in-Err.ensures.refused

pub returns-in-Err-clause-only : goal.returns-in-Err-clause-only
returns-in-Err-clause-only c = λ t p. never_fails c.in-Err.fault t _ (c.in-Err.ensures.only t p)
