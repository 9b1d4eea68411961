use Rattle.std.proofs.Common.{sym, ◌∙◌, arith}
use Rattle.manifest_tree.specs.Outcome.{whole}
use Rattle.manifest_tree.proofs.Scans.{expect_cut, gives_err}
use Rattle.manifest_tree.proofs.scan.expect.Goals as goal

pub returns-in-None-clause-rest : goal.returns-in-None-clause-rest
returns-in-None-clause-rest c =
    gives_err whole _ _ _ _ c.fault.ensures (sym c.loop-want.invariant.0 ∙ expect_cut c.args.mark.now c.loop-want.want-index c.loop-want.rest.now (omega arith) c.in-None.ensures.cases)
