use Rattle.std.proofs.Common.{sym, subst}
use Rattle.addresses.specs.Address.{Gives}
use Rattle.addresses.proofs.NameLemmas.{fails_beside, target_beside}
use Rattle.addresses.proofs.join.file_address.Goals as goal

pub returns-in-Err-clause-exact : goal.returns-in-Err-clause-exact
returns-in-Err-clause-exact c = fails_beside c.in-Err.fault c.args.base.now c.args.mapped c.args.name.now c.in-Err.ensures

pub returns-clause-exact : goal.returns-clause-exact
returns-clause-exact c =
    subst (Gives c.file_beside.result)
    (sym (target_beside c.args.base.now c.in-Ok.document c.args.mapped c.args.name.now c.in-Ok.ensures))
    c.file_beside.ensures.exact

pub returns-clause-address : goal.returns-clause-address
returns-clause-address c = c.file_beside.ensures.address c.args.base.now c.in-Ok.ensures
