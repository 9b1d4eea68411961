use Rattle.std.proofs.Common.{◌≡◌, None, sym}
use Rattle.store_state.specs.Locals.{local_named}
use Rattle.updater.proofs.LeasedData.{no_file}
use Rattle.updater.proofs.data_files.removal_of.Goals as goal

pub returns-in-None-clause-refused : goal.returns-in-None-clause-refused
returns-in-None-clause-refused c = λ keeps room old.
    let none : None ≡ local_named c.args.name.now c.in-Some.view.now.locals =
    rw c.in-None.is at c.local.ensures in
    no_file c.args.lease c.args.name.now room c.args.state.now old c.in-Some.view.now
    (sym c.in-Some.ensures.row) (sym none)
