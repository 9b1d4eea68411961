use Rattle.std.proofs.Common.{◌≡◌, None, sym, ◌∙◌}
use Rattle.store_state.specs.Named.{content_at}
use Rattle.updater.proofs.LeasedFiles.{no_file}
use Rattle.updater.proofs.leased.leased_file.Goals as goal

pub returns-in-None-clause-refused : goal.returns-in-None-clause-refused
returns-in-None-clause-refused c = λ keeps now room from count old.
    let none : None ≡ content_at c.in-Some.lease.view c.args.name.now c.args.state.now =
    rw c.in-None.is at c.file.ensures in
    no_file c.args.lease c.args.name.now c.args.state.now now room from count old
    c.are_tables.ensures c.in-Some.lease
    (sym c.in-Some.is ∙ c.lease.ensures) none keeps
