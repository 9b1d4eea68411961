use Rattle.std.proofs.Common.{sym}
use Rattle.updater.proofs.opened.has_all.Goals as goal

pub has_files-requires-clause-measured : goal.has_files-requires-clause-measured
has_files-requires-clause-measured g c = c.requires.store.measured

pub has_files-requires-clause-half : goal.has_files-requires-clause-half
has_files-requires-clause-half g c = c.requires.limits.greatest

pub returns-in-Ok-clause-has : goal.returns-in-Ok-clause-has
returns-in-Ok-clause-has g c = λ told.
    let tells = c.has_files.ensures (g.D.Disk.seen c.args.disk.now) (sym (c.in-Ok.ensures.bytes told)) in (
      λ is. let has = tells.0 is in record { contents = has.0; locals = has.1 },
      λ all. tells.1 (all.contents, all.locals),
    )
