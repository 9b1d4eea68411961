use Rattle.std.proofs.Common.{refl}
use Rattle.jobs.specs.declared.table.JobTable.{JobTable}
use Rattle.jobs.proofs.BareStore.{bare_sound}
use Rattle.jobs.proofs.table.JobTable.new.Goals as goal

pub returns-clause-sound : goal.returns-clause-sound
returns-clause-sound c = λ kept store bare.
    let made : JobTable = record { jobs = c.new.result; next = 1; slots = c.new-2.result } in
    bare_sound kept made store c.new.ensures.items c.new-2.ensures.items refl bare
