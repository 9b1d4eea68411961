use Rattle.std.proofs.Common.{sym}
use Rattle.jobs.proofs.Needs.{need_nothing, needed_found}
use Rattle.machine.specs.Views.{content_key}
use Rattle.jobs.proofs.slots.need_of.Goals as goal

pub returns-in-Some-clause-value : goal.returns-in-Some-clause-value
returns-in-Some-clause-value c =
    let found = c.in-Some.ensures.found in
    sym (need_nothing c.args.slots.now c.args.entry.now found.0
    (needed_found c.args.slots.now (content_key c.args.entry.now) c.in-Some.field-0 found.1 found.2 found.3))
