use Rattle.std.proofs.Common.{Err, ap}
use Rattle.http_plain.proofs.Names.{name_known}
use Rattle.http_plain.proofs.path.read_name.Goals as goal

pub returns-in-Err-Memory-clause-memory : goal.returns-in-Err-Memory-clause-memory
returns-in-Err-Memory-clause-memory c =
    name_known c.args.bytes.now (c.in-Err-Memory.ensures.memory (ap Err c.in-Err-Memory.field-0-is))
