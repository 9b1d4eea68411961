use Rattle.http_plain.proofs.Names.{name_too_long}
use Rattle.http_plain.proofs.path.read_escaped.Goals as goal

pub returns-in-None-clause-name : goal.returns-in-None-clause-name
returns-in-None-clause-name c = name_too_long _ c.in-None.ensures
