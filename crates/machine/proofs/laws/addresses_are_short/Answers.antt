use Rattle.machine.proofs.Addresses.{codebase_is_short, text_is_short}
use Rattle.machine.proofs.laws.addresses_are_short.Goals as goal

pub returns-clause-read : goal.returns-clause-read
returns-clause-read c = text_is_short

pub returns-clause-joined : goal.returns-clause-joined
returns-clause-joined c = codebase_is_short
