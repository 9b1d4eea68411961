use Rattle.machine.proofs.Addresses.{codebase_is_held, text_is_held}
use Rattle.machine.proofs.laws.read_addresses_may_be_held.Goals as goal

pub returns-clause-read : goal.returns-clause-read
returns-clause-read c = text_is_held

pub returns-clause-joined : goal.returns-clause-joined
returns-clause-joined c = codebase_is_held
