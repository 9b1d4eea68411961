use Rattle.addresses.proofs.NameLemmas.{names_joined}
use Rattle.addresses.proofs.laws.names_are_joined.Goals as goal

pub returns : goal.returns
returns c = names_joined
