use Rattle.addresses.proofs.NameLemmas.{base_http}
use Rattle.addresses.proofs.laws.bases_are_http.Goals as goal

pub returns : goal.returns
returns c = λ base document read. (base_http base document read).0
