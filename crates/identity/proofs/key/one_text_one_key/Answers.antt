use Rattle.identity.proofs.KeyLemmas.{key_text_injective}
use Rattle.identity.proofs.key.one_text_one_key.Goals as goal

pub returns : goal.returns
returns c = key_text_injective
