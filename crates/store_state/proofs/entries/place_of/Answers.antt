use Rattle.std.proofs.Common.{rules}
use Rattle.identity.specs.Key.{key_text}
use Rattle.identity.specs.Printed.{text_cmp}
use Rattle.std.proofs.lemmas.Fn.{always_returns_same}
use Rattle.store_state.proofs.entries.place_of.Goals as goal

-- the closure compares a printed key with the key
pub returns-clause-found : goal.returns-clause-found
returns-clause-found c = c.binary_search_by.ensures.position (λ text. text_cmp text (key_text c.args.key.now)) (always_returns_same _ _ _ (λ a r f called. search rules))
