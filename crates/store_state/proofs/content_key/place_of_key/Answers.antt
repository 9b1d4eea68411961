use Rattle.std.proofs.Common.{rules}
use Rattle.std.proofs.lemmas.Fn.{always_returns_same}
use Rattle.machine.specs.Views.{ContentKey}
use Rattle.store_state.specs.ContentKeys.{content_key_cmp}
use Rattle.store_state.proofs.content_key.place_of_key.Goals as goal

-- the closure compares a content key with the size and the digests
pub returns-clause-found : goal.returns-clause-found
returns-clause-found c = c.binary_search_by.ensures.position (λ (key : ContentKey). content_key_cmp key (record { size = c.args.size; list = c.args.list.now })) (always_returns_same _ _ _ (λ a r f called. search rules))
