use Rattle.std.proofs.Common.{ℕ, Some, map, rules}
use Rattle.std.specs.Prelude.{slice_get}
use Rattle.std.specs.Option.{option_cmp}
use Rattle.std.proofs.lemmas.Fn.{always_returns_same}
use Rattle.store_state.specs.ContentKeys.{content_key_cmp}
use Rattle.store_state.specs.Contents.{held_key}
use Rattle.store_state.proofs.content_key.search_content.Goals as goal

-- the closure compares the content at a place with the size and the digests
pub returns-clause-found : goal.returns-clause-found
returns-clause-found c =
    c.binary_search_by.ensures.position
    (λ (place : ℕ). option_cmp content_key_cmp (slice_get (map held_key c.args.contents.now) place)
    (Some (record { size = c.args.size; list = c.args.list.now })))
    (always_returns_same _ _ _ (λ a r f called. search rules))
