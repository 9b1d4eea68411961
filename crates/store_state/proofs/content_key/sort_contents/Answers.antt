use Rattle.std.proofs.Common.{ℕ, map, rules}
use Rattle.std.specs.Prelude.{slice_get}
use Rattle.std.specs.Cmp.Lexicographic.{options_total}
use Rattle.std.specs.Option.{option_cmp}
use Rattle.std.specs.Ordering.{is_lt}
use Rattle.std.proofs.lemmas.Fn.{always_returns_same}
use Rattle.std.proofs.lemmas.List.Sorted.{ranks_by}
use Rattle.store_state.specs.ContentKeys.{content_key_cmp}
use Rattle.store_state.specs.Contents.{held_key}
use Rattle.store_state.proofs.KeyOrder.{content_key_total}
use Rattle.store_state.proofs.content_key.sort_contents.Goals as goal

pub returns-clause-sorted : goal.returns-clause-sorted
returns-clause-sorted c =
    c.sort_unstable_by.ensures.sorted
    (λ (a b : ℕ). is_lt
    (option_cmp content_key_cmp (slice_get (map held_key c.args.contents.now) a)
    (slice_get (map held_key c.args.contents.now) b)))
    (ranks_by (options_total content_key_total) (slice_get (map held_key c.args.contents.now)))
    (always_returns_same _ _ _ (λ a r f called. search rules))
