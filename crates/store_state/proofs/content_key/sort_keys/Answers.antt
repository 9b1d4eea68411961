use Rattle.std.proofs.Common.{rules}
use Rattle.std.specs.Ordering.{is_lt}
use Rattle.std.proofs.lemmas.Fn.{always_returns_same}
use Rattle.machine.specs.Views.{ContentKey}
use Rattle.store_state.specs.ContentKeys.{content_key_cmp}
use Rattle.store_state.proofs.KeyOrder.{content_key_total, weak_order}
use Rattle.store_state.proofs.content_key.sort_keys.Goals as goal

pub returns : goal.returns
returns c = record {
  sorted = c.sort_unstable_by.ensures.sorted (λ (x y : ContentKey). is_lt (content_key_cmp x y)) (weak_order content_key_total) (always_returns_same _ _ _ (λ a r f called. search rules));
  same = c.sort_unstable_by.ensures.permutation;
}
