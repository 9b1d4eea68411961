use Rattle.std.proofs.Common.{Bor, rules}
use Rattle.std.specs.Ordering.{is_lt}
use Rattle.std.proofs.lemmas.Fn.{always_returns_same}
use Rattle.std.proofs.lemmas.List.Sorted.{ranks_by}
use Rattle.manifests.specs.declared.facts.FileEntry.{FileEntry}
use Rattle.machine.specs.Views.{content_key}
use Rattle.store_state.specs.ContentKeys.{content_key_cmp}
use Rattle.store_state.proofs.KeyOrder.{content_key_total}
use Rattle.table_files.proofs.needed_contents.sort_files.Goals as goal

pub returns-clause-order : goal.returns-clause-order
returns-clause-order c =
    c.sort_unstable_by.ensures.sorted
    (λ (a b : Bor FileEntry). is_lt (content_key_cmp (content_key a.now) (content_key b.now)))
    (ranks_by content_key_total (λ (file : Bor FileEntry). content_key file.now))
    (always_returns_same _ _ _ (λ a r f called. search rules))
