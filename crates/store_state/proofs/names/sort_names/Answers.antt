use Rattle.std.proofs.Common.{ℕ, rules}
use Rattle.std.specs.Prelude.{slice_get}
use Rattle.std.specs.Cmp.Lexicographic.{options_total}
use Rattle.std.specs.Option.{option_cmp}
use Rattle.std.specs.Ordering.{is_lt}
use Rattle.std.proofs.lemmas.Fn.{always_returns_same}
use Rattle.std.proofs.lemmas.List.Sorted.{ranks_by}
use Rattle.identity.specs.Printed.{text_cmp}
use Rattle.machine.proofs.EntryOrder.{order}
use Rattle.store_state.specs.Named.{names_of}
use Rattle.store_state.proofs.names.sort_names.Goals as goal

pub returns-clause-sorted : goal.returns-clause-sorted
returns-clause-sorted c =
    c.sort_unstable_by.ensures.sorted
    (λ (a b : ℕ). is_lt (option_cmp text_cmp (slice_get (names_of c.args.files.now) a)
    (slice_get (names_of c.args.files.now) b)))
    (ranks_by (options_total order) (slice_get (names_of c.args.files.now)))
    (always_returns_same _ _ _ (λ a r f called. search rules))
