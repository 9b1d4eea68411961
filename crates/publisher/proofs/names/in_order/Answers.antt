use Rattle.std.proofs.Common.{◌≡◌, ℕ, List, sym, subst}
use Rattle.std.specs.Prelude.{IsPermutation}
use Rattle.std.specs.Cmp.Lexicographic.{slice_cmp, nat_list_cmp_total, texts_ties}
use Rattle.std.specs.List.{dedup, IsDistinct}
use Rattle.std.specs.List.Sorted.{IsStrictlySortedBy}
use Rattle.std.specs.Ordering.{nat_cmp}
use Rattle.std.specs.Str.{bytes_eq}
use Rattle.std.proofs.lemmas.List.Filters.{dedup_is}
use Rattle.std.proofs.lemmas.List.Kept.{IsStrictlySortedBy-dedup}
use Rattle.folders.proofs.SortedNames.{all_kept}
use Rattle.publisher.proofs.names.in_order.Goals as goal

pub returns-clause-ascending : goal.returns-clause-ascending
returns-clause-ascending c =
    let sorted = c.sort_unstable.new.self.items in
    let is : c.dedup.new.self.items ≡ dedup bytes_eq sorted = dedup_is bytes_eq sorted c.dedup.new.self.items c.dedup.ensures.filtered in
    subst (IsStrictlySortedBy (slice_cmp nat_cmp)) (sym is) (IsStrictlySortedBy-dedup nat_list_cmp_total texts_ties sorted c.sort_unstable.ensures.sorted)

pub returns-clause-all : goal.returns-clause-all
returns-clause-all c = λ differ.
    let sorted = c.sort_unstable.new.self.items in
    let is : c.dedup.new.self.items ≡ dedup bytes_eq sorted = dedup_is bytes_eq sorted c.dedup.new.self.items c.dedup.ensures.filtered in
    let from : c.into_vec-names.result.items ≡ c.args.names = c.into_vec-names.ensures in
    subst (λ (ns : List (List ℕ)). IsPermutation ns c.dedup.new.self.items) from
    (subst (IsPermutation c.into_vec-names.result.items) (sym is)
    (all_kept c.into_vec-names.result.items sorted (subst (IsDistinct bytes_eq) (sym from) differ) c.sort_unstable.ensures.permutation))
