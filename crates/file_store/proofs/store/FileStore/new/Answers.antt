use Rattle.std.proofs.Common.{◌≡◌, ◌+◌, ◌<◌, ℕ, List, ◌++◌, length, reverse, All, arith, sym, ◌∙◌, ap, subst}
use Rattle.small_types.specs.Blocks.{AreApart}
use Rattle.file_store.specs.Marks.{unmarked_from}
use Rattle.file_store.proofs.MarkedBlocks.{free_apart, free_below, free_count, free_others}
use Rattle.file_store.proofs.store.FileStore.new.Goals as goal

pub invariant_of-result : goal.invariant_of-result
invariant_of-result c =
    let taken = c.as_slice.result.now in
    let free = c.in_ok-free.free.items in
    let marks = c.in_ok-marks.marks.items in
    let same : c.deref.result.now ≡ c.in_ok-marks.marks.items = c.deref.ensures.value in
    let is_free : reverse c.in_ok-free.free.items ≡ unmarked_from 0 c.in_ok-marks.marks.items = c.in_ok-free.ensures.blocks ∙ ap (unmarked_from 0) same in
    let below : All (λ b. b < c.args.blocks) c.as_slice.result.now = subst (All (λ b. b < c.args.blocks)) (sym c.as_slice.ensures) c.requires.within in
    let apart : AreApart c.as_slice.result.now = subst AreApart (sym c.as_slice.ensures) c.requires.apart in
    record {
      limit = c.requires.limit;
      base_limit = c.requires.base;
      room = omega (arith, c.in_ok-free.ensures.room, ap length same, c.in_ok-marks.ensures.count);
      below = free_below free taken marks c.args.blocks is_free c.in_ok-marks.ensures.count c.in_ok-marks.ensures.marked c.in_ok-marks.ensures.only below apart;
      apart = free_apart free taken marks c.args.blocks is_free c.in_ok-marks.ensures.count c.in_ok-marks.ensures.marked c.in_ok-marks.ensures.only below apart;
    }

pub returns-clause-used : goal.returns-clause-used
returns-clause-used c =
    let taken = c.as_slice.result.now in
    let free = c.in_ok-free.free.items in
    let marks = c.in_ok-marks.marks.items in
    let same : c.deref.result.now ≡ c.in_ok-marks.marks.items = c.deref.ensures.value in
    let is_free : reverse c.in_ok-free.free.items ≡ unmarked_from 0 c.in_ok-marks.marks.items = c.in_ok-free.ensures.blocks ∙ ap (unmarked_from 0) same in
    let below : All (λ b. b < c.args.blocks) c.as_slice.result.now = subst (All (λ b. b < c.args.blocks)) (sym c.as_slice.ensures) c.requires.within in
    let apart : AreApart c.as_slice.result.now = subst AreApart (sym c.as_slice.ensures) c.requires.apart in
    record {
      within = c.requires.within;
      apart = subst (λ (l : List ℕ). AreApart (l ++ reverse free)) c.as_slice.ensures (free_others free taken marks c.args.blocks is_free c.in_ok-marks.ensures.count c.in_ok-marks.ensures.marked c.in_ok-marks.ensures.only below apart);
    }

pub returns-clause-count : goal.returns-clause-count
returns-clause-count c =
    let taken = c.as_slice.result.now in
    let free = c.in_ok-free.free.items in
    let marks = c.in_ok-marks.marks.items in
    let same : c.deref.result.now ≡ c.in_ok-marks.marks.items = c.deref.ensures.value in
    let is_free : reverse c.in_ok-free.free.items ≡ unmarked_from 0 c.in_ok-marks.marks.items = c.in_ok-free.ensures.blocks ∙ ap (unmarked_from 0) same in
    let below : All (λ b. b < c.args.blocks) c.as_slice.result.now = subst (All (λ b. b < c.args.blocks)) (sym c.as_slice.ensures) c.requires.within in
    let apart : AreApart c.as_slice.result.now = subst AreApart (sym c.as_slice.ensures) c.requires.apart in
    subst (λ (l : List ℕ). length l + length (reverse free) ≡ c.args.blocks) c.as_slice.ensures (free_count free taken marks c.args.blocks is_free c.in_ok-marks.ensures.count c.in_ok-marks.ensures.marked c.in_ok-marks.ensures.only below apart)
