-- What stands behind the halves, where only ranges before it were written.
use Rattle.std.proofs.Common.{◌≡◌, ℕ, ◌+◌, ◌-◌, ◌≤◌, min, List, length, take, drop, sym, ◌∙◌, ap, arith}
use Rattle.std.proofs.lemmas.List.{drop-drop}
use Rattle.disks.specs.declared.disk.Disk.{Ghosts}
use Rattle.disks.specs.Moments.{LeavesOnly}
use Rattle.disks.specs.Outside.{AgreesOutside, IsOldOutside}
use Rattle.disks.proofs.MomentLemmas.{started, then_on, weaker}
use Rattle.disks.proofs.OutsideLemmas.{agrees_same, agrees_then}
use Rattle.small_types.specs.Blocks.{blocks_start}
use Rattle.table_log.specs.MakesDurable.{AgreesBehind, IsOldBehind}

take_none : (n : ℕ) (b : List ℕ) → n ≡ 0 → take n b ≡ take 0 b
take_none n b none = ap (λ (k : ℕ). take k b) none

-- a range before a place
pub agrees_behind : (place n half : ℕ) (a b : List ℕ) → place + n ≤ blocks_start half → AgreesOutside place n a b → AgreesBehind half a b
agrees_behind place n half a b within agrees =
    let rest = blocks_start half - (place + n) in
    let whole : (place + n) + rest ≡ 0 + blocks_start half = omega (arith, within) in
    record {
      before = take_none (min 0 (length a)) b (omega arith);
      after = ap (λ (m : ℕ). drop m b) (sym whole) ∙ sym (drop-drop rest (place + n) b) ∙ ap (drop rest) agrees.after ∙ drop-drop rest (place + n) a ∙ ap (λ (m : ℕ). drop m a) whole;
    }

module _ {D : Type 0} (on : Ghosts D) where
  pub old_behind : (place n half : ℕ) (old new : D) → place + n ≤ blocks_start half → LeavesOnly on old new (IsOldOutside place n (on.left_at old (on.moment old))) → LeavesOnly on old new (IsOldBehind half (on.left_at old (on.moment old)))
  old_behind place n half old new within run = weaker on old new _ _ (λ c from. (from.0, from.1, agrees_behind place n half from.0 c within from.2)) run

  -- nothing was written
  pub behind_start : (half : ℕ) (disk : D) → LeavesOnly on disk disk (IsOldBehind half (on.left_at disk (on.moment disk)))
  behind_start half disk = started on disk _ (λ c left. (c, left, agrees_same 0 (blocks_start half) c))

  -- one run after another
  pub behind_then : (half : ℕ) (old mid new : D) → LeavesOnly on old mid (IsOldBehind half (on.left_at old (on.moment old))) → LeavesOnly on mid new (IsOldBehind half (on.left_at mid (on.moment mid))) → LeavesOnly on old new (IsOldBehind half (on.left_at old (on.moment old)))
  behind_then half old mid new first second = then_on on old mid new _ first (weaker on mid new _ _ on_from second)
    where
      on_from : (c : List ℕ) → IsOldBehind half (on.left_at mid (on.moment mid)) c → IsOldBehind half (on.left_at old (on.moment old)) c
      on_from c from =
          let was = first.each (on.moment mid) from.0 first.later (omega arith) from.1 in
          (was.0, was.1, agrees_then 0 (blocks_start half) was.0 from.0 c was.2 from.2)
