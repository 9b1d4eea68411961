-- A range in a longer one, and two runs of writes one after another.
use Rattle.std.proofs.Common.{◌≡◌, ℕ, ◌+◌, ◌-◌, ◌≤◌, List, drop, sym, ◌∙◌, ap, subst, arith}
use Rattle.std.proofs.lemmas.List.{drop-drop}
use Rattle.disks.specs.declared.disk.Disk.{Ghosts}
use Rattle.disks.specs.Moments.{LeavesOnly}
use Rattle.disks.proofs.MomentLemmas.{then_on, weaker}
use Rattle.disks.specs.Outside.{AgreesOutside, IsOldOutside}
use Rattle.disks.proofs.OutsideLemmas.{agrees_then}

-- a shorter range in a longer one
pub agrees_wider : (place n m : ℕ) (a b : List ℕ) → n ≤ m → AgreesOutside place n a b → AgreesOutside place m a b
agrees_wider place n m a b more agrees =
    let whole : (place + n) + (m - n) ≡ place + m = omega (arith, more) in
    record {
      before = agrees.before;
      after = sym (drop-drop (m - n) (place + n) b ∙ ap (λ (k : ℕ). drop k b) whole) ∙ ap (drop (m - n)) agrees.after ∙ drop-drop (m - n) (place + n) a ∙ ap (λ (k : ℕ). drop k a) whole;
    }

-- one run outside a range after another
pub outside_then : {D : Type 0} (on : Ghosts D) (place n m : ℕ) (old mid new : D) → n ≤ m → LeavesOnly on old mid (IsOldOutside place n (on.left_at old (on.moment old)))
    → LeavesOnly on mid new (IsOldOutside place m (on.left_at mid (on.moment mid))) → LeavesOnly on old new (IsOldOutside place m (on.left_at old (on.moment old)))
outside_then on place n m old mid new more first second =
    then_on on old mid new (IsOldOutside place m (on.left_at old (on.moment old)))
    (weaker on old mid _ _ (λ c old. (old.0, old.1, agrees_wider place n m old.0 c more old.2)) first)
    (weaker on mid new _ _ (λ c late. let early = first.each (on.moment mid) late.0 first.later (omega arith) late.1 in
    (early.0, early.1, agrees_then place m early.0 late.0 c (agrees_wider place n m early.0 late.0 more early.2) late.2)) second)

-- where a half begins, and how long a piece is, as the calls have them
module _ (place q n m : ℕ) (is_place : place ≡ q) (size : n ≡ m) (some : 1 ≤ m) where
  pub outside_first : {D : Type 0} (on : Ghosts D) (old mid : D) → LeavesOnly on old mid (IsOldOutside place 1 (on.left_at old (on.moment old))) → LeavesOnly on old mid (IsOldOutside q m (on.left_at old (on.moment old)))
  outside_first on old mid first = weaker on old mid _ _
      (λ c from. (from.0, from.1, subst (λ (k : ℕ). AgreesOutside k m from.0 c) is_place (agrees_wider place 1 m from.0 c some from.2))) first

  pub outside_both : {D : Type 0} (on : Ghosts D) (old mid new : D) → LeavesOnly on old mid (IsOldOutside place 1 (on.left_at old (on.moment old)))
      → LeavesOnly on mid new (IsOldOutside place n (on.left_at mid (on.moment mid))) → LeavesOnly on old new (IsOldOutside q m (on.left_at old (on.moment old)))
  outside_both on old mid new first second =
      subst (λ (k : ℕ). LeavesOnly on old new (IsOldOutside k m (on.left_at old (on.moment old)))) is_place
      (outside_then on place 1 m old mid new some first (subst (λ (k : ℕ). LeavesOnly on mid new (IsOldOutside place k (on.left_at mid (on.moment mid)))) size second))

  pub reads_first : (a b : List ℕ) → AgreesOutside place 1 a b → AgreesOutside q m a b
  reads_first a b first = subst (λ (k : ℕ). AgreesOutside k m a b) is_place (agrees_wider place 1 m a b some first)

  pub reads_both : (a b c : List ℕ) → AgreesOutside place 1 a b → AgreesOutside place n b c → AgreesOutside q m a c
  reads_both a b c first second =
      subst (λ (k : ℕ). AgreesOutside k m a c) is_place (agrees_then place m a b c (agrees_wider place 1 m a b some first) (subst (λ (k : ℕ). AgreesOutside place k b c) size second))
