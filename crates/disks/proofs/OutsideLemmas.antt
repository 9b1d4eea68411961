-- What writes into a range leave outside it.
use Rattle.std.proofs.Common.{◌≡◌, ℕ, ◌+◌, ◌-◌, ◌≤◌, min, List, length, take, drop, refl, sym, ◌∙◌, ap, subst, arith, length-take}
use Rattle.std.proofs.lemmas.List.{take-take, drop-drop, take_min}
use Rattle.disks.specs.Disk.{Torn, Follows, Elapses}
use Rattle.disks.specs.declared.disk.Disk.{Ghosts}
use Rattle.disks.specs.Moments.{LeavesOnly}
use Rattle.disks.proofs.MomentLemmas.{started, goes_on}
use Rattle.disks.specs.Outside.{AgreesOutside, IsOldOutside}

module _ (place n : ℕ) where
  pub agrees_same : (d : List ℕ) → AgreesOutside place n d d
  agrees_same d = record { before = take_min place d; after = refl }

  pub agrees_then : (a b c : List ℕ) → AgreesOutside place n a b → AgreesOutside place n b c → AgreesOutside place n a c
  agrees_then a b c first second =
      let k = min place (length a) in
      let low : k ≤ place = omega arith in
      let size : min k (length b) ≡ min place (length a) = sym (length-take k b) ∙ ap length first.before ∙ length-take place a in
      let both : k ≤ min place (length b) = omega (arith, size, low) in
      record {
        before = sym (take-take k (min place (length b)) c both) ∙ ap (take k) second.before ∙ take-take k place b low ∙ first.before;
        after = second.after ∙ first.after;
      }

  pub agrees_is : (a b c : List ℕ) → AgreesOutside place n a b → c ≡ b → AgreesOutside place n a c
  agrees_is a b c agrees is = subst (λ (l : List ℕ). AgreesOutside place n a l) (sym is) agrees

  -- a write inside the range
  pub torn_agrees : (from size : ℕ) (a b : List ℕ) → place ≤ from → from + size ≤ place + n → Torn from size a b → AgreesOutside place n a b
  torn_agrees from size a b low high torn =
      let k = min place (length a) in
      let below : k ≤ from = omega (arith, low) in
      let both : k ≤ min from (length a) = omega (arith, low) in
      let rest = (place + n) - (from + size) in
      let whole : (from + size) + rest ≡ place + n = omega (arith, high) in
      record {
        before = sym (take-take k (min from (length a)) b both) ∙ ap (take k) torn.before ∙ take-take k from a below ∙ take_min place a;
        after = sym (drop-drop rest (from + size) b ∙ ap (λ (m : ℕ). drop m b) whole) ∙ ap (drop rest) torn.after ∙ drop-drop rest (from + size) a ∙ ap (λ (m : ℕ). drop m a) whole;
      }

module _ {D : Type 0} (on : Ghosts D) (place n : ℕ) (first : D) where
  abbrev Now : D → List ℕ → Type 0
  Now d c = on.left_at d (on.moment d) c

  -- a call of the disk, as time sees it
  abbrev Call : D → D → Type 0
  Call old new = (on.moment old ≤ on.moment new) × (on.moment new ≤ on.moment old + 1) × Elapses (on.moment old) (on.left_at old) (on.left_at new)

  -- up to this disk each image agrees with a first one outside the range
  abbrev Outside : D → Type 0
  Outside d = LeavesOnly on first d (IsOldOutside place n (Now first))

  pub outside_start : Outside first
  outside_start = started on first (IsOldOutside place n (Now first)) (λ c left. (c, left, agrees_same place n c))

  now : (mid : D) (c : List ℕ) → Outside mid → Now mid c → IsOldOutside place n (Now first) c
  now mid c run left = run.each (on.moment mid) c run.later (omega arith) left

  pub outside_write : (mid new : D) (from size : ℕ) → place ≤ from → from + size ≤ place + n → Outside mid → Follows (Torn from size) (Now mid) (Now new) → Call mid new → Outside new
  outside_write mid new from size low high run follows call =
      goes_on on first mid new (IsOldOutside place n (Now first)) run call.0 call.1 call.2 (λ c left.
      let before = follows c left in
      let old = now mid before.0 run before.1 in
      (old.0, old.1, agrees_then place n old.0 before.0 c old.2 (torn_agrees place n from size before.0 c low high before.2)))

  pub outside_sync : (mid new : D) → Outside mid → ((c : List ℕ) → Now new c → Now mid c) → Call mid new → Outside new
  outside_sync mid new run fewer call =
      goes_on on first mid new (IsOldOutside place n (Now first)) run call.0 call.1 call.2 (λ c left. now mid c run (fewer c left))
