-- What stops leave over a run of disk calls, call by call.
use Rattle.std.proofs.Common.{◌≡◌, ◌⊎◌, ℕ, ◌+◌, ◌<◌, ◌≤◌, List, inl, inr, subst, refl, ◌∙◌, arith}
use Rattle.disks.specs.Disk.{Elapses}
use Rattle.disks.specs.declared.disk.Disk.{Ghosts}
use Rattle.disks.specs.Moments.{LeavesOnly, Each, Untouched}

module _ {D : Type 0} (on : Ghosts D) where
  -- before the first call
  pub started : (old : D) (P : List ℕ → Type 0) → Each on old P → LeavesOnly on old old P
  started old P here = record {
    later = omega arith;
    past = λ t c le left. left;
    each = λ t c from to left. here c (let now : t ≡ on.moment old = omega arith in subst (λ (n : ℕ). on.left_at old n c) now left);
  }

  -- one call more
  pub goes_on : (old mid new : D) (P : List ℕ → Type 0) → LeavesOnly on old mid P → on.moment mid ≤ on.moment new → on.moment new ≤ on.moment mid + 1
      → Elapses (on.moment mid) (on.left_at mid) (on.left_at new) → Each on new P → LeavesOnly on old new P
  goes_on old mid new P so_far later once time here = record {
    later = omega (arith, so_far.later);
    past = λ t c le left. so_far.past t c le (time.same t c (omega (arith, so_far.later)) left);
    each = λ t c from to left. each t c from to left (late t);
  }
    where
      late : (t : ℕ) → (t ≤ on.moment mid) ⊎ (on.moment mid < t)
      late t = grind arith

      each : (t : ℕ) (c : List ℕ) → on.moment old ≤ t → t ≤ on.moment new → on.left_at new t c → (t ≤ on.moment mid) ⊎ (on.moment mid < t) → P c
      each t c from to left (inl early) = so_far.each t c from early (time.same t c early left)
      each t c from to left (inr after) = here c (let now : t ≡ on.moment new = omega arith in subst (λ (n : ℕ). on.left_at new n c) now left)

  -- one run after another
  pub then_on : (old mid new : D) (P : List ℕ → Type 0) → LeavesOnly on old mid P → LeavesOnly on mid new P → LeavesOnly on old new P
  then_on old mid new P first second = record {
    later = omega (arith, first.later, second.later);
    past = λ t c le left. first.past t c le (second.past t c (omega (arith, first.later)) left);
    each = λ t c from to left. each t c from to left (late t);
  }
    where
      late : (t : ℕ) → (t ≤ on.moment mid) ⊎ (on.moment mid < t)
      late t = grind arith

      each : (t : ℕ) (c : List ℕ) → on.moment old ≤ t → t ≤ on.moment new → on.left_at new t c → (t ≤ on.moment mid) ⊎ (on.moment mid < t) → P c
      each t c from to left (inl early) = first.each t c from early (second.past t c early left)
      each t c from to left (inr after) = second.each t c (omega arith) to left

  pub weaker : (old new : D) (P Q : List ℕ → Type 0) → ((c : List ℕ) → P c → Q c) → LeavesOnly on old new P → LeavesOnly on old new Q
  weaker old new P Q implies run = record { later = run.later; past = run.past; each = λ t c from to left. implies c (run.each t c from to left) }

module _ {D : Type 0} (on : Ghosts D) where
  pub untouched_start : (disk : D) → Untouched on disk disk
  untouched_start disk = record { no_tick = refl; same_reads = refl; time = record { same = λ t c le left. left; keeps = λ t c le left. left } }

  pub untouched_more : (old mid new : D) → Untouched on old mid → Untouched on mid new → Untouched on old new
  untouched_more old mid new first second = record {
    no_tick = second.no_tick ∙ first.no_tick;
    same_reads = second.same_reads ∙ first.same_reads;
    time = record {
      same = λ t c le left. first.time.same t c le (second.time.same t c (omega (arith, first.no_tick)) left);
      keeps = λ t c le left. second.time.keeps t c (omega (arith, first.no_tick)) (first.time.keeps t c le left);
    };
  }

  pub reads_on : (old mid new : D) (P : List ℕ → Type 0) → LeavesOnly on old mid P → Untouched on mid new → LeavesOnly on old new P
  reads_on old mid new P run still = record {
    later = omega (arith, run.later, still.no_tick);
    past = λ t c le left. run.past t c le (still.time.same t c (omega (arith, run.later)) left);
    each = λ t c from to left. let early : t ≤ on.moment mid = omega (arith, still.no_tick) in run.each t c from early (still.time.same t c early left);
  }

  pub each_still : (old new : D) (P : List ℕ → Type 0) → Each on old P → Untouched on old new → Each on new P
  each_still old new P each still c left =
      let le : on.moment new ≤ on.moment old = omega (arith, still.no_tick) in
      each c (subst (λ (t : ℕ). on.left_at old t c) still.no_tick (still.time.same (on.moment new) c le left))
