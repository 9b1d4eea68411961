-- What a step costs.
use Rattle.std.proofs.Common.{◌≡◌, ◌+◌, ◌≤◌, ℕ, Bool, true, false, Result, Err, subst, arith}
use Rattle.disks.specs.declared.disk.Disk.{Ghosts}
use Rattle.disks.specs.Spends.{Spends}
use Rattle.disks.proofs.Books.{spends_as, spends_none, spends_then, spends_within}
use Rattle.journal.specs.Log.{calls_of, closing_of}
use Rattle.table_log.specs.declared.fault.StepFault.{StepFault}
use Rattle.table_log.specs.declared.fault.StepFault.TheVariants.{DiskFault, Memory}

few_calls : (both : Bool) → calls_of both ≤ 6
few_calls true = omega arith
few_calls false = omega arith

one_byte : (both : Bool) → closing_of both ≤ 1
one_byte true = omega arith
one_byte false = omega arith

module _ {D : Type 0} (on : Ghosts D) where
  -- a checkpoint
  pub spends_begin : (both : Bool) (size : ℕ) (old new : D) (fault other : Type 0) → (fault → other) → (other → fault) → Spends on (calls_of both) (size + closing_of both) old new fault → Spends on 6 (size + 1) old new other
  spends_begin both size old new fault other to from spends =
      let calls = few_calls both in
      let closing = one_byte both in
      spends_within on (calls_of both) (size + closing_of both) 6 (size + 1) old new other (omega (arith, calls)) (omega (arith, closing)) (spends_as on _ _ old new fault other to from spends)

  -- one that failed, and no more
  pub spends_begun : (size more : ℕ) (old new : D) (fault other : Type 0) → (fault → other) → (other → fault) → Spends on 6 (size + 1) old new fault → Spends on 10 (size + 1 + more) old new other
  spends_begun size more old new fault other to from spends =
      spends_within on 6 (size + 1) 10 (size + 1 + more) old new other (omega arith) (omega arith) (spends_as on _ _ old new fault other to from spends)

  -- one that did not, and an append
  pub spends_both : (size more : ℕ) (old mid new : D) (fault other : Type 0) → (fault → ⊥) → Spends on 6 (size + 1) old mid fault → Spends on 4 more mid new other → Spends on 10 (size + 1 + more) old new other
  spends_both size more old mid new fault other none first second =
      spends_within on (6 + 4) (size + 1 + more) 10 (size + 1 + more) old new other (omega arith) (omega arith)
      (spends_then on 6 (size + 1) 4 more old mid new other (spends_as on _ _ old mid fault ⊥ none (λ no. absurd no) first) second)

  -- no call was made
  pub spends_nothing : {T : Type 0} (calls bytes : ℕ) (disk : D) → Spends on calls bytes disk disk (◌≡◌ {A = Result T StepFault} (Err Memory) (Err DiskFault))
  spends_nothing {T = T} calls bytes disk = spends_within on 0 0 calls bytes disk disk (◌≡◌ {A = Result T StepFault} (Err Memory) (Err DiskFault)) (omega arith) (omega arith)
      (spends_as on 0 0 disk disk ⊥ (◌≡◌ {A = Result T StepFault} (Err Memory) (Err DiskFault)) (λ no. absurd no) (λ e. absurd (cc)) (spends_none on disk))

  -- the same bytes by another name
  pub spends_bytes : (calls n m : ℕ) (old new : D) (fault : Type 0) → n ≡ m → Spends on calls n old new fault → Spends on calls m old new fault
  spends_bytes calls n m old new fault same spends = subst (λ (k : ℕ). Spends on calls k old new fault) same spends
