-- What one call of a disk costs, and several one after another.
use Rattle.std.proofs.Common.{◌≡◌, ◌⊎◌, ℕ, ◌+◌, ◌≤◌, Result, Ok, Err, IsOk, IsErr, inl, inr, refl, ◌∙◌, subst, arith}
use Rattle.outside.specs.Streams.{Causes, Rose}
use Rattle.disks.specs.Disk.{IsStill, Ticks}
use Rattle.disks.specs.Spends.{HasNoNumber, Spends}
use Rattle.disks.specs.declared.disk.Disk.{Ghosts}

-- a call that was not done was counted, or there was no number left for it
pub counted_or_full : {T E : Type 0} (old new total_old total_new n m : ℕ) (result : Result T E) → n ≤ m → Ticks old new total_old total_new n result
    → (old + 1 ≤ new) ⊎ HasNoNumber new total_new m
counted_or_full old new total_old total_new n m result few ticks = elim ticks.exact [
  | inl counted ↦ inl (omega (arith, counted.0))
  | inr full ↦ inr (elim full.2 [
    | inl last ↦ inl (omega (arith, full.0, last))
    | inr much ↦ inr (omega (arith, full.1, much, few))
  ])
]

-- the bytes that a call was handed are counted, or none are
total_within : {T E : Type 0} (old new total_old total_new n : ℕ) (result : Result T E) → Ticks old new total_old total_new n result
    → (total_old ≤ total_new) × (total_new ≤ total_old + n)
total_within old new total_old total_new n result ticks = elim ticks.exact [
  | inl counted ↦ (omega (arith, counted.1), omega (arith, counted.1))
  | inr full ↦ (omega (arith, full.1), omega (arith, full.1))
]

-- where the call failed the count of faults rose, and else it stays
fault_counted : {T E : Type 0} (old new : ℕ) (result : Result T E) → Causes old new result → (IsErr result → Rose old new) × ((IsErr result → ⊥) → new ≡ old)
fault_counted old new (Ok x) causes = (λ is. absurd (let no = is in cc), λ _. causes.quiet)
fault_counted old new (Err e) causes = (λ _. causes.rose, λ none. absurd (none refl))

module _ {D : Type 0} (on : Ghosts D) where
  -- one call that may change the disk
  pub call_spends : {T E : Type 0} (n : ℕ) (old new : D) (result : Result T E) → Ticks (on.moment old) (on.moment new) (on.total old) (on.total new) n result
      → (on.tells new → on.tells old) → Causes (on.count old) (on.count new) result → Spends on 1 n old new (IsErr result)
  call_spends n old new result ticks told causes =
      let total = total_within (on.moment old) (on.moment new) (on.total old) (on.total new) n result ticks in
      let faults = fault_counted (on.count old) (on.count new) result causes in
      record {
        told = told;
        later = ticks.later;
        within = ticks.once;
        total_later = total.0;
        total_within = total.1;
        count = causes.later;
        cause = faults.0;
        quiet = faults.1;
      }

  -- one that only reads
  pub read_spends : {T E : Type 0} (old new : D) (result : Result T E) → IsStill (on.moment old) (on.moment new) (on.total old) (on.total new)
      → (on.tells new → on.tells old) → Causes (on.count old) (on.count new) result → Spends on 0 0 old new (IsErr result)
  read_spends old new result still told causes =
      let faults = fault_counted (on.count old) (on.count new) result causes in
      record {
        told = told;
        later = omega (arith, still.moment);
        within = omega (arith, still.moment);
        total_later = omega (arith, still.total);
        total_within = omega (arith, still.total);
        count = causes.later;
        cause = faults.0;
        quiet = faults.1;
      }

  -- no call
  pub spends_none : (disk : D) → Spends on 0 0 disk disk ⊥
  spends_none disk = record {
    told = λ tells. tells;
    later = omega arith;
    within = omega arith;
    total_later = omega arith;
    total_within = omega arith;
    count = omega arith;
    cause = λ no. absurd no;
    quiet = λ _. refl;
  }

  -- calls after calls of which none failed
  pub spends_then : (calls bytes more_calls more_bytes : ℕ) (old mid new : D) (fault : Type 0) → Spends on calls bytes old mid ⊥ → Spends on more_calls more_bytes mid new fault
      → Spends on (calls + more_calls) (bytes + more_bytes) old new fault
  spends_then calls bytes more_calls more_bytes old mid new fault first second =
      let same = first.quiet (λ no. no) in
      record {
        told = λ tells. first.told (second.told tells);
        later = omega (arith, first.later, second.later);
        within = omega (arith, first.within, second.within);
        total_later = omega (arith, first.total_later, second.total_later);
        total_within = omega (arith, first.total_within, second.total_within);
        count = omega (arith, first.count, second.count);
        cause = λ is. subst (λ (n : ℕ). Rose n (on.count new)) same (second.cause is);
        quiet = λ none. second.quiet none ∙ same;
      }

  -- no more than a greater number
  pub spends_within : (calls bytes most_calls most_bytes : ℕ) (old new : D) (fault : Type 0) → calls ≤ most_calls → bytes ≤ most_bytes → Spends on calls bytes old new fault
      → Spends on most_calls most_bytes old new fault
  spends_within calls bytes most_calls most_bytes old new fault few_calls few_bytes spends = record {
    told = spends.told;
    later = spends.later;
    within = omega (arith, spends.within);
    total_later = spends.total_later;
    total_within = omega (arith, spends.total_within);
    count = spends.count;
    cause = spends.cause;
    quiet = spends.quiet;
  }

  -- the same fault by another name
  pub spends_as : (calls bytes : ℕ) (old new : D) (fault other : Type 0) → (fault → other) → (other → fault) → Spends on calls bytes old new fault → Spends on calls bytes old new other
  spends_as calls bytes old new fault other to from spends = record {
    told = spends.told;
    later = spends.later;
    within = spends.within;
    total_later = spends.total_later;
    total_within = spends.total_within;
    count = spends.count;
    cause = λ is. spends.cause (from is);
    quiet = λ none. spends.quiet (λ is. none (to is));
  }

  -- calls of which none failed
  pub none_failed : {T E : Type 0} (calls bytes : ℕ) (old new : D) (result : Result T E) → IsOk result → Spends on calls bytes old new (IsErr result) → Spends on calls bytes old new ⊥
  none_failed calls bytes old new (Err e) is spends = absurd (let no = is in cc)
  none_failed calls bytes old new (Ok x) is spends = spends_as calls bytes old new _ ⊥ (λ err. let no = err in cc) (λ no. absurd no) spends

  -- what it says of the answer alone
  pub causes_of : {T E : Type 0} (calls bytes : ℕ) (old new : D) (result : Result T E) → Spends on calls bytes old new (IsErr result) → Causes (on.count old) (on.count new) result
  causes_of calls bytes old new (Ok x) spends = record { later = spends.count; rose = tt; quiet = spends.quiet (λ is. cc) }
  causes_of calls bytes old new (Err e) spends = record { later = spends.count; rose = spends.cause refl; quiet = tt }

  -- calls that write nothing
  pub no_bytes : (calls : ℕ) (old new : D) (fault : Type 0) → Spends on calls 0 old new fault → on.total new ≡ on.total old
  no_bytes calls old new fault spends = omega (arith, spends.total_later, spends.total_within)

  -- calls that only read
  pub no_calls : (bytes : ℕ) (old new : D) (fault : Type 0) → Spends on 0 bytes old new fault → on.moment new ≡ on.moment old
  no_calls bytes old new fault spends = omega (arith, spends.later, spends.within)
