-- What a run of writes costs the disk.
use Rattle.std.proofs.Common.{◌≡◌, ℕ, ◌+◌, ◌-◌, ◌/◌, ◌%◌, ◌<◌, ◌≤◌, ◌⊎◌, Result, Ok, Err, IsErr, IsOk, refl, subst, ◌∙◌, arith, inl, inr}
use Rattle.std.proofs.lemmas.Bool.{cases_lt}
use Rattle.outside.specs.Streams.{Rose}
use Rattle.disks.specs.Disk.{Ticks}
use Rattle.disks.specs.Spends.{Spends}
use Rattle.disks.specs.declared.disk.Disk.{Ghosts}
use Rattle.file_store.specs.Writes.{touched}

-- the calls so far, where each but the last one ends with a block
pub record Calls (from done size first now : ℕ) : Type 0 where
  pub within : now + from / 4096 ≤ first + (from + done + 4095) / 4096
  pub none : done ≡ 0 → now ≡ first
  pub end : 0 < done → done < size → (from + done) % 4096 ≡ 0

pub calls_start : (from size first : ℕ) → Calls from 0 size first first
calls_start from size first = record { within = omega arith; none = λ _. refl; end = λ some. absurd (omega arith) }

module _ (from done n size first mid new : ℕ) (calls : Calls from done size first mid) (once : new ≤ mid + 1) (some : 0 < n) (fits : done + n ≤ size) where
  reached : new + from / 4096 ≤ first + (from + (done + n) + 4095) / 4096
  reached = by (cases_lt 0 done)
    where
      by : (0 < done) ⊎ (done ≤ 0) → new + from / 4096 ≤ first + (from + (done + n) + 4095) / 4096
      by (inl before) =
          let whole : (from + done) % 4096 ≡ 0 = calls.end before (omega arith) in
          omega (arith, whole, calls.within, once)
      by (inr start) =
          let same : mid ≡ first = calls.none (omega arith) in
          omega (arith, same, once)

  -- one call more, whatever its end
  pub few : new ≤ first + touched from size
  few = omega (arith, reached)

  pub calls_more : (n < size - done → (from + done + n) % 4096 ≡ 0) → Calls from (done + n) size first new
  calls_more end = record {
    within = reached;
    none = λ no. absurd (omega arith);
    end = λ _ short.
        let whole : (from + done + n) % 4096 ≡ 0 = end (omega arith) in
        let same : from + (done + n) ≡ from + done + n = omega arith in
        omega (arith, whole, same);
  }

-- once all is written
pub all_few : (from size first now : ℕ) → first ≤ now → Calls from size size first now → now ≤ first + touched from size
all_few from size first now later calls = by (cases_lt 0 size)
  where
    by : (0 < size) ⊎ (size ≤ 0) → now ≤ first + touched from size
    by (inl some) = omega (arith, calls.within)
    by (inr empty) = omega (arith, calls.none (omega arith))

module _ {D : Type 0} (on : Ghosts D) where
  -- no call failed so far
  pub record Goes (old new : D) : Type 0 where
    pub told : on.tells new → on.tells old
    pub later : on.moment old ≤ on.moment new
    pub count : on.count new ≡ on.count old

  pub goes_start : (disk : D) → Goes disk disk
  goes_start disk = record { told = λ tells. tells; later = omega arith; count = refl }

  pub goes_more : {T E : Type 0} (n : ℕ) (first mid new : D) (result : Result T E) → Goes first mid → Ticks (on.moment mid) (on.moment new) (on.total mid) (on.total new) n result
      → (on.tells new → on.tells mid) → on.count new ≡ on.count mid → Goes first new
  goes_more n first mid new result before ticks told quiet = record {
    told = λ tells. before.told (told tells);
    later = omega (arith, before.later, ticks.later);
    count = quiet ∙ before.count;
  }

  -- and then one did
  pub spent_ill : {T E U F : Type 0} (calls bytes done n : ℕ) (first mid new : D) (result : Result T E) (answer : Result U F) → Goes first mid → Ticks (on.moment mid) (on.moment new) (on.total mid) (on.total new) n result
      → (on.tells new → on.tells mid) → on.count mid ≤ on.count new → Rose (on.count mid) (on.count new) → IsErr answer
      → on.total mid ≡ on.total first + done → done + n ≤ bytes → on.moment new ≤ on.moment first + calls → Spends on calls bytes first new (IsErr answer)
  spent_ill calls bytes done n first mid new result answer before ticks told more rose is total fits within =
      let handed = elim ticks.exact as (λ _. (on.total mid ≤ on.total new) × (on.total new ≤ on.total mid + n)) [
        | inl counted ↦ (omega (arith, counted.1), omega (arith, counted.1))
        | inr full ↦ (omega (arith, full.1), omega (arith, full.1))
      ] in
      record {
        told = λ tells. before.told (told tells);
        later = omega (arith, before.later, ticks.later);
        within = within;
        total_later = omega (arith, total, handed.0);
        total_within = omega (arith, total, handed.1, fits);
        count = omega (arith, before.count, more);
        cause = λ _. subst (λ (k : ℕ). Rose k (on.count new)) before.count rose;
        quiet = λ none. absurd (none is);
      }

  -- none did
  pub spent_well : {T E : Type 0} (calls bytes : ℕ) (first new : D) (result : Result T E) → Goes first new → IsOk result
      → on.total new ≡ on.total first + bytes → on.moment new ≤ on.moment first + calls → Spends on calls bytes first new (IsErr result)
  spent_well calls bytes first new (Err e) goes is total within = absurd (let no = is in cc)
  spent_well calls bytes first new (Ok value) goes is total within = record {
    told = goes.told;
    later = goes.later;
    within = within;
    total_later = omega (arith, total);
    total_within = omega (arith, total);
    count = omega (arith, goes.count);
    cause = λ err. absurd (let no = err in cc);
    quiet = λ _. goes.count;
  }
