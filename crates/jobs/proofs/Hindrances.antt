-- Nothing hinders a new job.
use Rattle.std.proofs.Common.{◌≡◌, ◌⊎◌, ℕ, ◌<◌, ◌≤◌, Bool, true, false, nat_le, nat_lt, if◌then◌else◌, List, length, Option, Some, None, Result, Ok, Err, IfErr, OnErr, sym, ◌∙◌, ap, arith, inl, inr}
use Rattle.std.proofs.lemmas.Bool.{cases_Bool, le-leb, le-ltb, leb-false, lt-leb, lt-ltb}
use Rattle.small_types.specs.declared.limits.TheConstants.{JOB_LIMIT, NUMBER_LIMIT}
use Rattle.file_store.specs.Stores.{free_of}
use Rattle.file_store.specs.declared.store.FileStore.{FileStore}
use Rattle.manifests.specs.declared.facts.FileEntry.{FileEntry}
use Rattle.jobs.specs.NewJobs.{need_for}
use Rattle.jobs.specs.Jobs.{hindrance}
use Rattle.jobs.specs.declared.fault.JobFault.{JobFault}
use Rattle.jobs.specs.declared.fault.JobFault.TheVariants.{Full, JobsFull, Memory, Spent}
use Rattle.jobs.specs.declared.table.JobTable.{JobTable}

pub some_not : {X : Type 0} {P : Type 0} (x : X) (o : Option X) → None ≡ o → o ≡ Some x → P
some_not x o none some = absurd (let is = none ∙ some in cc)

module _ (table : JobTable) (entries : List FileEntry) (left : List ℕ) (store : FileStore) (none : None ≡ hindrance table entries left store) where
  abbrev rest : Option JobFault
  rest = if nat_lt (length (free_of store)) (need_for table.slots.items entries left)
      then Some (Full (need_for table.slots.items entries left) (length (free_of store))) else None

  pub has_room : length table.jobs.items < JOB_LIMIT
  has_room = by (cases_Bool (nat_le JOB_LIMIT (length table.jobs.items)))
    where
      by : (nat_le JOB_LIMIT (length table.jobs.items) ≡ true) ⊎ (nat_le JOB_LIMIT (length table.jobs.items) ≡ false) → length table.jobs.items < JOB_LIMIT
      by (inl full) =
          some_not JobsFull (hindrance table entries left store) none
          (ap (λ (b : Bool). if b then Some JobsFull else (if nat_le NUMBER_LIMIT table.next then Some (Spent table.next) else rest)) full)
      by (inr less) = leb-false JOB_LIMIT (length table.jobs.items) less

  pub has_number : table.next < NUMBER_LIMIT
  has_number = by (cases_Bool (nat_le JOB_LIMIT (length table.jobs.items))) (cases_Bool (nat_le NUMBER_LIMIT table.next))
    where
      by : (nat_le JOB_LIMIT (length table.jobs.items) ≡ true) ⊎ (nat_le JOB_LIMIT (length table.jobs.items) ≡ false) → (nat_le NUMBER_LIMIT table.next ≡ true) ⊎ (nat_le NUMBER_LIMIT table.next ≡ false) → table.next < NUMBER_LIMIT
      by full (inr less) = leb-false NUMBER_LIMIT table.next less
      by (inl full) (inl spent) =
          some_not JobsFull (hindrance table entries left store) none
          (ap (λ (b : Bool). if b then Some JobsFull else (if nat_le NUMBER_LIMIT table.next then Some (Spent table.next) else rest)) full)
      by (inr less) (inl spent) =
          some_not (Spent table.next) (hindrance table entries left store) none
          (ap (λ (b : Bool). if b then Some JobsFull else (if nat_le NUMBER_LIMIT table.next then Some (Spent table.next) else rest)) less
          ∙ ap (λ (b : Bool). if b then Some (Spent table.next) else rest) spent)

-- where want of memory alone is answered, nothing is to be shown of other faults
pub memory_alone : {X : Type 0} (result : Result X JobFault) (P : JobFault → Type 0) → IfErr result (λ fault. fault ≡ Memory) → IfErr result (λ fault. (fault ≡ Memory → ⊥) → P fault)
memory_alone (Ok x) P is = tt
memory_alone (Err fault) P is = λ other. absurd (other is)

-- ---- what hinders one

module _ (table : JobTable) (entries : List FileEntry) (left : List ℕ) (store : FileStore) where
  abbrev by_need : Option JobFault
  by_need = if nat_lt (length (free_of store)) (need_for table.slots.items entries left)
      then Some (Full (need_for table.slots.items entries left) (length (free_of store))) else None

  abbrev by_number : Bool → Option JobFault
  by_number b = if b then Some (Spent table.next) else by_need

  pub full_hinders : JOB_LIMIT ≤ length table.jobs.items → Some JobsFull ≡ hindrance table entries left store
  full_hinders full = sym (ap (λ (b : Bool). if b then Some JobsFull else by_number (nat_le NUMBER_LIMIT table.next)) (le-leb JOB_LIMIT (length table.jobs.items) full))

  with_room : length table.jobs.items < JOB_LIMIT → hindrance table entries left store ≡ by_number (nat_le NUMBER_LIMIT table.next)
  with_room room = ap (λ (b : Bool). if b then Some JobsFull else by_number (nat_le NUMBER_LIMIT table.next)) (lt-leb JOB_LIMIT (length table.jobs.items) room)

  pub spent_hinders : length table.jobs.items < JOB_LIMIT → NUMBER_LIMIT ≤ table.next → Some (Spent table.next) ≡ hindrance table entries left store
  spent_hinders room spent = sym (with_room room ∙ ap by_number (le-leb NUMBER_LIMIT table.next spent))

  with_number : length table.jobs.items < JOB_LIMIT → table.next < NUMBER_LIMIT → hindrance table entries left store ≡ by_need
  with_number room number = with_room room ∙ ap by_number (lt-leb NUMBER_LIMIT table.next number)

  pub need_hinders : (need free : ℕ) → need ≡ need_for table.slots.items entries left → free ≡ length (free_of store) → length table.jobs.items < JOB_LIMIT → table.next < NUMBER_LIMIT → free < need
      → Some (Full need free) ≡ hindrance table entries left store
  need_hinders need free is_need is_free room number more =
      ap (λ (n : ℕ). Some (Full n free)) is_need ∙ ap (λ (n : ℕ). Some (Full (need_for table.slots.items entries left) n)) is_free
      ∙ sym (with_number room number
      ∙ ap (λ (b : Bool). if b then Some (Full (need_for table.slots.items entries left) (length (free_of store))) else None)
      (lt-ltb (length (free_of store)) (need_for table.slots.items entries left) (omega (arith, is_need, is_free))))

  pub none_hinders : (need free : ℕ) → need ≡ need_for table.slots.items entries left → free ≡ length (free_of store) → length table.jobs.items < JOB_LIMIT → table.next < NUMBER_LIMIT → need ≤ free
      → None ≡ hindrance table entries left store
  none_hinders need free is_need is_free room number enough =
      sym (with_number room number
      ∙ ap (λ (b : Bool). if b then Some (Full (need_for table.slots.items entries left) (length (free_of store))) else None)
      (le-ltb (length (free_of store)) (need_for table.slots.items entries left) (omega (arith, is_need, is_free))))

-- what holds holds of an error
pub err_alone : {X E : Type 0} (result : Result X E) (P : Type 0) → P → OnErr result P
err_alone (Ok x) P is = tt
err_alone (Err fault) P is = is
