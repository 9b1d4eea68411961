-- What calls do to a disk, one after another.
use Rattle.std.proofs.Common.{◌≡◌, ◌≢◌, ℕ, Result, Ok, Err, refl, ap, subst, ◌∙◌, arith}
use Rattle.outside.specs.Streams.{Rose}
use Rattle.disks.specs.declared.disk.Disk.{Ghosts}
use Rattle.machine.specs.Store.{Session}
use Rattle.updater.specs.Shown.{Updater}
use Rattle.demo.specs.declared.fault.DemoFault.{DemoFault}
use Rattle.demo.specs.declared.fault.DemoFault.TheVariants.{DiskFault, NotAStore}
use Rattle.demo.specs.Parts.{Goes, IsNeitherFault, Touches}

module _ {D : Type 0} (on : Ghosts D) where
  -- nothing was called
  still : {T : Type 0} (disk : D) (result : Result T DemoFault) → result ≢ Err DiskFault
      → result ≢ Err NotAStore → Touches on disk result disk
  still disk result undisturbed stands = record {
    told = λ told. told;
    later = omega arith;
    count = omega arith;
    cause = λ is. absurd (undisturbed is);
    quiet = λ other. refl;
    store = λ tells. stands;
  }

  pub nothing : {T : Type 0} (disk : D) (x : T) → Touches on disk (Ok x) disk
  nothing disk x = still disk (Ok x) (λ is. cc (is)) (λ is. cc (is))

  pub untouched : {T : Type 0} (disk : D) (fault : DemoFault) → IsNeitherFault fault
      → Touches {T = T} on disk (Err fault) disk
  untouched disk fault other = still disk (Err fault)
      (λ is. let same : fault ≡ DiskFault = cc (is) in other.0 same)
      (λ is. let same : fault ≡ NotAStore = cc (is) in other.1 same)

  -- a call answered, and then another one ended so
  pub after : {S T : Type 0} {a b c : D} {x : S} {result : Result T DemoFault}
      → Touches on a (Ok x) b → Touches on b result c → Touches on a result c
  after {a = a} {b = b} {c = c} first second =
      let same : on.count b ≡ on.count a = first.quiet (λ is. cc (is)) in
      record {
        told = λ told. first.told (second.told told);
        later = omega (arith, first.later, second.later);
        count = omega (arith, first.count, second.count);
        cause = λ is. subst (λ (n : ℕ). Rose n (on.count c)) same (second.cause is);
        quiet = λ other. second.quiet other ∙ same;
        store = second.store;
      }

  -- a call answered, and its answer was taken or not
  pub with_answer : {S T : Type 0} {a b : D} {x : S} (y : T) → Touches on a (Ok x) b
      → Touches on a (Ok y) b
  with_answer {b = b} y first = after first (still b (Ok y) (λ is. cc (is)) (λ is. cc (is)))

  pub with_other : {S T : Type 0} {a b : D} {x : S} (fault : DemoFault) → IsNeitherFault fault
      → Touches on a (Ok x) b → Touches {T = T} on a (Err fault) b
  with_other {b = b} fault other first = after first (untouched b fault other)

  -- the fault of a call is handed on
  pub with_fault : {S T : Type 0} {a b : D} (fault : DemoFault)
      → Touches {T = S} on a (Err fault) b → Touches {T = T} on a (Err fault) b
  with_fault fault first = record {
    told = first.told;
    later = first.later;
    count = first.count;
    cause = λ is. let same : fault ≡ DiskFault = cc (is) in first.cause (ap Err same);
    quiet = λ other. first.quiet (λ is. let same : fault ≡ DiskFault = cc (is) in
        other (ap Err same));
    store = λ tells is. let same : fault ≡ NotAStore = cc (is) in first.store tells (ap Err same);
  }

  -- an end by a fault leads nowhere
  pub fails : {T : Type 0} {P : T → Session → Session → Type 0} {updater updater_new : Updater}
      {a b : D} {fault : DemoFault} → Touches {T = T} on a (Err fault) b
      → Goes on P updater a (Err fault) updater_new b
  fails touches = record { leads = λ tells old holds sound. tt; touches = touches }
