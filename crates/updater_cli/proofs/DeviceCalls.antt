-- What is asked of devices, one call after another, and what each part of a session keeps.
use Rattle.std.proofs.Common.{◌≡◌, ◌≢◌, ℕ, ◌≤◌, Result, Ok, Err, refl, subst, arith}
use Rattle.std.specs.Prelude.{IsErr}
use Rattle.outside.specs.Streams.{Causes}
use Rattle.outside.specs.declared.sink.Sink.{Ghosts as SinkGhosts}
use Rattle.disks.specs.declared.disk.Disk.{Ghosts}
use Rattle.links.specs.declared.links.Links.{Ghosts as LinksGhosts}
use Rattle.fetcher.proofs.Sequence.{kept_same, kept_then}
use Rattle.updater_cli.specs.declared.status.Status.{Status}
use Rattle.updater_cli.specs.declared.status.Status.TheVariants.{SinkFault, DiskFault}
use Rattle.updater_cli.specs.Devices.{RisesWith, Asks}
use Rattle.updater_cli.specs.Lines.{IsReady, Place, KeepsSession}
use Rattle.updater_cli.specs.Status.{PartOutcome, code_of}
use Rattle.updater_cli.proofs.Prefix.{ended_at}

-- ---- counts

-- where there was no fault the count is the same
pub rises_none : (fault : Type 0) (old new : ℕ) → (fault → ⊥) → new ≡ old → RisesWith fault old new
rises_none fault old new none same = record { later = omega (arith, same); rose = λ is. absurd (none is); quiet = λ _. same }

-- the count stood still before
pub rises_from : (fault : Type 0) (old mid new : ℕ) → mid ≡ old → RisesWith fault mid new → RisesWith fault old new
rises_from fault old mid new same rises = subst (λ (k : ℕ). RisesWith fault k new) same rises

-- the same fault in other words
pub rises_as : (fault other : Type 0) (old new : ℕ) → (fault → other) → (other → fault) → RisesWith fault old new → RisesWith other old new
rises_as fault other old new there back rises = record { later = rises.later; rose = λ is. rises.rose (back is); quiet = λ none. rises.quiet (λ is. none (there is)) }

-- a call that answers or fails
pub rises_call : {T E : Type 0} (old new : ℕ) (result : Result T E) → Causes old new result → RisesWith (IsErr result) old new
rises_call old new (Ok value) causes = record { later = causes.later; rose = λ is. absurd (cc (is)); quiet = λ _. causes.quiet }
rises_call old new (Err fault) causes = record { later = causes.later; rose = λ _. causes.rose; quiet = λ none. absurd (none refl) }

-- ---- a disk

module _ {D : Type 0} (on : Ghosts D) where
  pub asks_none : (fault : Type 0) (disk : D) → (fault → ⊥) → Asks on fault disk disk
  asks_none fault disk none = record { told = λ told. told; later = omega arith; count = rises_none fault (on.count disk) (on.count disk) none refl }

  -- the result shows that there was no fault
  pub asks_ok : (fault other : Type 0) (old new : D) → (fault → ⊥) → (other → ⊥) → Asks on fault old new → Asks on other old new
  asks_ok fault other old new none never asks = record { told = asks.told; later = asks.later; count = rises_none other (on.count old) (on.count new) never (asks.count.quiet none) }

  -- one call more, where there was no fault before
  pub asks_then : (none fault : Type 0) (old mid new : D) → (none → ⊥) → Asks on none old mid → Asks on fault mid new → Asks on fault old new
  asks_then none fault old mid new never first second = record {
    told = λ told. first.told (second.told told);
    later = omega (arith, first.later, second.later);
    count = rises_from fault (on.count old) (on.count mid) (on.count new) (first.count.quiet never) second.count;
  }

  pub asks_as : (fault other : Type 0) (old new : D) → (fault → other) → (other → fault) → Asks on fault old new → Asks on other old new
  asks_as fault other old new there back asks = record { told = asks.told; later = asks.later; count = rises_as fault other (on.count old) (on.count new) there back asks.count }

  -- a call that failed, and one that answered
  pub asks_err : (T E : Type 0) (e : E) (fault : Type 0) (old new : D) → fault → Asks on (IsErr {T = T} {E = E} (Err e)) old new → Asks on fault old new
  asks_err T E e fault old new is asks = asks_as (IsErr {T = T} {E = E} (Err e)) fault old new (λ _. is) (λ _. refl) asks

  pub asks_answered : (T E : Type 0) (value : T) (fault : Type 0) (old new : D) → (fault → ⊥) → Asks on (IsErr {T = T} {E = E} (Ok value)) old new → Asks on fault old new
  asks_answered T E value fault old new none asks = asks_ok (IsErr {T = T} {E = E} (Ok value)) fault old new (λ is. cc (is)) none asks

  pub asks_call : {T E : Type 0} (old new : D) (result : Result T E) → (on.tells new → on.tells old) → on.moment old ≤ on.moment new → Causes (on.count old) (on.count new) result → Asks on (IsErr result) old new
  asks_call old new result told later causes = record { told = told; later = later; count = rises_call (on.count old) (on.count new) result causes }

-- ---- a part of a session

went_on : (status : Status) → let ok : PartOutcome = Ok tt in ok ≡ Err status → ⊥
went_on status same = cc (same)

module _ {K D L : Type 0} (to : SinkGhosts K) (on : Ghosts D) (net : LinksGhosts L) where
  -- nothing was done
  pub keeps_none : (place : Place K D L) → IsReady place.course → KeepsSession to on net place (Ok tt) place
  keeps_none place ready = record {
    machine = λ told start between. between;
    goes_on = ready;
    writes = rises_none _ (to.count place.sink) (to.count place.sink) (went_on SinkFault) refl;
    asks = asks_none on _ place.disk (went_on DiskFault);
    kept = kept_same (net.links place.links);
  }

  -- one part after another
  pub keeps_then : (old mid new : Place K D L) (result : PartOutcome) → KeepsSession to on net old (Ok tt) mid → KeepsSession to on net mid result new → KeepsSession to on net old result new
  keeps_then old mid new result first second = record {
    machine = λ told start between. second.machine told start (first.machine (second.asks.told told) start between);
    goes_on = second.goes_on;
    writes = rises_from _ (to.count old.sink) (to.count mid.sink) (to.count new.sink) (first.writes.quiet (went_on SinkFault)) second.writes;
    asks = asks_then on _ _ old.disk mid.disk new.disk (went_on DiskFault) first.asks second.asks;
    kept = kept_then (net.links old.links) (net.links mid.links) (net.links new.links) first.kept second.kept;
  }

  -- it stops where neither the sink nor the disk failed
  pub keeps_stop : (old new : Place K D L) (status : Status) → status ≢ SinkFault → status ≢ DiskFault → code_of status ≢ 3
      → on.left_at new.disk (on.moment new.disk) (on.seen new.disk) → KeepsSession to on net old (Ok tt) new → KeepsSession to on net old (Err status) new
  keeps_stop old new status no_sink no_disk other seen_left keeps = record {
    machine = λ told start between. ended_at on net start (code_of status) new.course new.disk new.links (keeps.machine told start between) keeps.goes_on.begun other seen_left;
    goes_on = tt;
    writes = rises_none _ (to.count old.sink) (to.count new.sink) (λ is. no_sink (err_is SinkFault is)) (keeps.writes.quiet (went_on SinkFault));
    asks = asks_ok on _ _ old.disk new.disk (went_on DiskFault) (λ is. no_disk (err_is DiskFault is)) keeps.asks;
    kept = keeps.kept;
  }
    where
      err_is : (fault : Status) → (let it : PartOutcome = Err status in it ≡ Err fault) → status ≡ fault
      err_is fault is = cc (is)
