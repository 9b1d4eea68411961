-- Why a file did not come into a draft.
use Rattle.std.specs.Prelude.{◌≡◌, ◌<◌, ℕ, List, length}
use Rattle.small_types.specs.Blocks.{count_for}
use Rattle.small_types.specs.declared.target.Target.{Target}
use Rattle.digest_list.specs.declared.digest.Digest.{Digest}
use Rattle.digest_list.specs.Matches.{Matches}
use Rattle.links.specs.Link.{Stays}
use Rattle.links.specs.Links.{LinksState, Remain}
use Rattle.fetcher.specs.Causes.{IsFileCause}
use Rattle.fetcher.specs.Fetched.{BasketFailed, MayAsk, NoneGave}
use Rattle.fetcher.specs.declared.fault.FetchFault.{FetchFault}
use Rattle.fetcher.specs.declared.fault.FetchFault.TheVariants as fetch
use Rattle.file_store.specs.Stores.{free_of}
use Rattle.file_store.specs.declared.fault.FileFault.{FileFault}
use Rattle.file_store.specs.declared.fault.FileFault.TheVariants as files
use Rattle.file_store.specs.declared.store.FileStore.{FileStore}
use Rattle.line_drafts.specs.declared.fault.DraftFault.{DraftFault}
use Rattle.line_drafts.specs.declared.fault.DraftFault.TheVariants.{AllLinks, Full, DiskFault, Memory}

-- the fault that a fault of the file store comes to
abbrev pub fault_of_files : FileFault → DraftFault
fault_of_files (files.Full need free) = Full need free
fault_of_files files.DiskFault = DiskFault
fault_of_files files.Memory = Memory

-- and that of a fetch, whose basket is a draft on the disk
abbrev pub fault_of_fetch : FetchFault → DraftFault
fault_of_fetch (fetch.AllLinks target causes) = AllLinks target causes
fault_of_fetch fetch.BasketFault = DiskFault
fault_of_fetch fetch.Memory = Memory

-- so many bytes need more blocks than are free, by these numbers
pub record LacksBlocks (size : ℕ) (store : FileStore) (need free : ℕ) : Type 0 where
  pub needed : need ≡ count_for size
  pub counted : free ≡ length (free_of store)
  pub above : free < need

-- nothing was asked of the links
pub record AreUnasked (old new : LinksState) : Type 0 where
  pub remain : Remain old new
  pub asked : new.asked ≡ old.asked
  pub links : (n : ℕ) → n < length old.there → Stays (old.link n) (new.link n)

-- why so many bytes were not written into a draft of this store
abbrev pub IsWriteFault : ℕ → FileStore → DraftFault → Type 0
IsWriteFault size store (AllLinks target causes) = ⊥
IsWriteFault size store (Full need free) = LacksBlocks size store need free
IsWriteFault size store DiskFault = Unit {0}
IsWriteFault size store Memory = Unit {0}

-- why a file was not fetched into a draft of this store, by the disk's counts of faults before and
-- after
abbrev pub IsFetchFault : List Digest → ℕ → Target → LinksState → LinksState → FileStore → ℕ → ℕ
    → DraftFault → Type 0
IsFetchFault list size target old new store before after (AllLinks shown causes) =
    NoneGave (IsFileCause list size target) (Matches list size) target old new shown causes
IsFetchFault list size target old new store before after (Full need free) =
    LacksBlocks size store need free × AreUnasked old new
IsFetchFault list size target old new store before after DiskFault =
    BasketFailed target old new before after
IsFetchFault list size target old new store before after Memory = MayAsk target old new
