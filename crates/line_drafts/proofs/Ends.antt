-- How a call that adds a draft ends where it adds none.
use Rattle.std.proofs.Common.{◌≡◌, ◌≢◌, ◌⊎◌, ℕ, ◌+◌, ◌-◌, ◌<◌, ◌≤◌, List, length, Result, Err, refl, sym, ◌∙◌, ap, subst, arith, inl, inr}
use Rattle.outside.specs.Streams.{Rose}
use Rattle.small_types.specs.Blocks.{count_for}
use Rattle.small_types.specs.declared.target.Target.{Target}
use Rattle.disks.specs.Spends.{Spends}
use Rattle.disks.specs.declared.disk.Disk.{Ghosts}
use Rattle.disks.proofs.Books.{spends_as, spends_none, spends_within}
use Rattle.digest_list.specs.declared.digest.Digest.{Digest}
use Rattle.links.specs.Links.{LinksState}
use Rattle.fetcher.specs.Fetched.{IsFileFault}
use Rattle.fetcher.specs.declared.fault.FetchFault.{FetchFault}
use Rattle.fetcher.specs.declared.fault.FetchFault.TheVariants as fetch
use Rattle.fetcher.proofs.KeptLinks.{stays_same}
use Rattle.file_store.specs.Stores.{free_of}
use Rattle.file_store.specs.Writes.{touched}
use Rattle.file_store.specs.declared.fault.FileFault.{FileFault}
use Rattle.file_store.specs.declared.fault.FileFault.TheVariants as files
use Rattle.file_store.specs.declared.store.FileStore.{FileStore}
use Rattle.line_drafts.specs.Faults.{AreUnasked, IsFetchFault, IsWriteFault, LacksBlocks, fault_of_fetch, fault_of_files}
use Rattle.line_drafts.specs.Works.{SpendsWithin}
use Rattle.line_drafts.specs.declared.fault.DraftFault.{DraftFault}
use Rattle.line_drafts.specs.declared.fault.DraftFault.TheVariants.{DiskFault, Full, Memory}

pub unasked_same : (links : LinksState) → AreUnasked links links
unasked_same links = record {
  remain = record { there = refl; sources = refl };
  asked = refl;
  links = λ n low. stays_same (links.link n);
}

-- why no blocks were taken for so many bytes, as `begin` says it
abbrev pub IsBegunFault : ℕ → FileStore → FileFault → Type 0
IsBegunFault size store fault = fault ≢ files.Memory
    → (fault ≡ files.Full (count_for size) (length (free_of store)))
    × (length (free_of store) < count_for size)

lacks : (size : ℕ) (store : FileStore) (need free : ℕ) → IsBegunFault size store (files.Full need free) → LacksBlocks size store need free
lacks size store need free why =
    let both = why (λ same. cc) in
    let needed : need ≡ count_for size = let is = both.0 in cc in
    let counted : free ≡ length (free_of store) = let is = both.0 in cc in
    record { needed = needed; counted = counted; above = omega (arith, needed, counted, both.1) }

pub begun_write : (size : ℕ) (store : FileStore) (fault : FileFault) → IsBegunFault size store fault → IsWriteFault size store (fault_of_files fault)
begun_write size store (files.Full need free) why = lacks size store need free why
begun_write size store files.DiskFault why = tt
begun_write size store files.Memory why = tt

pub begun_fetch : (list : List Digest) (size : ℕ) (target : Target) (links : LinksState) (store : FileStore) (count : ℕ) (fault : FileFault) → IsBegunFault size store fault
    → IsFetchFault list size target links links store count count (fault_of_files fault)
begun_fetch list size target links store count (files.Full need free) why = (lacks size store need free why, unasked_same links)
begun_fetch list size target links store count files.DiskFault why = absurd (let both = why (λ same. cc) in let is = both.0 in cc)
begun_fetch list size target links store count files.Memory why = inl refl

-- it is no fault of the disk
pub not_the_disk : (size : ℕ) (store : FileStore) (fault : FileFault) → IsBegunFault size store fault → fault_of_files fault ≡ DiskFault → ⊥
not_the_disk size store (files.Full need free) why same = cc
not_the_disk size store files.DiskFault why same = absurd (let both = why (λ same. cc) in let is = both.0 in cc)
not_the_disk size store files.Memory why same = cc

-- why a content was not copied
pub copied_fault : (size : ℕ) (store : FileStore) (fault : DraftFault) → (fault ≡ DiskFault) ⊎ (fault ≡ Memory) → IsWriteFault size store fault
copied_fault size store fault (inl is) = subst (IsWriteFault size store) (sym is) tt
copied_fault size store fault (inr is) = subst (IsWriteFault size store) (sym is) tt

pub same_error : (one other : DraftFault) → ◌≡◌ {A = Result (Unit {0}) DraftFault} (Err one) (Err other) → one ≡ other
same_error one other same = cc

pub too_many_full : {T : Type 0} (need free : ℕ) (fault : FileFault) (answer : DraftFault) → answer ≡ fault_of_files fault → ◌≡◌ {A = Result T FileFault} (Err fault) (Err (files.Full need free))
    → ◌≡◌ {A = Result (Unit {0}) DraftFault} (Err answer) (Err (Full need free))
too_many_full need free fault answer is same =
    let full : fault ≡ files.Full need free = cc in
    ap (λ (e : DraftFault). Err e) (is ∙ ap fault_of_files full)

-- why no link gave the file, or why the draft did not take it
pub fetched_fault : (list : List Digest) (size : ℕ) (target : Target) (before after : LinksState) (store : FileStore) (count count' : ℕ) (fault : FetchFault)
    → IsFileFault list size target before after count count' fault → IsFetchFault list size target before after store count count' (fault_of_fetch fault)
fetched_fault list size target before after store count count' (fetch.AllLinks shown causes) why = why
fetched_fault list size target before after store count count' fetch.BasketFault why = why
fetched_fault list size target before after store count count' fetch.Memory why = why

pub basket_fault : (fault : FetchFault) → fault_of_fetch fault ≡ DiskFault → fault ≡ fetch.BasketFault
basket_fault (fetch.AllLinks shown causes) is = absurd (cc)
basket_fault fetch.BasketFault is = refl
basket_fault fetch.Memory is = absurd (cc)

pub not_basket : (fault : FetchFault) (answer : DraftFault) → answer ≡ fault_of_fetch fault → (◌≡◌ {A = Result (Unit {0}) DraftFault} (Err answer) (Err DiskFault) → ⊥)
    → ◌≡◌ {A = Result (Unit {0}) FetchFault} (Err fault) (Err fetch.BasketFault) → ⊥
not_basket fault answer is none same =
    let basket : fault ≡ fetch.BasketFault = cc in
    none (ap (λ (e : DraftFault). Err e) (is ∙ ap fault_of_fetch basket))

pub basket_rose : (list : List Digest) (size : ℕ) (target : Target) (before after : LinksState) (count count' : ℕ) (fault : FetchFault)
    → IsFileFault list size target before after count count' fault → fault_of_fetch fault ≡ DiskFault → Rose count count'
basket_rose list size target before after count count' (fetch.AllLinks shown causes) why is = absurd (cc)
basket_rose list size target before after count count' fetch.BasketFault why is = why.rose
basket_rose list size target before after count count' fetch.Memory why is = absurd (cc)

module _ {D : Type 0} (on : Ghosts D) where
  -- a call of the disk was not made
  pub nothing_spent : (calls bytes : ℕ) (disk : D) (fault : Type 0) → (fault → ⊥) → Spends on calls bytes disk disk fault
  nothing_spent calls bytes disk fault none =
      spends_within on 0 0 calls bytes disk disk fault (omega arith) (omega arith)
      (spends_as on 0 0 disk disk ⊥ fault (λ no. absurd no) none (spends_none on disk))

  -- as many calls as there were
  pub some_spent : (most : ℕ) (old new : D) (fault : Type 0) → (on.tells new → on.tells old) → on.moment old ≤ on.moment new → on.total old ≤ on.total new → on.total new ≤ on.total old + most → on.count old ≤ on.count new
      → (fault → Rose (on.count old) (on.count new)) → ((fault → ⊥) → on.count new ≡ on.count old) → SpendsWithin on most old new fault
  some_spent most old new fault told later total within more cause quiet = (
    on.moment new - on.moment old,
    record {
      told = told;
      later = later;
      within = omega (arith, later);
      total_later = total;
      total_within = within;
      count = more;
      cause = cause;
      quiet = quiet;
    },
  )

  -- all bytes of a content were written, as the first ones of its blocks
  pub piece_spent : (filled n : ℕ) (old new : D) (fault other : Type 0) → filled ≡ 0 → (fault → other) → (other → fault) → Spends on (touched filled n) n old new fault → Spends on (count_for n) n old new other
  piece_spent filled n old new fault other empty to from spends =
      let few : touched filled n ≤ count_for n = omega (arith, empty) in
      spends_within on (touched filled n) n (count_for n) n old new other few (omega arith) (spends_as on (touched filled n) n old new fault other to from spends)

  -- as many as a size needs that is the draft's
  pub size_spent : (n size : ℕ) (old new : D) (fault other : Type 0) → n ≡ size → (fault → other) → (other → fault) → Spends on (count_for n) n old new fault → Spends on (count_for size) size old new other
  size_spent n size old new fault other is to from spends =
      subst (λ (k : ℕ). Spends on (count_for k) k old new other) is (spends_as on (count_for n) n old new fault other to from spends)
