-- What a line whose files came into drafts wrote, and which blocks are free, once the drafts are sealed
-- or given up.
use Rattle.std.proofs.Common.{◌≡◌, ◌⊎◌, ◌∙◌, ◌+◌, ◌++◌, ℕ, List, [], Result, Ok, Err, inl, inr, refl, sym, ap, subst, arith}
use Rattle.std.specs.Prelude.{IfErr}
use Rattle.outside.specs.Streams.{Rose}
use Rattle.disks.specs.declared.disk.Disk.{Ghosts}
use Rattle.disks.specs.Moments.{Rests}
use Rattle.disks.specs.Spends.{Spends}
use Rattle.disks.proofs.Books.{spends_as, spends_none, spends_then, spends_within}
use Rattle.disks.proofs.MomentLemmas.{untouched_start}
use Rattle.small_types.specs.Blocks.{KeepsOutside}
use Rattle.file_store.specs.Stores.{blocks_of_all, free_of, store_base}
use Rattle.file_store.specs.Writes.{IsOldOutsideBlocks, WritesOnly}
use Rattle.file_store.specs.declared.draft.Draft.{Draft}
use Rattle.file_store.specs.declared.store.FileStore.{FileStore}
use Rattle.file_store.proofs.GivenUp.{range_then}
use Rattle.file_store.proofs.KeptContents.{sealed_keep}
use Rattle.file_store.proofs.BlockWrites.{only_start}
use Rattle.line_drafts.specs.Works.{Works}
use Rattle.links.specs.Links.{LinksState}
use Rattle.machine.specs.declared.reply.Reply.{Reply}
use Rattle.machine.specs.declared.reply.Reply.TheVariants.{AllLinks, Memory}
use Rattle.manifests.specs.declared.facts.FileEntry.{FileEntry}
use Rattle.store_state.specs.declared.change.Change.{Change}
use Rattle.install_plan.specs.declared.drafted.Drafted.{Drafted}
use Rattle.install_plan.specs.declared.lack.Lack.{Lack}
use Rattle.install_plan.specs.declared.lack.Lack.TheVariants as why
use Rattle.install_plan.specs.declared.prepared.PreparedFiles.{PreparedFiles}
use Rattle.install_plan.specs.declared.prepared.PreparedFiles.TheVariants as to
use Rattle.install_plan.specs.Drafted.{EndsAs, FreesFor, Seals}
use Rattle.install_plan.specs.declared.plan.WantedFile.{WantedFile}
use Rattle.install_plan.specs.FetchedFiles.{IsStopped}
use Rattle.install_plan.specs.Lacks.{lack_reply}
use Rattle.install_plan.specs.Prepared.{LeavesDisk, MayLeaveFiles, WritesFree}
use Rattle.install_plan.proofs.FileLacks.{err_is, no_err}

-- ---- books

module _ {D : Type 0} (on : Ghosts D) (calls bytes most : ℕ) (old mid new : D) (fault : Type 0) where
  -- the call behind those did not fail
  spends_first : Spends on calls bytes old mid fault → Spends on 1 0 mid new ⊥
      → Spends on (calls + 1) bytes old new fault
  spends_first first second =
      let same = second.quiet (λ no. no) in
      record {
        told = λ tells. first.told (second.told tells);
        later = omega (arith, first.later, second.later);
        within = omega (arith, first.within, second.within);
        total_later = omega (arith, first.total_later, second.total_later);
        total_within = omega (arith, first.total_within, second.total_within);
        count = omega (arith, first.count, second.count);
        cause = λ is. subst (λ (n : ℕ). Rose (on.count old) n) (sym same) (first.cause is);
        quiet = λ none. same ∙ first.quiet none;
      }

-- a reply is no fault of the disk
pub is_reply : {reply : Reply} → ◌≡◌ {A = PreparedFiles} (to.Reply reply) to.DiskFault → ⊥
is_reply same = absurd (cc)

-- the disk was not touched
pub rests_there : {D : Type 0} (on : Ghosts D) (disk : D) (reply : Reply)
    → MayLeaveFiles reply ⊎ Rests on disk disk
rests_there on disk reply = inr (record { untouched = untouched_start on disk; total = refl })

-- where files did not come, a link lacked one, or there was no memory
stopped_leaves : (files : List FileEntry) (wanted : List WantedFile) (before after : LinksState)
    (reply : Reply) → IsStopped files wanted before after reply → MayLeaveFiles reply
stopped_leaves files wanted before after (AllLinks target causes) stopped = tt
stopped_leaves files wanted before after Memory stopped = tt
stopped_leaves files wanted before after _ stopped = absurd stopped.stops

-- so it is with any reply in which drafts end
pub leaves_disk : {D : Type 0} (on : Ghosts D) (old new : D) (files : List FileEntry)
    (wanted : List WantedFile) (before after : LinksState) (drafted : Result Drafted Lack)
    (ended : PreparedFiles) → EndsAs drafted ended
    → IfErr drafted (λ lack. IsStopped files wanted before after (lack_reply lack))
    → LeavesDisk on old new ended
leaves_disk on old new files wanted before after (Ok drafted) ended (inl is) stopped =
    subst (LeavesDisk on old new) (sym is) tt
leaves_disk on old new files wanted before after (Ok drafted) ended (inr is) stopped =
    subst (LeavesDisk on old new) (sym is) tt
leaves_disk on old new files wanted before after (Err (why.Reply reply)) ended is stopped =
    subst (LeavesDisk on old new) (sym is)
    (inl (stopped_leaves files wanted before after reply stopped))
leaves_disk on old new files wanted before after (Err why.DiskFault) ended is stopped =
    subst (LeavesDisk on old new) (sym is) tt

-- nothing was written
pub free_none : {D : Type 0} (on : Ghosts D) (files : FileStore) (disk : D) (fault : Type 0)
    → (fault → ⊥) → WritesFree on files files disk disk 0 fault
free_none on files disk fault none = record {
  only = only_start on (store_base files) (free_of files) disk;
  range = record { number = refl; base = refl };
  spends = (0, spends_as on 0 0 disk disk ⊥ fault (λ no. absurd no) none (spends_none on disk));
}

module _ {D : Type 0} (on : Ghosts D) (drafts : List Draft) (files mid last : FileStore)
    (old here new : D) (drafted : Result Drafted Lack) (ended : PreparedFiles) (most : ℕ)
    (works : Works on [] drafts files mid old here most (drafted ≡ Err why.DiskFault))
    (ends : EndsAs drafted ended) (seals : Seals on drafts drafted mid last here new ended) where
  -- ---- blocks

  taken : free_of files ≡ blocks_of_all drafts ++ free_of mid
  taken = works.taken ∙ ap (λ (ds : List Draft). blocks_of_all ds ++ free_of mid) (sym works.added)

  -- at a change those of the drafts are taken
  pub taken_then : (change : Change) (reply : Reply) (all unused : List ℕ)
      → ended ≡ to.Change change reply all unused
      → free_of files ≡ blocks_of_all drafts ++ free_of last
  taken_then change reply all unused is =
      let same : last ≡ mid = subst (FreesFor drafts mid last) is seals.free in
      taken ∙ ap (λ (s : FileStore). blocks_of_all drafts ++ free_of s) (sym same)

  -- else the same are free
  pub freed_reply : (reply : Reply) → ended ≡ to.Reply reply → free_of last ≡ free_of files
  freed_reply reply is =
      let freed : free_of last ≡ blocks_of_all drafts ++ free_of mid =
      subst (FreesFor drafts mid last) is seals.free in
      freed ∙ sym taken

  pub freed_fault : ended ≡ to.DiskFault → free_of last ≡ free_of files
  freed_fault is =
      let freed : free_of last ≡ blocks_of_all drafts ++ free_of mid =
      subst (FreesFor drafts mid last) is seals.free in
      freed ∙ sym taken

  -- ---- what was written

  only : WritesOnly on (store_base files) (free_of files) old new
  only = record {
    stops = sealed_keep on old here new
        (IsOldOutsideBlocks (store_base files) (free_of files) (on.left_at old (on.moment old)))
        works.only.stops seals.stop;
    reads = subst (λ (image : List ℕ).
        KeepsOutside (store_base files) (free_of files) (on.seen old) image) (sym seals.seen)
        works.only.reads;
  }

  abbrev Failed : Type 0
  Failed = ended ≡ to.DiskFault

  abbrev Sum : Type 0
  Sum = Spends on (works.spends.0 + 1) most old new Failed

  -- no call failed before the drafts ended
  by_end : (drafted ≡ Err why.DiskFault → ⊥) → Sum
  by_end none =
      spends_within on (works.spends.0 + 1) (most + 0) (works.spends.0 + 1) most old new Failed
      (omega arith) (omega arith)
      (spends_then on works.spends.0 most 1 0 old here new Failed
      (spends_as on works.spends.0 most old here _ ⊥ none (λ no. absurd no) works.spends.1)
      (spends_as on 1 0 here new _ Failed (λ is. is.0) (λ is. (is, none)) seals.spends))

  -- one did
  by_drafts : drafted ≡ Err why.DiskFault → ended ≡ to.DiskFault → Sum
  by_drafts ill is =
      spends_first on works.spends.0 most most old here new Failed
      (spends_as on works.spends.0 most old here _ Failed (λ e. is) (λ e. ill) works.spends.1)
      (spends_as on 1 0 here new _ ⊥ (λ e. e.1 ill) (λ no. absurd no) seals.spends)

  sum : Sum
  sum = by drafted refl
    where
      by : (d : Result Drafted Lack) → drafted ≡ d → Sum
      by (Ok made) was = by_end (λ ill. no_err why.DiskFault (sym was ∙ ill))
      by (Err (why.Reply reply)) was =
          by_end (λ ill. absurd (let no = err_is (why.Reply reply) why.DiskFault (sym was ∙ ill) in cc))
      by (Err why.DiskFault) was =
          by_drafts was (subst (λ (r : Result Drafted Lack). EndsAs r ended) was ends)

  pub writes_free : WritesFree on files last old new most (ended ≡ to.DiskFault)
  writes_free = record {
    only = only;
    range = range_then files mid last works.range seals.range;
    spends = (works.spends.0 + 1, sum);
  }
