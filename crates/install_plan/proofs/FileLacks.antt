-- How a wanted file came into a draft, and why not.
use Rattle.std.proofs.Common.{◌≡◌, ◌≢◌, ◌∙◌, ◌*◌, ◌≤◌, ℕ, List, length, None, Result, Ok, Err, inl, inr, refl, sym, ap, subst, arith}
use Rattle.small_types.specs.Blocks.{count_for}
use Rattle.small_types.specs.declared.target.Target.{Target}
use Rattle.digest_list.specs.Matches.{Matches}
use Rattle.disks.specs.declared.disk.Disk.{Ghosts}
use Rattle.manifests.specs.declared.facts.FileEntry.{FileEntry}
use Rattle.machine.specs.declared.reply.Reply.{Reply}
use Rattle.links.specs.Links.{LinksState, sources_of}
use Rattle.fetcher.specs.Fetched.{WasAsked, IsFile, Kept, MayAsk}
use Rattle.fetcher.proofs.Sequence.{given_after}
use Rattle.file_store.specs.Stores.{free_of}
use Rattle.file_store.specs.declared.draft.Draft.{Draft}
use Rattle.file_store.specs.declared.store.FileStore.{FileStore}
use Rattle.line_drafts.specs.declared.fault.DraftFault.{DraftFault}
use Rattle.line_drafts.specs.declared.fault.DraftFault.TheVariants.{AllLinks, Full, DiskFault, Memory}
use Rattle.line_drafts.specs.Faults.{IsFetchFault}
use Rattle.line_drafts.specs.Works.{Works}
use Rattle.line_drafts.proofs.Works.{works_as}
use Rattle.install_plan.specs.declared.lack.Lack.{Lack}
use Rattle.install_plan.specs.declared.lack.Lack.TheVariants as by
use Rattle.install_plan.specs.FetchedFiles.{IsFetched, IsLack, WritesOne}
use Rattle.install_plan.specs.Lacks.{IsLackOf, lack_reply}
use Rattle.install_plan.proofs.WantedDrafts.{not_asked}
use Rattle.install_plan.proofs.Extends.{got_here}
use Rattle.install_plan.proofs.Stops.{file_got}

-- ---- faults and lacks

pub of_disk : (fault : DraftFault) (lack : Lack) → IsLackOf fault lack → lack ≡ by.DiskFault
    → fault ≡ DiskFault
of_disk (AllLinks named reasons) lack of is = absurd (let no = sym of ∙ is in cc)
of_disk (Full need free) lack of is = absurd of
of_disk DiskFault lack of is = refl
of_disk Memory lack of is = absurd (let no = sym of ∙ is in cc)

pub by_disk : (fault : DraftFault) (lack : Lack) → IsLackOf fault lack → fault ≡ DiskFault
    → lack ≡ by.DiskFault
by_disk (AllLinks named reasons) lack of is = absurd (cc)
by_disk (Full need free) lack of is = absurd of
by_disk DiskFault lack of is = of
by_disk Memory lack of is = absurd (cc)

pub err_is : {T E : Type 0} (one other : E) → ◌≡◌ {A = Result T E} (Err one) (Err other)
    → one ≡ other
err_is one other same = cc

pub err_by : {T E : Type 0} {one other : E} → one ≡ other
    → ◌≡◌ {A = Result T E} (Err one) (Err other)
err_by same = ap Err same

pub no_err : {T E : Type 0} {value : T} (fault : E) → ◌≡◌ {A = Result T E} (Ok value) (Err fault)
    → ⊥
no_err fault same = absurd (cc)

pub plain_reply : (reply : Reply) → by.Reply reply ≡ by.DiskFault → ⊥
plain_reply reply same = absurd (cc)

-- ---- one file

module _ (entry : FileEntry) (target : Target) (a b : LinksState) where
  pub came : Kept a b → (bytes : List ℕ)
      → IsFile entry.list entry.size target a b (Unit {0}) bytes → IsFetched entry target a b bytes
  came kept bytes file =
      let got = file_got target a b entry.list entry.size bytes file in
      record {
        kept = kept;
        asked = got.asked;
        is = got_here a b kept (Matches entry.list entry.size) target bytes got.from;
      }

  module _ (store : FileStore) (before after : ℕ) where
    -- there are blocks for it
    pub not_full : count_for entry.size ≤ length (free_of store) → (fault : DraftFault)
        → IsFetchFault entry.list entry.size target a b store before after fault
        → (need free : ℕ) → ◌≢◌ {A = DraftFault} fault (Full need free)
    not_full room (AllLinks named reasons) is need free = λ same. cc
    not_full room (Full wanted left) is need free = λ same.
        absurd (omega (arith, room, is.0.needed, is.0.counted, is.0.above))
    not_full room DiskFault is need free = λ same. cc
    not_full room Memory is need free = λ same. cc

    pub lacks : Kept a b → (fault : DraftFault) (lack : Lack)
        → IsFetchFault entry.list entry.size target a b store before after fault
        → IsLackOf fault lack → IsLack entry target a b (lack_reply lack)
    lacks kept (AllLinks named reasons) lack is of =
        subst (λ (l : Lack). IsLack entry target a b (lack_reply l)) (sym of) (
          is.shown,
          is.asked,
          record {
            causes = is.causes;
            none = λ quiet. given_after a b target kept is.remain quiet.tell
                (Matches entry.list entry.size) None (is.none quiet);
          },
        )
    lacks kept (Full need free) lack is of = absurd of
    lacks kept DiskFault lack is of =
        subst (λ (l : Lack). IsLack entry target a b (lack_reply l)) (sym of) (inr is.asked)
    lacks kept Memory lack is of =
        subst (λ (l : Lack). IsLack entry target a b (lack_reply l)) (sym of) is

  -- ---- what it costs

  module _ {D : Type 0} (on : Ghosts D) {first last : List Draft} {files there : FileStore}
      (old new : D) (fault other : Type 0) (to : fault → other) (from : other → fault)
      (works : Works on first last files there old new (entry.size * sources_of a) fault) where
    abbrev Costs : Type 0
    Costs = (most : ℕ) × WritesOne entry a b most
        × Works on first last files there old new most other

    pub cost_asked : WasAsked target a b → Costs
    cost_asked asked = (
      entry.size * sources_of a,
      record { within = omega arith; none = λ same. absurd (not_asked target a b asked same) },
      works_as on other to from works,
    )

    cost_none : on.total new ≡ on.total old → Costs
    cost_none still = (
      0,
      record { within = omega arith; none = λ same. refl },
      works_as on other to from (record {
        only = works.only;
        range = works.range;
        more = works.more;
        added = works.added;
        taken = works.taken;
        used = works.used;
        others = works.others;
        held = works.held;
        spends = (
          works.spends.0,
          record {
            told = works.spends.1.told;
            later = works.spends.1.later;
            within = works.spends.1.within;
            total_later = works.spends.1.total_later;
            total_within = omega (arith, still);
            count = works.spends.1.count;
            cause = works.spends.1.cause;
            quiet = works.spends.1.quiet;
          },
        );
      }),
    )

    pub cost_may : (b.asked ≡ a.asked → on.total new ≡ on.total old) → MayAsk target a b → Costs
    cost_may idle (inl same) = cost_none (idle same)
    cost_may idle (inr asked) = cost_asked asked
