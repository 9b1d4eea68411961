-- What a group comes to, once its files came into drafts and these are sealed or given up.
use Rattle.std.proofs.Common.{◌≡◌, ◌≢◌, ◌∙◌, ◌⊎◌, ◌++◌, inl, inr, refl, sym, ap, subst, ℕ, false, List, [], length, map, Result, Ok, Err}
use Rattle.std.specs.Prelude.{IfErr, IfOk}
use Rattle.std.specs.List.Sorted.{IsPermutation}
use Rattle.std.proofs.lemmas.List.{length-map}
use Rattle.small_types.specs.Blocks.{blocks_start}
use Rattle.small_types.specs.declared.room.Room.{Room}
use Rattle.disks.specs.declared.disk.Disk.{Ghosts}
use Rattle.disks.specs.Moments.{Each}
use Rattle.file_store.specs.Stores.{blocks_of_all, draft_blocks, free_of, store_base}
use Rattle.file_store.specs.declared.draft.Draft.{Draft}
use Rattle.file_store.specs.declared.store.FileStore.{FileStore}
use Rattle.line_drafts.specs.Held.{AreContents, AreHeld}
use Rattle.line_drafts.specs.Works.{Works}
use Rattle.manifests.specs.declared.facts.FileEntry.{FileEntry}
use Rattle.machine.specs.declared.reply.Reply.{Reply}
use Rattle.machine.specs.declared.reply.Reply.TheVariants as says
use Rattle.machine.specs.Groups.{group_files, group_stands}
use Rattle.store_state.specs.declared.change.Change.{Change}
use Rattle.store_state.specs.declared.change.Change.TheVariants as change
use Rattle.store_state.specs.declared.view.View.{View}
use Rattle.store_state.specs.Kept.{AreTables}
use Rattle.store_state.specs.Laws.{GroupsShowTheFiles}
use Rattle.store_state.specs.Tables.{Tables}
use Rattle.table_files.specs.Freed.{brought}
use Rattle.table_files.specs.Held.{held_by}
use Rattle.table_weight.specs.Laws.{WeighWithGroup}
use Rattle.links.specs.Links.{LinksState}
use Rattle.install_plan.specs.declared.drafted.Drafted.{Drafted}
use Rattle.install_plan.specs.declared.lack.Lack.{Lack}
use Rattle.install_plan.specs.declared.lack.Lack.TheVariants as why
use Rattle.install_plan.specs.declared.plan.WantedFile.{WantedFile}
use Rattle.install_plan.specs.declared.prepared.PreparedFiles.{PreparedFiles}
use Rattle.install_plan.specs.declared.prepared.PreparedFiles.TheVariants as to
use Rattle.install_plan.specs.Blocks.{UsesBlocks}
use Rattle.install_plan.specs.Changes.{contents_for, listed_at}
use Rattle.install_plan.specs.Drafted.{AreSized, EndsAs, IsSealed, Seals}
use Rattle.install_plan.specs.FetchedFiles.{HasFetched, IsStopped}
use Rattle.install_plan.specs.GroupReady.{AreLacking, HasBrought, IsGroupOver, IsGroupReady, ungrouped}
use Rattle.install_plan.specs.Lacks.{lack_reply}
use Rattle.install_plan.specs.LeadsIn.{HasNew}
use Rattle.install_plan.specs.Prepared.{IsGroupPrepared, TakesBlocks}
use Rattle.install_plan.proofs.WantedDrafts.{memory_behind}
use Rattle.install_plan.proofs.Ended.{freed_fault, freed_reply, taken_then}
use Rattle.install_plan.proofs.GroupFetched.{grows, ready_all, reply as group_says}
use Rattle.install_plan.proofs.GroupAsks.{stopped_over}
use Rattle.install_plan.proofs.LeasedRows.{IsLeased}

-- what was fetched into drafts, and the change that was made of it
abbrev pub GroupDrafts : {D : Type 0} → Ghosts D → ℕ → ℕ → List ℕ → List FileEntry
    → List WantedFile → LinksState → LinksState → List Draft → D → Drafted → Type 0
GroupDrafts on base number group listed wanted a c drafts disk made = (gave : List (List ℕ))
    × HasFetched listed wanted a c gave
    × AreSized drafts gave
    × AreHeld base drafts gave (on.seen disk)
    × (made.change ≡ change.Group number group (contents_for (listed_at listed wanted) drafts))
    × (made.reply ≡ says.Group (length listed))
    × (made.taken ≡ blocks_of_all drafts)
    × IsPermutation made.taken (brought made.change ++ made.unused)

module _ {D : Type 0} (on : Ghosts D) (room : Room) (tables : Tables) (lease : ℕ)
    (group : List ℕ) (view : View) (leased : IsLeased room tables lease view)
    (some : ◌≢◌ {A = List FileEntry} (group_files group view.application) [])
    (absent : group_stands group view.groups ≡ false) (are : AreTables tables)
    (law : GroupsShowTheFiles) (weigh : WeighWithGroup) (wanted : List WantedFile)
    (lacks : AreLacking room tables view group (map ungrouped (group_files group view.application))
    wanted) (a c : LinksState) (drafts : List Draft) (files mid last : FileStore)
    (uses : UsesBlocks files room (held_by tables)) (old here new : D)
    (drafted : Result Drafted Lack) (ended : PreparedFiles) (most : ℕ)
    (works : Works on [] drafts files mid old here most (drafted ≡ Err why.DiskFault))
    (ends : EndsAs drafted ended) (seals : Seals on drafts drafted mid last here new ended) where
  abbrev listed : List FileEntry
  listed = map ungrouped (group_files group view.application)

  -- not all files came, or there was no memory or no disk behind them
  module _ (reply : Reply) (stop : IsStopped listed wanted a c reply) where
    over : IsGroupOver room tables lease group a c reply
    over = stopped_over room tables lease group view leased some absent wanted lacks a c stop.kept reply stop

    ended_reply : ended ≡ to.Reply reply
        → IsGroupPrepared on room tables lease group a c files last new ended
    ended_reply is =
        subst (IsGroupPrepared on room tables lease group a c files last new) (sym is) (
          over,
          freed_reply on drafts files mid last old here new drafted ended most works ends seals reply
              is,
        )

  ended_fault : ended ≡ to.DiskFault → IsStopped listed wanted a c says.Memory
      → IsGroupPrepared on room tables lease group a c files last new ended
  ended_fault is stop =
      subst (IsGroupPrepared on room tables lease group a c files last new) (sym is) (
        over says.Memory stop,
        freed_fault on drafts files mid last old here new drafted ended most works ends seals is,
      )

  -- all came
  module _ (made : Drafted)
      (came : GroupDrafts on (store_base files) view.number group listed wanted a c drafts here made)
    where
      abbrev gave : List (List ℕ)
      gave = came.0

      got : HasBrought room tables view group listed a c wanted gave
      got = record { are = lacks; fetched = came.1 }

      held : AreHeld (blocks_start room.half) drafts gave (on.seen new)
      held =
          subst (λ (base : ℕ). AreHeld base drafts gave (on.seen new)) uses.base
          (subst (λ (image : List ℕ). AreHeld (store_base files) drafts gave image) (sym seals.seen)
          came.3)

      abbrev Ready : Change → Reply → Type 0
      Ready change reply =
          (ready : IsGroupReady (on.seen new) room tables lease group a c change reply)
          × Each on new (HasNew room change ready.bytes)
          × TakesBlocks files last change made.taken made.unused

      abbrev brings : Change
      brings = grows room tables lease group view leased some absent a c wanted gave drafts got came.2

      abbrev answer : Reply
      answer = group_says room tables lease group view leased some absent a c wanted gave drafts got came.2

      module _ (is : ended ≡ to.Change made.change made.reply made.taken made.unused) where
        stand : Each on new (AreContents (blocks_start room.half) (map draft_blocks drafts) gave)
        stand =
            let sealed : IsSealed on (store_base mid) drafts here new
            (to.Change made.change made.reply made.taken made.unused) =
            subst (IsSealed on (store_base mid) drafts here new) is seals.contents in
            subst (λ (base : ℕ). Each on new (AreContents base (map draft_blocks drafts) gave))
            (works.range.base ∙ uses.base)
            (sealed gave (subst (λ (base : ℕ). AreHeld base drafts gave (on.seen here))
            (sym works.range.base) came.3))

        takes : TakesBlocks files last brings made.taken made.unused
        takes = record {
          blocks =
              taken_then on drafts files mid last old here new drafted ended most works ends seals
              made.change made.reply made.taken made.unused is
              ∙ ap (λ (l : List ℕ). l ++ free_of last) (sym came.6);
          same = subst (λ (ch : Change).
              IsPermutation made.taken (brought ch ++ made.unused)) came.4 came.7;
        }

        ready : Ready brings answer
        ready =
            let all = ready_all room tables lease group view leased some absent a c wanted gave drafts
            got came.2 (on.seen new) held are law weigh in
            (all.0, (λ image left. all.1 image (stand image left)), takes)

        count_is : made.reply ≡ answer
        count_is = came.5 ∙ ap says.Group (length-map (group_files group view.application) ungrouped)

        ended_change : IsGroupPrepared on room tables lease group a c files last new ended
        ended_change =
            subst (IsGroupPrepared on room tables lease group a c files last new) (sym is)
            (subst (λ (r : Reply). Ready made.change r) (sym count_is)
            (subst (λ (ch : Change). Ready ch answer) (sym came.4) ready))

      ended_made : (ended ≡ to.Change made.change made.reply made.taken made.unused)
          ⊎ (ended ≡ to.DiskFault)
          → IsGroupPrepared on room tables lease group a c files last new ended
      ended_made (inl is) = ended_change is
      ended_made (inr is) = ended_fault is (memory_behind listed wanted a c gave came.1)

  -- by what came of the drafts
  module _ (fetched : IfOk drafted (GroupDrafts on (store_base files) view.number group listed wanted a c
      drafts here))
      (stopped : IfErr drafted (λ lack. IsStopped listed wanted a c (lack_reply lack))) where
    pub group_ended : IsGroupPrepared on room tables lease group a c files last new ended
    group_ended = by drafted refl
      where
        by : (d : Result Drafted Lack) → drafted ≡ d
            → IsGroupPrepared on room tables lease group a c files last new ended
        by (Ok made) was =
            let came : GroupDrafts on (store_base files) view.number group listed wanted a c drafts here
            made =
            subst (λ (r : Result Drafted Lack). IfOk r (GroupDrafts on (store_base files) view.number
            group listed wanted a c drafts here)) was fetched in
            ended_made made came (subst (λ (r : Result Drafted Lack). EndsAs r ended) was ends)
        by (Err (why.Reply reply)) was =
            ended_reply reply (subst (λ (r : Result Drafted Lack).
            IfErr r (λ lack. IsStopped listed wanted a c (lack_reply lack))) was stopped)
            (subst (λ (r : Result Drafted Lack). EndsAs r ended) was ends)
        by (Err why.DiskFault) was =
            ended_fault (subst (λ (r : Result Drafted Lack). EndsAs r ended) was ends)
            (subst (λ (r : Result Drafted Lack).
            IfErr r (λ lack. IsStopped listed wanted a c (lack_reply lack))) was stopped)
