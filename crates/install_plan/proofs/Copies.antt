-- The data files that plans carry over, copied into drafts one after another.
use Rattle.std.proofs.Common.{◌≡◌, ◌∙◌, ◌+◌, ◌*◌, ◌<◌, ◌≤◌, ◌++◌, refl, sym, ap, subst, ℕ, suc, true, List, [], ◌∷◌, length, map, take, drop, get_or, All, Contains, Option, Some, None, IsSome, bytes_eq, append_assoc, arith, inl, inr}
use Rattle.std.specs.Prelude.{sum_by}
use Rattle.std.proofs.lemmas.Grind.{flat_map-append}
use Rattle.std.proofs.lemmas.List.{append-nil, append_cancel_left, length-append, map-append}
use Rattle.std.proofs.lemmas.List.Elements.{All-cons, All-head, All-nil, Contains-append_left, Contains-append_right}
use Rattle.std.proofs.lemmas.List.Sums.{sum_by-append, sum_by-cons}
use Rattle.std.proofs.lemmas.Slice.Zip.{all_zipped_more}
use Rattle.small_types.specs.Blocks.{IsContent, KeepsOutside, ShareNone, blocks_start, bytes_in, count_for}
use Rattle.small_types.specs.declared.room.Room.{Room}
use Rattle.small_types.proofs.KeptBlocks.{bytes_content, content_stays}
use Rattle.disks.specs.declared.disk.Disk.{Ghosts}
use Rattle.file_store.specs.Stores.{AreUsed, blocks_of_all, draft_blocks, draft_size, free_of, store_base}
use Rattle.file_store.specs.declared.draft.Draft.{Draft}
use Rattle.file_store.specs.declared.store.FileStore.{FileStore}
use Rattle.line_drafts.specs.Added.{AddsDraft, AddsOne}
use Rattle.line_drafts.specs.Held.{AreHeld}
use Rattle.line_drafts.specs.Works.{Works}
use Rattle.line_drafts.proofs.Works.{works_as, works_more, works_same, works_then}
use Rattle.machine.proofs.Members.{In, all_in}
use Rattle.store_state.specs.declared.view.LocalFile.{LocalFile}
use Rattle.store_state.specs.Locals.{local_named}
use Rattle.store_state.specs.Measured.{IsMeasuredLocal}
use Rattle.store_state.specs.Stored.{HasLocals, data_bytes}
use Rattle.table_files.specs.Held.{held_for_locals}
use Rattle.data_migration.specs.declared.plan.LocalPlan.{LocalPlan}
use Rattle.data_migration.specs.declared.plan.LocalPlan.TheVariants.{Copy, Fresh}
use Rattle.install_plan.specs.Parts.{AddCopies, copied_locals, found_before}
use Rattle.install_plan.proofs.Fetches.{front_more, split_at}
use Rattle.install_plan.proofs.Keyed.{found}

-- ---- bytes in blocks

pub content_is : (base n : ℕ) (blocks content image : List ℕ) → length content ≡ n → IsContent base blocks content image → bytes_in base blocks n image ≡ content
unfolding IsContent
content_is base n blocks content image long is = ap (λ (k : ℕ). bytes_in base blocks k image) (sym long) ∙ is

-- a file's bytes are the same where none of its blocks was written
pub bytes_stay : (base : ℕ) (file : LocalFile) (written old new : List ℕ) → IsMeasuredLocal file → length (bytes_in base file.held file.length old) ≡ file.length → ShareNone file.held written → KeepsOutside base written old new
    → bytes_in base file.held file.length new ≡ bytes_in base file.held file.length old
bytes_stay base file written old new measured whole none keeps =
    let content = bytes_in base file.held file.length old in
    content_is base file.length file.held content new whole
    (content_stays base file.held content old new (omega (arith, whole, measured)) (bytes_content base file.length file.held old whole) written none keeps)

-- ---- one file

module _ {D : Type 0} (on : Ghosts D) (drafts drafts' : List Draft) (files files' : FileStore) (old new : D) (file : LocalFile) where
  pub one_left : (most : ℕ) (fault : Type 0) → Works on drafts drafts' files files' old new most fault → AddsOne drafts drafts' file.length → length (free_of files) ≡ count_for file.length + length (free_of files')
  one_left most fault works adds =
      let more : works.more ≡ adds.draft ∷ [] = append_cancel_left drafts works.more (adds.draft ∷ []) (sym works.added ∙ adds.added) in
      let blocks : blocks_of_all works.more ≡ draft_blocks adds.draft = ap blocks_of_all more ∙ append-nil (draft_blocks adds.draft) in
      let counted : length (draft_blocks adds.draft) ≡ count_for file.length = adds.draft.counted ∙ ap count_for adds.size in
      omega (arith, ap length works.taken, length-append (blocks_of_all works.more) (free_of files'), ap length blocks, counted)

  pub one_held : ((content : List ℕ) → length content ≡ file.length → IsContent (store_base files) file.held content (on.seen old) → ShareNone file.held (free_of files) → AddsDraft on drafts drafts' files files' old new content)
      → (room : Room) (contents : List (List ℕ)) → store_base files ≡ blocks_start room.half → ShareNone file.held (free_of files) → HasLocals room (on.seen old) (file ∷ []) → AreHeld (store_base files) drafts contents (on.seen old)
      → AreHeld (store_base files) drafts' (contents ++ data_bytes room (on.seen old) file ∷ []) (on.seen new)
  one_held copied room contents base none has held =
      let whole : length (data_bytes room (on.seen old) file) ≡ file.length = All-head (λ (f : LocalFile). length (data_bytes room (on.seen old) f) ≡ f.length) file [] has in
      let is : IsContent (store_base files) file.held (data_bytes room (on.seen old) file) (on.seen old) =
      subst (λ (b : ℕ). IsContent b file.held (data_bytes room (on.seen old) file) (on.seen old)) (sym base) (bytes_content (blocks_start room.half) file.length file.held (on.seen old) whole) in
      (copied (data_bytes room (on.seen old) file) whole is none).held contents held

-- ---- which files

joined : (o : Option LocalFile) (xs ys : List LocalFile) → found_before o (xs ++ ys) ≡ found_before o xs ++ ys
joined None xs ys = refl
joined (Some file) xs ys = refl

pub copied_append : (old : List LocalFile) (xs ys : List LocalPlan) → copied_locals old (xs ++ ys) ≡ copied_locals old xs ++ copied_locals old ys
copied_append old [] ys = refl
copied_append old (Fresh name ∷ xs) ys = copied_append old xs ys
copied_append old (Copy from to ∷ xs) ys = ap (found_before (local_named from old)) (copied_append old xs ys) ∙ joined (local_named from old) (copied_locals old xs) (copied_locals old ys)

-- the files' blocks and their bytes
abbrev pub blocks_in : List LocalFile → ℕ
blocks_in files = sum_by (λ (file : LocalFile). count_for file.length) files

abbrev pub bytes_all : List LocalFile → ℕ
bytes_all files = sum_by (λ (file : LocalFile). file.length) files

sum_one : (g : LocalFile → ℕ) (files : List LocalFile) (file : LocalFile) → sum_by g (files ++ file ∷ []) ≡ sum_by g files + g file
sum_one g files file = sum_by-append g files (file ∷ []) ∙ ap (λ (n : ℕ). sum_by g files + n) (sum_by-cons g file [] ∙ omega arith)

one_all : (P : LocalFile → Type 0) (file : LocalFile) → P file → All P (file ∷ [])
one_all P file holds = All-cons P file [] holds (All-nil P)

-- a file's blocks are among those of all
pub blocks_among : (files : List LocalFile) (file : LocalFile) (block : ℕ) → In file files → Contains file.held block → Contains (held_for_locals files) block
blocks_among [] file block there listed = absurd there
blocks_among (first ∷ files) file block (inl is) listed = Contains-append_left first.held (held_for_locals files) block (subst (λ (f : LocalFile). Contains f.held block) (sym is) listed)
blocks_among (first ∷ files) file block (inr there) listed = Contains-append_right first.held (held_for_locals files) block (blocks_among files file block there listed)

-- ---- one after another

module _ {D : Type 0} (on : Ghosts D) (old : List LocalFile) where
  -- These plans' files were copied, each into a draft of its own.
  pub record CopiedSo (plans : List LocalPlan) (first last : List Draft) (files there : FileStore) (disk now : D) : Type 0 where
    pub adds : AddCopies first last (copied_locals old plans)
    pub left : length (free_of files) ≡ blocks_in (copied_locals old plans) + length (free_of there)
    pub held : (room : Room) (contents : List (List ℕ)) → on.tells now → store_base files ≡ blocks_start room.half → ShareNone (held_for_locals old) (free_of files) → HasLocals room (on.seen disk) old
        → AreHeld (store_base files) first contents (on.seen disk) → AreHeld (store_base files) last (contents ++ map (data_bytes room (on.seen disk)) (copied_locals old plans)) (on.seen now)
    pub works : Works on first last files there disk now (bytes_all (copied_locals old plans)) ⊥

  pub copied_none : (drafts : List Draft) (files : FileStore) (disk : D) → AreUsed files (blocks_of_all drafts) → CopiedSo [] drafts drafts files files disk disk
  copied_none drafts files disk used = record {
    adds = record { copies = []; added = sym (append-nil drafts); are = tt };
    left = omega arith;
    held = λ room contents told base none has held. subst (λ (cs : List (List ℕ)). AreHeld (store_base files) drafts cs (on.seen disk)) (sym (append-nil contents)) held;
    works = works_same on drafts files disk ⊥ (λ no. no) used;
  }

  pub as_there : (plans : List LocalPlan) (first last last' : List Draft) (files there there' : FileStore) (disk now now' : D) → last' ≡ last → there' ≡ there → now' ≡ now → CopiedSo plans first last files there disk now
      → CopiedSo plans first last' files there' disk now'
  as_there plans first last last' files there there' disk now now' drafts_are files_are disk_is so =
      subst (λ (d : D). CopiedSo plans first last' files there' disk d) (sym disk_is)
      (subst (λ (f : FileStore). CopiedSo plans first last' files f disk now) (sym files_are) (subst (λ (l : List Draft). CopiedSo plans first l files there disk now) (sym drafts_are) so))

  module _ (plans : List LocalPlan) (first mid : List Draft) (files here : FileStore) (disk now : D) (i : ℕ) (plan : LocalPlan) (lt : i < length plans) (is : plan ≡ get_or plans i plan)
      (so : CopiedSo (take i plans) first mid files here disk now) where
    -- it carries none over
    pub copied_still : (name : List ℕ) → plan ≡ Fresh name → CopiedSo (take (i + 1) plans) first mid files here disk now
    copied_still name fresh =
        let same : copied_locals old (take (i + 1) plans) ≡ copied_locals old (take i plans) =
        ap (copied_locals old) (front_more plans i plan lt is) ∙ ap (λ (p : LocalPlan). copied_locals old (take i plans ++ p ∷ [])) fresh
        ∙ copied_append old (take i plans) (Fresh name ∷ []) ∙ append-nil (copied_locals old (take i plans)) in
        record {
          adds = subst (AddCopies first mid) (sym same) so.adds;
          left = so.left ∙ ap (λ (fs : List LocalFile). blocks_in fs + length (free_of here)) (sym same);
          held = λ room contents told base none has held.
              subst (λ (fs : List LocalFile). AreHeld (store_base files) mid (contents ++ map (data_bytes room (on.seen disk)) fs) (on.seen now)) (sym same) (so.held room contents told base none has held);
          works = subst (λ (fs : List LocalFile). Works on first mid files here disk now (bytes_all fs) ⊥) (sym same) so.works;
        }

    pub copied_other : ((from to : List ℕ) → plan ≡ Copy from to → ⊥) → CopiedSo (take (i + 1) plans) first mid files here disk now
    copied_other none = by plan refl
      where
        by : (p : LocalPlan) → plan ≡ p → CopiedSo (take (i + 1) plans) first mid files here disk now
        by (Copy from to) e = absurd (none from to e)
        by (Fresh name) e = copied_still name e

    module _ (from to : List ℕ) (copy : plan ≡ Copy from to) (file : LocalFile) (named : Some file ≡ local_named from old) where
      more_is : copied_locals old (take (i + 1) plans) ≡ copied_locals old (take i plans) ++ file ∷ []
      more_is =
          ap (copied_locals old) (front_more plans i plan lt is) ∙ ap (λ (p : LocalPlan). copied_locals old (take i plans ++ p ∷ [])) copy
          ∙ copied_append old (take i plans) (Copy from to ∷ []) ∙ ap (λ (o : Option LocalFile). copied_locals old (take i plans) ++ found_before o []) (sym named)

      all_is : copied_locals old plans ≡ (copied_locals old (take i plans) ++ file ∷ []) ++ copied_locals old (drop (suc i) plans)
      all_is =
          ap (copied_locals old) (split_at plans i plan lt is ∙ sym (append_assoc (take i plans) (plan ∷ []) (drop (suc i) plans)))
          ∙ copied_append old (take i plans ++ plan ∷ []) (drop (suc i) plans)
          ∙ ap (λ (fs : List LocalFile). fs ++ copied_locals old (drop (suc i) plans)) (ap (copied_locals old) (sym (front_more plans i plan lt is)) ∙ more_is)

      sums : (f : LocalFile → ℕ) → sum_by f (copied_locals old plans) ≡ (sum_by f (copied_locals old (take i plans)) + f file) + sum_by f (copied_locals old (drop (suc i) plans))
      sums f =
          ap (sum_by f) all_is ∙ sum_by-append f (copied_locals old (take i plans) ++ file ∷ []) (copied_locals old (drop (suc i) plans))
          ∙ ap (λ (n : ℕ). n + sum_by f (copied_locals old (drop (suc i) plans))) (sum_one f (copied_locals old (take i plans)) file)

      pub file_in : In file old
      file_in =
          let one = found (λ (f : LocalFile). bytes_eq f.name from) old (subst (λ (o : Option LocalFile). IsSome o) named refl) in
          subst (λ (f : LocalFile). In f old) (same one.item (one.is)) one.there
        where
          same : (item : LocalFile) → local_named from old ≡ Some item → item ≡ file
          same item found_is = let e = named ∙ found_is in cc

      pub file_measured : All IsMeasuredLocal old → IsMeasuredLocal file
      file_measured measured = all_in IsMeasuredLocal old file measured file_in

      -- there are blocks for it
      pub copy_blocks : blocks_in (copied_locals old plans) ≤ length (free_of files) → count_for file.length ≤ length (free_of here)
      copy_blocks room = omega (arith, room, so.left, sums (λ (f : LocalFile). count_for f.length))

      module _ (last : List Draft) (there : FileStore) (new : D) (fault : Type 0) (works : Works on mid last here there now new file.length fault) where
        works_both : Works on first last files there disk new (bytes_all (copied_locals old (take i plans)) + file.length) fault
        works_both = works_then on (λ no. no) so.works works

        -- the copy failed
        pub copied_stop : Works on first last files there disk new (bytes_all (copied_locals old plans)) fault
        copied_stop = works_more on (bytes_all (copied_locals old plans)) (omega (arith, sums (λ (f : LocalFile). f.length))) works_both

        -- it came
        module _ (none_failed : fault → ⊥) (measured : All IsMeasuredLocal old) (one : AddsOne mid last file.length) (left : length (free_of here) ≡ count_for file.length + length (free_of there))
            (held : (room : Room) (contents : List (List ℕ)) → on.tells new → store_base here ≡ blocks_start room.half → ShareNone file.held (free_of here) → HasLocals room (on.seen now) (file ∷ [])
            → AreHeld (store_base here) mid contents (on.seen now) → AreHeld (store_base here) last (contents ++ data_bytes room (on.seen now) file ∷ []) (on.seen new)) where
          held_more : (room : Room) (contents : List (List ℕ)) → on.tells new → store_base files ≡ blocks_start room.half → ShareNone (held_for_locals old) (free_of files) → HasLocals room (on.seen disk) old
              → AreHeld (store_base files) first contents (on.seen disk) → AreHeld (store_base files) last (contents ++ map (data_bytes room (on.seen disk)) (copied_locals old (take i plans) ++ file ∷ [])) (on.seen new)
          held_more room contents told base none has before =
              let bytes = data_bytes room (on.seen disk) in
              let apart : ShareNone file.held (free_of files) = λ block listed free. none block (blocks_among old file block file_in listed) free in
              let whole : length (bytes file) ≡ file.length = all_in (λ (f : LocalFile). length (bytes f) ≡ f.length) old file has file_in in
              let keeps : KeepsOutside (blocks_start room.half) (free_of files) (on.seen disk) (on.seen now) = subst (λ (b : ℕ). KeepsOutside b (free_of files) (on.seen disk) (on.seen now)) base so.works.only.reads in
              let stays : data_bytes room (on.seen now) file ≡ bytes file = bytes_stay (blocks_start room.half) file (free_of files) (on.seen disk) (on.seen now) (file_measured measured) whole apart keeps in
              let done = contents ++ map bytes (copied_locals old (take i plans)) in
              let so_far : AreHeld (store_base here) mid done (on.seen now) =
              subst (λ (b : ℕ). AreHeld b mid done (on.seen now)) (sym so.works.range.base) (so.held room contents (works.spends.1.told told) base none has before) in
              let added = held room done told (so.works.range.base ∙ base)
              (λ block listed free. apart block listed (subst (λ (l : List ℕ). Contains l block) (sym so.works.taken) (Contains-append_right (blocks_of_all so.works.more) (free_of here) block free)))
              (one_all (λ (f : LocalFile). length (data_bytes room (on.seen now) f) ≡ f.length) file (ap length stays ∙ whole)) so_far in
              subst (λ (b : ℕ). AreHeld b last (contents ++ map bytes (copied_locals old (take i plans) ++ file ∷ [])) (on.seen new)) so.works.range.base
              (subst (λ (cs : List (List ℕ)). AreHeld (store_base here) last cs (on.seen new))
              (ap (λ (b : List ℕ). done ++ b ∷ []) stays ∙ append_assoc contents (map bytes (copied_locals old (take i plans))) (bytes file ∷ [])
              ∙ ap (λ (cs : List (List ℕ)). contents ++ cs) (sym (map-append bytes (copied_locals old (take i plans)) (file ∷ [])))) added)

          pub copied_more : CopiedSo (take (i + 1) plans) first last files there disk new
          copied_more = record {
            adds = subst (AddCopies first last) (sym more_is) (record {
              copies = so.adds.copies ++ one.draft ∷ [];
              added = one.added ∙ ap (λ (ds : List Draft). ds ++ one.draft ∷ []) so.adds.added ∙ append_assoc first so.adds.copies (one.draft ∷ []);
              are = all_zipped_more (λ (d : Draft) (f : LocalFile). draft_size d ≡ f.length) so.adds.copies (copied_locals old (take i plans)) one.draft file so.adds.are one.size;
            });
            left = omega (arith, so.left, left, ap blocks_in more_is, sum_one (λ (f : LocalFile). count_for f.length) (copied_locals old (take i plans)) file);
            held = λ room contents told base none has before.
                subst (λ (fs : List LocalFile). AreHeld (store_base files) last (contents ++ map (data_bytes room (on.seen disk)) fs) (on.seen new)) (sym more_is) (held_more room contents told base none has before);
            works = works_as on ⊥ none_failed (λ no. absurd no) (works_more on (bytes_all (copied_locals old (take (i + 1) plans))) (omega (arith, ap bytes_all more_is, sum_one (λ (f : LocalFile). f.length) (copied_locals old (take i plans)) file)) works_both);
          }
