-- The wanted files, fetched into drafts one after another.
use Rattle.std.proofs.Common.{◌≡◌, ◌∙◌, ◌+◌, ◌*◌, ◌<◌, ◌≤◌, ◌++◌, ℕ, zero, suc, Bool, true, false, List, [], ◌∷◌, length, take, drop, get_or, Some, inl, inr, refl, sym, ap, subst, append_assoc, arith}
use Rattle.std.specs.Prelude.{slice_get, sum_by}
use Rattle.std.specs.List.{AllZip}
use Rattle.std.proofs.lemmas.Bool.{false≢true}
use Rattle.std.proofs.lemmas.List.{take_all}
use Rattle.std.proofs.lemmas.List.{append-nil, length-append}
use Rattle.std.proofs.lemmas.List.Sums.{sum_by-append, sum_by-cons, sum_by_push}
use Rattle.std.proofs.lemmas.Slice.Zip.{all_zipped_more}
use Rattle.std.proofs.Math.Nat.{mul-le-mul_left}
use Rattle.small_types.specs.Blocks.{count_for}
use Rattle.small_types.specs.declared.target.Target.{Target}
use Rattle.disks.specs.declared.disk.Disk.{Ghosts}
use Rattle.manifests.specs.declared.facts.FileEntry.{FileEntry}
use Rattle.machine.specs.declared.reply.Reply.{Reply}
use Rattle.machine.specs.declared.reply.Reply.TheVariants.{AllLinks, Memory}
use Rattle.links.specs.Links.{LinksState, count_there, is_there, sources_of}
use Rattle.fetcher.specs.Fetched.{WasAsked, Kept, KeptBut, MayAsk}
use Rattle.file_store.specs.Stores.{AreUsed, blocks_of_all, draft_blocks, draft_size, free_of, store_base}
use Rattle.file_store.specs.declared.draft.Draft.{Draft}
use Rattle.file_store.specs.declared.store.FileStore.{FileStore}
use Rattle.line_drafts.specs.Added.{AddsDraft}
use Rattle.line_drafts.specs.Held.{AreHeld}
use Rattle.line_drafts.specs.Works.{Works}
use Rattle.line_drafts.proofs.Works.{works_as, works_more, works_same, works_then}
use Rattle.install_plan.specs.declared.plan.WantedFile.{WantedFile}
use Rattle.install_plan.specs.Drafted.{AreSized}
use Rattle.install_plan.specs.FetchedFiles.{ArePlaces, AsksFirst, HasFetched, IsEntryAt, IsFetched, IsLack, IsStopped, WritesAsked, WritesOne, blocks_needed, size_in}
use Rattle.install_plan.proofs.Fetches.{asks_first, at_place, front_more, nothing_yet, one_more, split_at, stopped}

-- ---- links

-- of those that are left no more are left later
fewer_there : (old new : List Bool) → length new ≡ length old
    → ((n : ℕ) → is_there new n ≡ true → is_there old n ≡ true)
    → count_there new ≤ count_there old
fewer_there [] [] all those = omega arith
fewer_there [] (one ∷ new) all those = absurd (omega arith)
fewer_there (one ∷ old) [] all those = absurd (omega arith)
fewer_there (true ∷ old) (true ∷ new) all those =
    let rest = fewer_there old new (omega arith) (λ n. those (suc n)) in omega (arith, rest)
fewer_there (true ∷ old) (false ∷ new) all those =
    let rest = fewer_there old new (omega arith) (λ n. those (suc n)) in omega (arith, rest)
fewer_there (false ∷ old) (true ∷ new) all those = absurd (false≢true (those zero refl))
fewer_there (false ∷ old) (false ∷ new) all those =
    fewer_there old new (omega arith) (λ n. those (suc n))

pub fewer_sources : (old new : LinksState) → Kept old new → sources_of new ≤ sources_of old
fewer_sources old new kept = fewer_there old.there new.there kept.all kept.left

-- a target that was asked for makes the list longer
pub not_asked : (target : Target) (old new : LinksState) → WasAsked target old new
    → new.asked ≡ old.asked → ⊥
not_asked target old new asked same =
    let long : length new.asked ≡ length old.asked + 1 =
    ap length asked ∙ length-append old.asked (target ∷ []) in
    let short : length new.asked ≡ length old.asked = ap length same in
    omega (arith, long, short)

-- it was asked for, or there was no memory
pub may_ask : (entry : FileEntry) (target : Target) (old new : LinksState) (reply : Reply)
    → IsLack entry target old new reply → MayAsk target old new
may_ask entry target old new (AllLinks named reasons) lack = inr lack.1
may_ask entry target old new Memory lack = lack
may_ask entry target old new _ lack = absurd lack

-- all files were fetched, and then there was no memory
pub memory_behind : (listed : List FileEntry) (wanted : List WantedFile) (a c : LinksState)
    (gave : List (List ℕ)) → HasFetched listed wanted a c gave
    → IsStopped listed wanted a c Memory
memory_behind listed wanted a c gave got = record {
  kept = got.kept;
  stops = record {
    asked = wanted;
    others = [];
    wants = sym (append-nil wanted);
    grown = got.grown;
  };
}

-- ---- numbers

pub zip_long : {X Y : Type 0} (P : X → Y → Type 0) (xs : List X) (ys : List Y) → AllZip P xs ys
    → length xs ≡ length ys
zip_long P [] [] all = refl
zip_long P [] (y ∷ ys) all = absurd all
zip_long P (x ∷ xs) [] all = absurd all
zip_long P (x ∷ xs) (y ∷ ys) all = let rest = zip_long P xs ys all.1 in omega (arith, rest)

-- the bytes of these files
abbrev pub bytes_of : List FileEntry → List WantedFile → ℕ
bytes_of listed wanted = sum_by (λ file. size_in (slice_get listed file.place)) wanted

module _ {D : Type 0} (on : Ghosts D) where
  -- These files were fetched, each into a draft of its own.
  pub record FetchedSo (listed : List FileEntry) (wanted : List WantedFile)
      (before after : LinksState) (drafts_old drafts_new : List Draft)
      (files_old files_new : FileStore) (disk_old disk_new : D) : Type 0 where
    pub gave : List (List ℕ)
    pub got : HasFetched listed wanted before after gave
    pub sized : (contents : List (List ℕ)) → AreSized drafts_old contents
        → AreSized drafts_new (contents ++ gave)
    pub held : (contents : List (List ℕ))
        → AreHeld (store_base files_old) drafts_old contents (on.seen disk_old)
        → AreHeld (store_base files_old) drafts_new (contents ++ gave) (on.seen disk_new)
    pub left : length (free_of files_old)
        ≡ blocks_needed listed wanted + length (free_of files_new)
    pub works : Works on drafts_old drafts_new files_old files_new disk_old disk_new
        (sources_of before * bytes_of listed wanted) ⊥

  -- none yet
  pub fetched_none : (listed : List FileEntry) (wanted : List WantedFile) (a : LinksState)
      (drafts : List Draft) (files : FileStore) (disk : D) → AreUsed files (blocks_of_all drafts)
      → FetchedSo listed (take 0 wanted) a a drafts drafts files files disk disk
  fetched_none listed wanted a drafts files disk used = record {
    gave = [];
    got = nothing_yet listed wanted a;
    sized = λ contents sized.
        subst (λ (cs : List (List ℕ)). AreSized drafts cs) (sym (append-nil contents)) sized;
    held = λ contents held.
        subst (λ (cs : List (List ℕ)). AreHeld (store_base files) drafts cs (on.seen disk))
        (sym (append-nil contents)) held;
    left = omega arith;
    works = works_more on (sources_of a * bytes_of listed (take 0 wanted)) (omega arith)
        (works_same on drafts files disk ⊥ (λ no. no) used);
  }

  -- ---- one file more

  module _ (listed : List FileEntry) (wanted : List WantedFile) (places : ArePlaces listed wanted)
      (a b c : LinksState) (first mid last : List Draft) (files here there : FileStore)
      (old now new : D) (i : ℕ) (file : WantedFile) (entry : FileEntry) (lt : i < length wanted)
      (is : file ≡ get_or wanted i file) (entry_is : entry ≡ get_or listed file.place entry)
      (so : FetchedSo listed (take i wanted) a b first mid files here old now) where
    at : slice_get listed file.place ≡ Some entry
    at = at_place listed wanted i file entry places lt is entry_is

    size_is : size_in (slice_get listed file.place) ≡ entry.size
    size_is = ap size_in at

    -- there are blocks for it
    pub has_blocks : blocks_needed listed wanted ≤ length (free_of files)
        → count_for entry.size ≤ length (free_of here)
    has_blocks room =
        let count = λ (f : WantedFile). count_for (size_in (slice_get listed f.place)) in
        let all : blocks_needed listed wanted
        ≡ blocks_needed listed (take i wanted) + blocks_needed listed (file ∷ drop (suc i) wanted) =
        ap (sum_by count) (split_at wanted i file lt is)
        ∙ sum_by-append count (take i wanted) (file ∷ drop (suc i) wanted) in
        let first_of : blocks_needed listed (file ∷ drop (suc i) wanted)
        ≡ count_for (size_in (slice_get listed file.place))
        + blocks_needed listed (drop (suc i) wanted) =
        sum_by-cons count file (drop (suc i) wanted) in
        let one : count_for (size_in (slice_get listed file.place)) ≡ count_for entry.size =
        ap count_for size_is in
        by (blocks_needed listed wanted) (blocks_needed listed (take i wanted))
        (blocks_needed listed (file ∷ drop (suc i) wanted))
        (count_for (size_in (slice_get listed file.place)))
        (blocks_needed listed (drop (suc i) wanted)) (count_for entry.size)
        (length (free_of files)) (length (free_of here)) room all first_of one so.left
      where
        by : (whole before from first others own free left : ℕ) → whole ≤ free
            → whole ≡ before + from → from ≡ first + others → first ≡ own
            → free ≡ before + left → own ≤ left
        by whole before from first others own free left room all first_of one so = omega arith

    module _ (but : KeptBut (IsEntryAt entry file.target) b c) (most : ℕ) (fault : Type 0)
        (writes : WritesOne entry b c most)
        (works : Works on mid last here there now new most fault) where
      few : sources_of b ≤ sources_of a
      few = fewer_sources a b so.got.kept.kept

      less : most ≤ entry.size * sources_of a
      less = omega (arith, writes.within, mul-le-mul_left entry.size few)

      bytes_more : bytes_of listed (take i wanted ++ file ∷ [])
          ≡ bytes_of listed (take i wanted) + entry.size
      bytes_more =
          sum_by_push (λ f. size_in (slice_get listed f.place)) (take i wanted) file
          ∙ ap (λ (n : ℕ). bytes_of listed (take i wanted) + n) size_is

      within_more : sources_of a * bytes_of listed (take i wanted) + most
          ≤ sources_of a * bytes_of listed (take i wanted ++ file ∷ [])
      within_more =
          let all = ap (λ (n : ℕ). sources_of a * n) bytes_more in
          omega (arith, less, all)

      works_both : Works on first last files there old new
          (sources_of a * bytes_of listed (take i wanted) + most) fault
      works_both = works_then on (λ no. no) so.works works

      -- it came
      module _ (bytes : List ℕ) (got : IsFetched entry file.target b c bytes)
          (adds : AddsDraft on mid last here there now new bytes) (none : fault → ⊥) where
        held_more : (contents : List (List ℕ))
            → AreHeld (store_base files) first contents (on.seen old)
            → AreHeld (store_base files) last (contents ++ (so.gave ++ bytes ∷ [])) (on.seen new)
        held_more contents held =
            subst (λ (cs : List (List ℕ)). AreHeld (store_base files) last cs (on.seen new))
            (append_assoc contents so.gave (bytes ∷ []))
            (subst (λ (base : ℕ). AreHeld base last ((contents ++ so.gave) ++ bytes ∷ [])
            (on.seen new)) so.works.range.base
            (adds.held (contents ++ so.gave)
            (subst (λ (base : ℕ). AreHeld base mid (contents ++ so.gave) (on.seen now))
            (sym so.works.range.base) (so.held contents held))))

        sized_more : (contents : List (List ℕ)) → AreSized first contents
            → AreSized last (contents ++ (so.gave ++ bytes ∷ []))
        sized_more contents sized =
            subst (λ (cs : List (List ℕ)). AreSized last cs)
            (append_assoc contents so.gave (bytes ∷ []))
            (subst (λ (ds : List Draft). AreSized ds ((contents ++ so.gave) ++ bytes ∷ []))
            (sym adds.added)
            (all_zipped_more (λ (d : Draft) (content : List ℕ). draft_size d ≡ length content) mid
            (contents ++ so.gave) adds.draft bytes (so.sized contents sized) adds.size))

        sized : length bytes ≡ entry.size
        sized = got.is.from.fits.sized

        counted : length (draft_blocks adds.draft) ≡ count_for entry.size
        counted = adds.draft.counted ∙ ap count_for (adds.size ∙ sized)

        left_more : length (free_of files)
            ≡ blocks_needed listed (take i wanted ++ file ∷ []) + length (free_of there)
        left_more =
            let more = sum_by_push (λ f. count_for (size_in (slice_get listed f.place)))
            (take i wanted) file in
            let one : count_for (size_in (slice_get listed file.place)) ≡ count_for entry.size =
            ap count_for size_is in
            let taken : length (free_of here)
            ≡ length (draft_blocks adds.draft) + length (free_of there) =
            ap length adds.blocks ∙ length-append (draft_blocks adds.draft) (free_of there) in
            omega (arith, so.left, more, one, taken, counted)

        pub fetched_more : FetchedSo listed (take (i + 1) wanted) a c first last files there old new
        fetched_more =
            subst (λ (ws : List WantedFile).
            FetchedSo listed ws a c first last files there old new)
            (sym (front_more wanted i file lt is)) (record {
              gave = so.gave ++ bytes ∷ [];
              got = one_more listed a b c (take i wanted) so.gave file entry at so.got but bytes got;
              sized = sized_more;
              held = held_more;
              left = left_more;
              works = works_more on (sources_of a * bytes_of listed (take i wanted ++ file ∷ []))
                  within_more (works_as on ⊥ none (λ no. absurd no) works_both);
            })

      -- it did not come
      module _ (reply : Reply) (lack : IsLack entry file.target b c reply) where
        abbrev asks : MayAsk file.target b c → AsksFirst wanted a c
        asks =
            asks_first listed a b c (take i wanted) so.gave file entry at so.got but wanted
            (drop (suc i) wanted) (split_at wanted i file lt is)

        bounded : (may : MayAsk file.target b c)
            → sources_of a * bytes_of listed (take i wanted) + most
            ≤ sources_of a * bytes_of listed (asks may).asked
        bounded (inl same) = let none = writes.none same in omega (arith, none)
        bounded (inr asked) = within_more

        pub stopped_at : IsStopped listed wanted a c reply
        stopped_at =
            stopped listed a b c (take i wanted) so.gave file entry at so.got but wanted
            (drop (suc i) wanted) (split_at wanted i file lt is) reply lack

        pub stopped_works : (all : ℕ) × WritesAsked listed wanted a c all
            × Works on first last files there old new all fault
        stopped_works =
            let may = may_ask entry file.target b c reply lack in (
              sources_of a * bytes_of listed (take i wanted) + most,
              record { first = asks may; within = bounded may },
              works_both,
            )

  -- ---- all files

  -- those of the loop are all of them
  pub all_so : (listed : List FileEntry) (wanted : List WantedFile) (i : ℕ) (a c : LinksState)
      (first last : List Draft) (files there : FileStore) (old new : D) → length wanted ≤ i
      → FetchedSo listed (take i wanted) a c first last files there old new
      → FetchedSo listed wanted a c first last files there old new
  all_so listed wanted i a c first last files there old new over so =
      subst (λ (ws : List WantedFile). FetchedSo listed ws a c first last files there old new)
      (take_all i wanted over) so

  module _ (listed : List FileEntry) (wanted : List WantedFile) (a c : LinksState)
      (first last : List Draft) (files there : FileStore) (old new : D)
      (so : FetchedSo listed wanted a c first last files there old new) (fault : Type 0)
      (none : fault → ⊥) where
    pub all_works : (all : ℕ) × WritesAsked listed wanted a c all
        × Works on first last files there old new all fault
    all_works = (
      sources_of a * bytes_of listed wanted,
      record {
        first = record {
          asked = wanted;
          others = [];
          wants = sym (append-nil wanted);
          grown = so.got.grown;
        };
        within = omega arith;
      },
      works_as on fault (λ no. absurd no) none so.works,
    )

-- ---- where there were no drafts before

module _ (first last : List Draft) (gave : List (List ℕ)) (none : first ≡ []) where
  pub sized_first : ((contents : List (List ℕ)) → AreSized first contents
      → AreSized last (contents ++ gave))
      → AreSized last gave
  sized_first sized = sized [] (subst (λ (ds : List Draft). AreSized ds []) (sym none) tt)

  pub all_drafted : (listed : List FileEntry) (wanted : List WantedFile) (a c : LinksState)
      → HasFetched listed wanted a c gave
      → ((contents : List (List ℕ)) → AreSized first contents → AreSized last (contents ++ gave))
      → length last ≡ length wanted
  all_drafted listed wanted a c got sized =
      zip_long _ last gave (sized_first sized) ∙ sym (zip_long _ wanted gave got.each)

  pub held_first : (base : ℕ) (seen then : List ℕ)
      → ((contents : List (List ℕ)) → AreHeld base first contents seen
      → AreHeld base last (contents ++ gave) then)
      → AreHeld base last gave then
  held_first base seen then held =
      held [] (subst (λ (ds : List Draft). AreHeld base ds [] seen) (sym none) tt)
