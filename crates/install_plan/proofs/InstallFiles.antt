-- The files of an install in drafts: those that were fetched, and then the copies.
use Rattle.std.proofs.Common.{◌≡◌, ◌∙◌, ◌+◌, ◌≤◌, ◌++◌, refl, sym, ap, subst, ℕ, List, [], ◌∷◌, drop, length, map, All, Contains, IsSome, Option, Some, None, bytes_eq, inl, inr, arith}
use Rattle.std.specs.Prelude.{count_by, sum_by}
use Rattle.std.specs.List.{AllZip}
use Rattle.std.proofs.lemmas.List.{append-nil, length-append}
use Rattle.std.proofs.lemmas.List.Elements.{Contains-append_right}
use Rattle.std.proofs.lemmas.Slice.Zip.{AllZip-long}
use Rattle.small_types.specs.Blocks.{KeepsOutside, ShareNone, blocks_start}
use Rattle.small_types.specs.declared.room.Room.{Room}
use Rattle.disks.specs.declared.disk.Disk.{Ghosts}
use Rattle.manifests.specs.declared.facts.FileEntry.{FileEntry}
use Rattle.machine.specs.declared.reply.Reply.{Reply}
use Rattle.machine.specs.declared.reply.Reply.TheVariants.{Memory}
use Rattle.machine.proofs.Members.{In, all_in, in_all}
use Rattle.links.specs.Links.{LinksState, sources_of}
use Rattle.fetcher.proofs.Liars.{but_all}
use Rattle.fetcher.proofs.Sequence.{all_same}
use Rattle.file_store.specs.Stores.{AreUsed, DraftHolds, blocks_of_all, free_of, store_base}
use Rattle.file_store.specs.declared.draft.Draft.{Draft}
use Rattle.file_store.specs.declared.store.FileStore.{FileStore}
use Rattle.line_drafts.specs.Held.{AreHeld}
use Rattle.line_drafts.specs.Works.{Works}
use Rattle.line_drafts.proofs.Works.{works_same, works_then}
use Rattle.store_state.specs.declared.view.LocalFile.{LocalFile}
use Rattle.store_state.specs.Locals.{local_named}
use Rattle.store_state.specs.Measured.{IsMeasuredLocal}
use Rattle.store_state.specs.Stored.{HasLocals, data_bytes}
use Rattle.table_files.specs.Held.{held_for_locals}
use Rattle.data_migration.specs.declared.plan.LocalPlan.{LocalPlan}
use Rattle.data_migration.specs.declared.plan.LocalPlan.TheVariants.{Copy, Fresh}
use Rattle.install_plan.specs.declared.plan.WantedFile.{WantedFile}
use Rattle.install_plan.specs.Drafted.{AreSized}
use Rattle.install_plan.specs.FetchedFiles.{HasFetched, IsListedIn, IsStopped, WritesAsked, addresses}
use Rattle.install_plan.specs.InstallDrafts.{HasDrafted}
use Rattle.install_plan.specs.Parts.{AddCopies, AreCopies, copied_locals, found_before}
use Rattle.install_plan.proofs.Copies.{blocks_among, bytes_stay}
use Rattle.install_plan.proofs.Keyed.{found}

-- what is copied is among the old ones
found_in : (old rest : List LocalFile) (name : List ℕ) (file : LocalFile) → (o : Option LocalFile) → local_named name old ≡ o → In file (found_before o rest) → (In file rest → In file old) → In file old
found_in old rest name file None is there more = more there
found_in old rest name file (Some one) is (inl same) more =
    let first = found (λ (f : LocalFile). bytes_eq f.name name) old (subst (λ (o : Option LocalFile). IsSome o) (sym is) refl) in
    subst (λ (f : LocalFile). In f old) (item_is first.item one (sym first.is ∙ is) ∙ same) first.there
  where
    item_is : (x y : LocalFile) → ◌≡◌ {A = Option LocalFile} (Some x) (Some y) → x ≡ y
    item_is x y e = cc
found_in old rest name file (Some one) is (inr later) more = more later

pub copied_within : (old : List LocalFile) (plans : List LocalPlan) (file : LocalFile) → In file (copied_locals old plans) → In file old
copied_within old [] file there = absurd there
copied_within old (Fresh name ∷ plans) file there = copied_within old plans file there
copied_within old (Copy from to ∷ plans) file there = found_in old (copied_locals old plans) from file (local_named from old) refl there (copied_within old plans file)

-- lists that agree behind others of one length
pub zip_behind : {X Y : Type 0} (P : X → Y → Type 0) (xs xs' : List X) (ys ys' : List Y) → length xs ≡ length ys → AllZip P (xs ++ xs') (ys ++ ys') → AllZip P xs' ys'
zip_behind P [] xs' [] ys' same all = all
zip_behind P [] xs' (y ∷ ys) ys' same all = absurd (omega (arith, same))
zip_behind P (x ∷ xs) xs' [] ys' same all = absurd (omega (arith, same))
zip_behind P (x ∷ xs) xs' (y ∷ ys) ys' same all = zip_behind P xs xs' ys ys' (omega (arith, same)) all.1

bytes_alike : (f g : LocalFile → List ℕ) (files : List LocalFile) → ((file : LocalFile) → In file files → f file ≡ g file) → map f files ≡ map g files
bytes_alike f g [] each = refl
bytes_alike f g (file ∷ files) each =
    ap (λ (b : List ℕ). b ∷ map f files) (each file (inl refl)) ∙ ap (λ (bs : List (List ℕ)). g file ∷ bs) (bytes_alike f g files (λ x there. each x (inr there)))

module _ {D : Type 0} (on : Ghosts D) (listed : List FileEntry) (wanted : List WantedFile) (old : List LocalFile) (plans : List LocalPlan) (a c : LinksState) (files mid last : FileStore) (fetched drafts : List Draft) (disk here new : D)
    (gave : List (List ℕ)) (got : HasFetched listed wanted a c gave) (most more : ℕ) (failed fault : Type 0) (works : Works on [] fetched files mid disk here most failed) where
  -- the copies came
  module _ (sized : AreSized fetched gave) (held : AreHeld (store_base files) fetched gave (on.seen here)) (measured : All IsMeasuredLocal old) (copying : Works on fetched drafts mid last here new more fault) (adds : AddCopies fetched drafts (copied_locals old plans))
      (copied : (room : Room) (contents : List (List ℕ)) → on.tells new → store_base mid ≡ blocks_start room.half → ShareNone (held_for_locals old) (free_of mid) → HasLocals room (on.seen here) old → AreHeld (store_base mid) fetched contents (on.seen here)
      → AreHeld (store_base mid) drafts (contents ++ map (data_bytes room (on.seen here)) (copied_locals old plans)) (on.seen new)) where
    module _ (room : Room) (base : store_base files ≡ blocks_start room.half) (none : ShareNone (held_for_locals old) (free_of files)) (has : HasLocals room (on.seen disk) old) where
      keeps : KeepsOutside (blocks_start room.half) (free_of files) (on.seen disk) (on.seen here)
      keeps = subst (λ (b : ℕ). KeepsOutside b (free_of files) (on.seen disk) (on.seen here)) base works.only.reads

      stays : (file : LocalFile) → In file old → data_bytes room (on.seen here) file ≡ data_bytes room (on.seen disk) file
      stays file there =
          bytes_stay (blocks_start room.half) file (free_of files) (on.seen disk) (on.seen here) (all_in IsMeasuredLocal old file measured there)
          (all_in (λ (f : LocalFile). length (data_bytes room (on.seen disk) f) ≡ f.length) old file has there) (λ block listed free. none block (blocks_among old file block there listed) free) keeps

      has_here : HasLocals room (on.seen here) old
      has_here = in_all (λ (f : LocalFile). length (data_bytes room (on.seen here) f) ≡ f.length) old (λ file there.
          ap length (stays file there) ∙ all_in (λ (f : LocalFile). length (data_bytes room (on.seen disk) f) ≡ f.length) old file has there)

      copies_held : on.tells new → AreHeld (store_base files) adds.copies (map (data_bytes room (on.seen disk)) (copied_locals old plans)) (on.seen new)
      copies_held told =
          let fewer : ShareNone (held_for_locals old) (free_of mid) = λ block listed free. none block listed (subst (λ (l : List ℕ). Contains l block) (sym works.taken) (Contains-append_right (blocks_of_all works.more) (free_of mid) block free)) in
          let here_held : AreHeld (store_base mid) fetched gave (on.seen here) = subst (λ (b : ℕ). AreHeld b fetched gave (on.seen here)) (sym works.range.base) held in
          let all = copied room gave told (works.range.base ∙ base) fewer has_here here_held in
          let bytes : map (data_bytes room (on.seen here)) (copied_locals old plans) ≡ map (data_bytes room (on.seen disk)) (copied_locals old plans) =
          bytes_alike (data_bytes room (on.seen here)) (data_bytes room (on.seen disk)) (copied_locals old plans) (λ file there. stays file (copied_within old plans file there)) in
          zip_behind (λ (draft : Draft) (content : List ℕ). DraftHolds (store_base files) draft content (on.seen new)) fetched adds.copies gave (map (data_bytes room (on.seen disk)) (copied_locals old plans))
          (sym (AllZip-long (λ (draft : Draft) (content : List ℕ). DraftHolds (store_base files) draft content (on.seen here)) fetched gave held))
          (subst (λ (ds : List Draft). AreHeld (store_base files) ds (gave ++ map (data_bytes room (on.seen disk)) (copied_locals old plans)) (on.seen new)) adds.added
          (subst (λ (bs : List (List ℕ)). AreHeld (store_base files) drafts (gave ++ bs) (on.seen new)) bytes
          (subst (λ (b : ℕ). AreHeld b drafts (gave ++ map (data_bytes room (on.seen here)) (copied_locals old plans)) (on.seen new)) works.range.base all)))

    pub has_drafted : HasDrafted on listed wanted old plans a c files drafts disk new
    has_drafted = record {
      gave = gave;
      got = got;
      fetched = fetched;
      copies = adds.copies;
      are = adds.added;
      sized = sized;
      held = subst (λ (b : ℕ). AreHeld b fetched gave (on.seen new)) works.range.base (copying.held gave (subst (λ (b : ℕ). AreHeld b fetched gave (on.seen here)) (sym works.range.base) held));
      long = adds.are;
      copied = λ room told base none has. copies_held room base none has told;
    }

  -- all was asked for
  pub all_asked : (reply : Reply) → reply ≡ Memory → IsStopped listed wanted a c reply
  all_asked reply is = subst (IsStopped listed wanted a c) (sym is) (record {
    kept = got.kept;
    stops = record { asked = wanted; others = []; wants = sym (append-nil wanted); grown = got.grown };
  })

-- ---- the same by other names

pub two_as : {X Y : Type 0} (P : X → Y → Type 0) (x x' : X) (y y' : Y) → x' ≡ x → y' ≡ y → P x' y' → P x y
two_as {X = X} P x x' y y' first second holds = subst (λ (z : X). P z y) first (subst (P x') second holds)

pub works_from : {D : Type 0} (on : Ghosts D) {none drafts : List Draft} {files last : FileStore} {disk new : D} {most : ℕ} {fault : Type 0} → none ≡ [] → Works on none drafts files last disk new most fault → Works on [] drafts files last disk new most fault
works_from on {none} {drafts} {files} {last} {disk} {new} {most} {fault} empty works = subst (λ (ds : List Draft). Works on ds drafts files last disk new most fault) empty works

-- ---- nothing was asked for

module _ {D : Type 0} (on : Ghosts D) (listed : List FileEntry) (wanted : List WantedFile) (a : LinksState) where
  pub none_asked : (reply : Reply) → reply ≡ Memory → IsStopped listed wanted a a reply
  none_asked reply is = subst (IsStopped listed wanted a a) (sym is) (record {
    kept = but_all (IsListedIn listed wanted) a a (all_same a);
    stops = record { asked = []; others = wanted; wants = refl; grown = sym (append-nil a.asked) };
  })

  pub none_written : WritesAsked listed wanted a a 0
  none_written = record {
    first = record { asked = []; others = wanted; wants = refl; grown = sym (append-nil a.asked) };
    within = omega arith;
  }
