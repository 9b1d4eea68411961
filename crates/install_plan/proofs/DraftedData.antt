-- What is so of drafts, and then of the contents and the data files that are made of them.
use Rattle.std.proofs.Common.{◌≡◌, ◌∙◌, ◌++◌, refl, sym, ap, subst, ℕ, Bool, true, false, cond, List, [], ◌∷◌, length, map, All, Option, Some, None, IsSome, inl, inr, arith}
use Rattle.std.specs.Prelude.{IfSome, slice_get}
use Rattle.std.specs.List.{AllZip}
use Rattle.std.proofs.lemmas.List.Elements.{All-append, All-cons, All-head, All-nil, All-tail}
use Rattle.small_types.specs.Blocks.{IsContent, KeepsOutside, ShareNone, blocks_start, bytes_in, count_for}
use Rattle.small_types.specs.declared.room.Room.{Room}
use Rattle.manifests.specs.declared.facts.FileEntry.{FileEntry}
use Rattle.machine.proofs.Members.{In, all_in, in_all}
use Rattle.links.specs.Links.{LinksState}
use Rattle.file_store.specs.Stores.{DraftHolds, draft_blocks, draft_size}
use Rattle.file_store.specs.declared.draft.Draft.{Draft}
use Rattle.line_drafts.specs.Held.{AreContents, AreHeld}
use Rattle.store_state.specs.declared.change.Change.{Change}
use Rattle.store_state.specs.declared.view.Content.{Content}
use Rattle.store_state.specs.declared.view.LocalFile.{LocalFile}
use Rattle.store_state.specs.Stored.{HasContents, HasLocals, content_bytes, data_bytes}
use Rattle.install_plan.specs.declared.plan.WantedFile.{WantedFile}
use Rattle.install_plan.specs.Changes.{content_for, contents_for, fetched_local, local_part, program_part}
use Rattle.install_plan.specs.Drafted.{AreSized}
use Rattle.install_plan.specs.FetchedFiles.{IsFileAt}
use Rattle.install_plan.specs.Parts.{AreCopies}
use Rattle.install_plan.proofs.WantedPlaces.{at_places, file_at, first_is, no_first, rest_is, somes}
use Rattle.install_plan.proofs.Copies.{content_is}
use Rattle.install_plan.proofs.Fetched.{program_in}

-- ---- of contents, by their blocks and sizes

module _ (Q : List ℕ → ℕ → Type 0) where
  abbrev IsSoContent : Content → Type 0
  IsSoContent content = Q content.held content.size

  abbrev IsSoLocal : LocalFile → Type 0
  IsSoLocal file = Q file.held file.length

  module _ (R : Draft → List ℕ → Type 0) (step : (draft : Draft) (bytes : List ℕ) → R draft bytes → Q (draft_blocks draft) (length bytes)) (files : List FileEntry) (a c : LinksState) where
    each_content : (wanted : List WantedFile) (entries : List FileEntry) (gave : List (List ℕ)) (drafts rest : List Draft) → at_places files wanted ≡ somes entries → AllZip (IsFileAt a c files) wanted gave → AllZip R drafts gave
        → All IsSoContent (contents_for (somes entries) (drafts ++ rest))
    each_content [] [] gave drafts rest same all so = All-nil IsSoContent
    each_content [] (entry ∷ entries) gave drafts rest same all so = no_first (Some entry) (somes entries) (sym same)
    each_content (file ∷ wanted) [] gave drafts rest same all so = no_first (slice_get files file.place) (at_places files wanted) same
    each_content (file ∷ wanted) (entry ∷ entries) [] drafts rest same all so = absurd all
    each_content (file ∷ wanted) (entry ∷ entries) (bytes ∷ gave) [] rest same all so = absurd so
    each_content (file ∷ wanted) (entry ∷ entries) (bytes ∷ gave) (draft ∷ drafts) rest same all so =
        let from = file_at files a c file entry bytes (first_is (slice_get files file.place) (Some entry) (at_places files wanted) (somes entries) same) all.0 in
        All-cons IsSoContent (content_for entry draft) (contents_for (somes entries) (drafts ++ rest))
        (subst (Q (draft_blocks draft)) from.from.fits.sized (step draft bytes so.0))
        (each_content wanted entries gave drafts rest (rest_is (slice_get files file.place) (Some entry) (at_places files wanted) (somes entries) same) all.1 so.1)

    pub all_contents : (wanted : List WantedFile) (entries : List FileEntry) (gave : List (List ℕ)) (drafts rest : List Draft) → at_places files wanted ≡ somes entries → AllZip (IsFileAt a c files) wanted gave → AllZip R drafts gave
        → All IsSoContent (contents_for (at_places files wanted) (drafts ++ rest))
    all_contents wanted entries gave drafts rest same all so =
        subst (λ (os : List (Option FileEntry)). All IsSoContent (contents_for os (drafts ++ rest))) (sym same) (each_content wanted entries gave drafts rest same all so)

  pub all_programs : (places : List (Option FileEntry)) (contents : List Content) → All IsSoContent contents → All IsSoContent (program_part places contents)
  all_programs places contents so = in_all IsSoContent (program_part places contents) (λ content there. all_in IsSoContent contents content so (program_in places contents content there))

  local_one : (b : Bool) (entry : FileEntry) (content : Content) (rest : List LocalFile) → IsSoContent content → All IsSoLocal rest
      → All IsSoLocal (cond b (record { name = entry.name; length = content.size; held = content.held } ∷ []) [] ++ rest)
  local_one true entry content rest so more = All-cons IsSoLocal (record { name = entry.name; length = content.size; held = content.held }) rest so more
  local_one false entry content rest so more = more

  pub all_locals : (places : List (Option FileEntry)) (contents : List Content) → All IsSoContent contents → All IsSoLocal (local_part places contents)
  all_locals [] contents so = All-nil IsSoLocal
  all_locals (place ∷ places) [] so = All-nil IsSoLocal
  all_locals (None ∷ places) (content ∷ contents) so = all_locals places contents (All-tail IsSoContent content contents so)
  all_locals (Some entry ∷ places) (content ∷ contents) so =
      local_one entry.local entry content (local_part places contents) (All-head IsSoContent content contents so) (all_locals places contents (All-tail IsSoContent content contents so))

-- ---- as many blocks as the length needs

abbrev pub IsCounted : List ℕ → ℕ → Type 0
IsCounted held size = length held ≡ count_for size

pub draft_counted : (draft : Draft) (bytes : List ℕ) → draft_size draft ≡ length bytes → IsCounted (draft_blocks draft) (length bytes)
draft_counted draft bytes sized = draft.counted ∙ ap count_for sized

pub copies_counted : (copies : List Draft) (files : List LocalFile) → AreCopies copies files → AllZip (λ (draft : Draft) (file : LocalFile). IsCounted (draft_blocks draft) file.length) copies files
copies_counted [] [] are = tt
copies_counted [] (file ∷ files) are = absurd are
copies_counted (draft ∷ copies) [] are = absurd are
copies_counted (draft ∷ copies) (file ∷ files) are = (draft.counted ∙ ap count_for are.0, copies_counted copies files are.1)

-- ---- the same bytes in two images

module _ (room : Room) (there later : List ℕ) where
  abbrev start : ℕ
  start = blocks_start room.half

  -- so many bytes that stand in these blocks are the same in both
  pub record IsSameIn (held : List ℕ) (size : ℕ) : Type 0 where
    pub same : bytes_in start held size later ≡ bytes_in start held size there
    pub whole : length (bytes_in start held size there) ≡ size

  abbrev pub HoldsBoth : Draft → List ℕ → Type 0
  HoldsBoth draft bytes = IsContent start (draft_blocks draft) bytes there × IsContent start (draft_blocks draft) bytes later

  pub same_in : (draft : Draft) (bytes : List ℕ) → HoldsBoth draft bytes → IsSameIn (draft_blocks draft) (length bytes)
  same_in draft bytes both =
      let one = content_is start (length bytes) (draft_blocks draft) bytes there refl both.0 in
      let two = content_is start (length bytes) (draft_blocks draft) bytes later refl both.1 in
      record { same = two ∙ sym one; whole = ap length one }

  pub both_held : (drafts : List Draft) (gave : List (List ℕ)) → AreHeld start drafts gave there → AreContents start (map draft_blocks drafts) gave later → AllZip HoldsBoth drafts gave
  both_held [] [] held are = tt
  both_held [] (bytes ∷ gave) held are = absurd held
  both_held (draft ∷ drafts) [] held are = absurd held
  both_held (draft ∷ drafts) (bytes ∷ gave) held are = ((held.0.content, are.0), both_held drafts gave held.1 are.1)

  -- copies of these files, of as many bytes
  pub copies_same : (bytes : LocalFile → List ℕ) (copies : List Draft) (files : List LocalFile) → ((file : LocalFile) → In file files → length (bytes file) ≡ file.length) → AllZip HoldsBoth copies (map bytes files)
      → AllZip (λ (draft : Draft) (file : LocalFile). IsSameIn (draft_blocks draft) file.length) copies files
  copies_same bytes [] [] long both = tt
  copies_same bytes [] (file ∷ files) long both = absurd both
  copies_same bytes (draft ∷ copies) [] long both = absurd both
  copies_same bytes (draft ∷ copies) (file ∷ files) long both = (
    subst (IsSameIn (draft_blocks draft)) (long file (inl refl)) (same_in draft (bytes file) both.0),
    copies_same bytes copies files (λ x at. long x (inr at)) both.1,
  )

  -- ---- all that comes

  pub has_contents : (contents : List Content) → All (λ (c : Content). IsSameIn c.held c.size) contents → HasContents room later contents × (map (content_bytes room later) contents ≡ map (content_bytes room there) contents)
  has_contents [] all = (All-nil (λ (c : Content). length (content_bytes room later c) ≡ c.size), refl)
  has_contents (content ∷ contents) all =
      let one = All-head (λ (c : Content). IsSameIn c.held c.size) content contents all in
      let rest = has_contents contents (All-tail (λ (c : Content). IsSameIn c.held c.size) content contents all) in (
        All-cons (λ (c : Content). length (content_bytes room later c) ≡ c.size) content contents (ap length one.same ∙ one.whole) rest.0,
        ap (λ (b : List ℕ). b ∷ map (content_bytes room later) contents) one.same ∙ ap (λ (bs : List (List ℕ)). content_bytes room there content ∷ bs) rest.1,
      )

  pub has_locals : (files : List LocalFile) → All (λ (f : LocalFile). IsSameIn f.held f.length) files → HasLocals room later files × (map (data_bytes room later) files ≡ map (data_bytes room there) files)
  has_locals [] all = (All-nil (λ (f : LocalFile). length (data_bytes room later f) ≡ f.length), refl)
  has_locals (file ∷ files) all =
      let one = All-head (λ (f : LocalFile). IsSameIn f.held f.length) file files all in
      let rest = has_locals files (All-tail (λ (f : LocalFile). IsSameIn f.held f.length) file files all) in (
        All-cons (λ (f : LocalFile). length (data_bytes room later f) ≡ f.length) file files (ap length one.same ∙ one.whole) rest.0,
        ap (λ (b : List ℕ). b ∷ map (data_bytes room later) files) one.same ∙ ap (λ (bs : List (List ℕ)). data_bytes room there file ∷ bs) rest.1,
      )

-- ---- copies of files that are the same later

pub copies_are : (room : Room) (here there : List ℕ) (copies : List Draft) (files : List LocalFile) → ((file : LocalFile) → In file files → data_bytes room there file ≡ data_bytes room here file)
    → ((file : LocalFile) → In file files → length (data_bytes room here file) ≡ file.length) → AreHeld (blocks_start room.half) copies (map (data_bytes room here) files) there
    → AllZip (λ (draft : Draft) (file : LocalFile). bytes_in (blocks_start room.half) (draft_blocks draft) file.length there ≡ data_bytes room there file) copies files
copies_are room here there [] [] same long held = tt
copies_are room here there [] (file ∷ files) same long held = absurd held
copies_are room here there (draft ∷ copies) [] same long held = absurd held
copies_are room here there (draft ∷ copies) (file ∷ files) same long held = (
  content_is (blocks_start room.half) file.length (draft_blocks draft) (data_bytes room here file) there (long file (inl refl)) held.0.content ∙ sym (same file (inl refl)),
  copies_are room here there copies files (λ x at. same x (inr at)) (λ x at. long x (inr at)) held.1,
)

-- ---- drafts together

pub held_joined : (base : ℕ) (ds es : List Draft) (cs bs : List (List ℕ)) (image : List ℕ) → AreHeld base ds cs image → AreHeld base es bs image → AreHeld base (ds ++ es) (cs ++ bs) image
held_joined base [] es [] bs image one two = two
held_joined base [] es (c ∷ cs) bs image one two = absurd one
held_joined base (d ∷ ds) es [] bs image one two = absurd one
held_joined base (d ∷ ds) es (c ∷ cs) bs image one two = (one.0, held_joined base ds es cs bs image one.1 two)

pub both_front : (P : Draft → List ℕ → Type 0) (ds es : List Draft) (cs bs : List (List ℕ)) → length ds ≡ length cs → AllZip P (ds ++ es) (cs ++ bs) → AllZip P ds cs × AllZip P es bs
both_front P [] es [] bs same all = (tt, all)
both_front P [] es (c ∷ cs) bs same all = absurd (omega (arith, same))
both_front P (d ∷ ds) es [] bs same all = absurd (omega (arith, same))
both_front P (d ∷ ds) es (c ∷ cs) bs same all = let rest = both_front P ds es cs bs (omega (arith, same)) all.1 in ((all.0, rest.0), rest.1)
