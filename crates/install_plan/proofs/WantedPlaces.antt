-- The wanted files of a plan, by their places and by what the application says of them.
use Rattle.std.proofs.Common.{◌≡◌, ◌∙◌, ◌⊎◌, ◌++◌, ◌<◌, ◌≤◌, ◌^◌, inl, inr, refl, sym, ap, subst, ℕ, Bool, true, false, List, [], ◌∷◌, length, map, All, Option, Some, None, Result, Ok, get_or, arith}
use Rattle.std.specs.Prelude.{IfSome, slice_get}
use Rattle.std.specs.List.{AllZip}
use Rattle.std.proofs.lemmas.List.Elements.{All-cons, All-nil, All-weaker}
use Rattle.std.proofs.lemmas.Option.{slice_get_cases}
use Rattle.small_types.specs.Blocks.{blocks_start}
use Rattle.small_types.specs.declared.room.Room.{Room}
use Rattle.small_types.specs.declared.target.Target.{Target}
use Rattle.addresses.specs.declared.fault.UrlFault.{UrlFault}
use Rattle.file_store.specs.Stores.{DraftHolds, draft_blocks}
use Rattle.file_store.specs.declared.draft.Draft.{Draft}
use Rattle.line_drafts.specs.Held.{AreHeld}
use Rattle.digest_list.specs.declared.digest.Digest.{Digest}
use Rattle.digest_list.specs.Matches.{Matches}
use Rattle.manifests.specs.declared.facts.FileEntry.{FileEntry}
use Rattle.manifests.specs.Applications.{size_limit}
use Rattle.manifests.specs.Facts.{IsFile}
use Rattle.machine.specs.Views.{ContentKey, content_key}
use Rattle.machine.proofs.Members.{In}
use Rattle.store_state.specs.declared.view.Content.{Content}
use Rattle.store_state.specs.Contents.{held_key}
use Rattle.store_state.specs.Stored.{content_bytes}
use Rattle.links.specs.Links.{LinksState}
use Rattle.install_plan.specs.declared.plan.WantedFile.{WantedFile}
use Rattle.install_plan.specs.Brought.{AreContentsFor, IsContentFor, IsFileFrom}
use Rattle.install_plan.specs.Changes.{content_for, contents_for}
use Rattle.install_plan.specs.FetchedFiles.{ArePlaces, IsFileAt, addresses}
use Rattle.install_plan.specs.InstallHeard.{WereGiven}
use Rattle.install_plan.proofs.Copies.{content_is}
use Rattle.install_plan.proofs.InstallContents.{IsWholeContent}

pub first_is : {X : Type 0} (x y : X) (xs ys : List X) → x ∷ xs ≡ y ∷ ys → x ≡ y
first_is x y xs ys e = cc

pub rest_is : {X : Type 0} (x y : X) (xs ys : List X) → x ∷ xs ≡ y ∷ ys → xs ≡ ys
rest_is x y xs ys e = cc

pub no_first : {X : Type 0} {P : Type 0} (x : X) (xs : List X) → x ∷ xs ≡ [] → P
no_first x xs e = absurd cc

-- what the application says at the places of these files
abbrev pub at_places : List FileEntry → List WantedFile → List (Option FileEntry)
at_places files wanted = map (λ file. slice_get files file.place) wanted

abbrev pub somes : List FileEntry → List (Option FileEntry)
somes entries = map Some entries

abbrev pub oks : List Target → List (Result Target UrlFault)
oks targets = map Ok targets

-- a content that a draft holds
drafted_content : (room : Room) (image : List ℕ) (a c : LinksState) (entry : FileEntry) (target : Target) (bytes : List ℕ) (draft : Draft) → IsFileFrom a c entry target bytes → DraftHolds (blocks_start room.half) draft bytes image
    → IsContentFor room image a c entry target (content_for entry draft)
drafted_content room image a c entry target bytes draft from held =
    let same : content_bytes room image (content_for entry draft) ≡ bytes = content_is (blocks_start room.half) entry.size (draft_blocks draft) bytes image from.from.fits.sized held.content in
    record {
      size = refl;
      list = refl;
      from = subst (IsFileFrom a c entry target) (sym same) from;
    }

module _ (files : List FileEntry) where
  pub file_at : (a c : LinksState) (file : WantedFile) (entry : FileEntry) (bytes : List ℕ) → slice_get files file.place ≡ Some entry → IsFileAt a c files file bytes → IsFileFrom a c entry file.target bytes
  file_at a c file entry bytes at is = subst (λ (o : Option FileEntry). IfSome o (λ e. IsFileFrom a c e file.target bytes)) at is

  -- the bytes that were got for these files
  pub given_at : (a c : LinksState) (wanted : List WantedFile) (entries : List FileEntry) (gave : List (List ℕ)) → at_places files wanted ≡ somes entries → AllZip (IsFileAt a c files) wanted gave → WereGiven a c entries (addresses wanted)
  given_at a c [] [] gave same all = tt
  given_at a c [] (entry ∷ entries) gave same all = no_first (Some entry) (somes entries) (sym same)
  given_at a c (file ∷ wanted) [] gave same all = no_first (slice_get files file.place) (at_places files wanted) same
  given_at a c (file ∷ wanted) (entry ∷ entries) [] same all = absurd all
  given_at a c (file ∷ wanted) (entry ∷ entries) (bytes ∷ gave) same all = (
    (bytes, file_at a c file entry bytes (first_is (slice_get files file.place) (Some entry) (at_places files wanted) (somes entries) same) all.0),
    given_at a c wanted entries gave (rest_is (slice_get files file.place) (Some entry) (at_places files wanted) (somes entries) same) all.1,
  )

  -- and their contents, which drafts hold in this image
  module _ (room : Room) (image : List ℕ) (a c : LinksState) where
    held_contents : (wanted : List WantedFile) (entries : List FileEntry) (gave : List (List ℕ)) (drafts rest : List Draft) → at_places files wanted ≡ somes entries → AllZip (IsFileAt a c files) wanted gave
        → AreHeld (blocks_start room.half) drafts gave image → AreContentsFor room image a c entries (addresses wanted) (contents_for (somes entries) (drafts ++ rest))
    held_contents [] [] gave drafts rest same all held = tt
    held_contents [] (entry ∷ entries) gave drafts rest same all held = no_first (Some entry) (somes entries) (sym same)
    held_contents (file ∷ wanted) [] gave drafts rest same all held = no_first (slice_get files file.place) (at_places files wanted) same
    held_contents (file ∷ wanted) (entry ∷ entries) [] drafts rest same all held = absurd all
    held_contents (file ∷ wanted) (entry ∷ entries) (bytes ∷ gave) [] rest same all held = absurd held
    held_contents (file ∷ wanted) (entry ∷ entries) (bytes ∷ gave) (draft ∷ drafts) rest same all held = (
      drafted_content room image a c entry file.target bytes draft (file_at a c file entry bytes (first_is (slice_get files file.place) (Some entry) (at_places files wanted) (somes entries) same) all.0) held.0,
      held_contents wanted entries gave drafts rest (rest_is (slice_get files file.place) (Some entry) (at_places files wanted) (somes entries) same) all.1 held.1,
    )

    pub contents_in : (wanted : List WantedFile) (entries : List FileEntry) (gave : List (List ℕ)) (drafts rest : List Draft) → at_places files wanted ≡ somes entries → AllZip (IsFileAt a c files) wanted gave
        → AreHeld (blocks_start room.half) drafts gave image → AreContentsFor room image a c entries (addresses wanted) (contents_for (at_places files wanted) (drafts ++ rest))
    contents_in wanted entries gave drafts rest same all held =
        subst (λ (os : List (Option FileEntry)). AreContentsFor room image a c entries (addresses wanted) (contents_for os (drafts ++ rest))) (sym same) (held_contents wanted entries gave drafts rest same all held)

  -- ---- places

  place_within : (place : ℕ) (entry : FileEntry) → slice_get files place ≡ Some entry → place < length files
  place_within place entry at = by (slice_get_cases files place).1
    where
      by : ((x : FileEntry) × (place < length files) × (slice_get files place ≡ Some x) × (get_or files place x ≡ x)) ⊎ ((length files ≤ place) × (slice_get files place ≡ None)) → place < length files
      by (inl there) = there.1
      by (inr past) = absurd (none_some entry (sym at ∙ past.1))
        where
          none_some : (e : FileEntry) → ◌≡◌ {A = Option FileEntry} (Some e) None → ⊥
          none_some e same = cc

  pub all_within : (wanted : List WantedFile) (entries : List FileEntry) → at_places files wanted ≡ somes entries → All (λ file. file.place < length files) wanted
  all_within [] entries same = All-nil (λ (file : WantedFile). file.place < length files)
  all_within (file ∷ wanted) [] same = no_first (slice_get files file.place) (at_places files wanted) same
  all_within (file ∷ wanted) (entry ∷ entries) same =
      All-cons (λ (f : WantedFile). f.place < length files) file wanted
      (place_within file.place entry (first_is (slice_get files file.place) (Some entry) (at_places files wanted) (somes entries) same))
      (all_within wanted entries (rest_is (slice_get files file.place) (Some entry) (at_places files wanted) (somes entries) same))

  pub small : (local : Bool) (size : ℕ) → size ≤ size_limit local → size < 2 ^ 61
  small true size few = omega arith
  small false size few = omega arith

  pub are_places : (wanted : List WantedFile) (entries : List FileEntry) → All IsFile files → at_places files wanted ≡ somes entries → ArePlaces files wanted
  are_places wanted entries facts same = record {
    within = all_within wanted entries same;
    sized = All-weaker IsFile (λ (e : FileEntry). e.size < 2 ^ 61) (λ e is. small e.local e.size is.size) files facts;
  }

  -- ---- one of them

  -- the file, those before it and those behind it
  pub record IsAmong (at : FileEntry → Result Target UrlFault) (entries : List FileEntry) (before : List WantedFile) (file : WantedFile)
      : Type 0 where
    pub earlier : List FileEntry
    pub entry : FileEntry
    pub later : List FileEntry
    pub are : entries ≡ earlier ++ entry ∷ later
    pub places : at_places files before ≡ somes earlier
    pub place : slice_get files file.place ≡ Some entry
    pub targets : map at earlier ≡ oks (addresses before)
    pub target : at entry ≡ Ok file.target

  pub among : (at : FileEntry → Result Target UrlFault) (entries : List FileEntry) (before : List WantedFile) (file : WantedFile) (behind : List WantedFile) → at_places files (before ++ file ∷ behind) ≡ somes entries → map at entries ≡ oks (addresses (before ++ file ∷ behind)) → IsAmong at entries before file
  among at [] [] file behind places targets = no_first (slice_get files file.place) (at_places files behind) places
  among at [] (first ∷ before) file behind places targets = no_first (slice_get files first.place) (at_places files (before ++ file ∷ behind)) places
  among at (entry ∷ entries) [] file behind places targets = record {
    earlier = [];
    entry = entry;
    later = entries;
    are = refl;
    places = refl;
    place = first_is (slice_get files file.place) (Some entry) (at_places files behind) (somes entries) places;
    targets = refl;
    target = first_is (at entry) (Ok file.target) (map at entries) (oks (addresses behind)) targets;
  }
  among at (entry ∷ entries) (first ∷ before) file behind places targets =
      let rest = among at entries before file behind
      (rest_is (slice_get files first.place) (Some entry) (at_places files (before ++ file ∷ behind)) (somes entries) places)
      (rest_is (at entry) (Ok first.target) (map at entries) (oks (addresses (before ++ file ∷ behind))) targets) in
      let place = first_is (slice_get files first.place) (Some entry) (at_places files (before ++ file ∷ behind)) (somes entries) places in
      let target = first_is (at entry) (Ok first.target) (map at entries) (oks (addresses (before ++ file ∷ behind))) targets in
      record {
        earlier = entry ∷ rest.earlier;
        entry = rest.entry;
        later = rest.later;
        are = ap (λ (es : List FileEntry). entry ∷ es) rest.are;
        places = ap (λ (o : Option FileEntry). o ∷ at_places files before) place ∙ ap (λ (os : List (Option FileEntry)). Some entry ∷ os) rest.places;
        place = rest.place;
        targets = ap (λ (r : Result Target UrlFault). r ∷ map at rest.earlier) target ∙ ap (λ (rs : List (Result Target UrlFault)). Ok first.target ∷ rs) rest.targets;
        target = rest.target;
      }

-- ---- contents

pub keys_for : (room : Room) (image : List ℕ) (a c : LinksState) (entries : List FileEntry) (targets : List Target) (contents : List Content) → AreContentsFor room image a c entries targets contents → map held_key contents ≡ map content_key entries
keys_for room image a c [] [] [] are = refl
keys_for room image a c [] [] (content ∷ contents) are = absurd are
keys_for room image a c [] (target ∷ targets) contents are = absurd are
keys_for room image a c (entry ∷ entries) [] contents are = absurd are
keys_for room image a c (entry ∷ entries) (target ∷ targets) [] are = absurd are
keys_for room image a c (entry ∷ entries) (target ∷ targets) (content ∷ contents) are =
    let key : held_key content ≡ content_key entry =
    ap (λ (n : ℕ). record (held_key content) { size = n }) are.0.size ∙ ap (λ (l : List Digest). record (content_key entry) { list = l }) are.0.list in
    ap (λ (k : ContentKey). k ∷ map held_key contents) key
    ∙ ap (λ (ks : List ContentKey). content_key entry ∷ ks) (keys_for room image a c entries targets contents are.1)

pub whole_for : (room : Room) (image : List ℕ) (a c : LinksState) (entries : List FileEntry) (targets : List Target) (contents : List Content) → AreContentsFor room image a c entries targets contents → All (IsWholeContent room image) contents
whole_for room image a c [] [] [] are = All-nil (IsWholeContent room image)
whole_for room image a c [] [] (content ∷ contents) are = absurd are
whole_for room image a c [] (target ∷ targets) contents are = absurd are
whole_for room image a c (entry ∷ entries) [] contents are = absurd are
whole_for room image a c (entry ∷ entries) (target ∷ targets) [] are = absurd are
whole_for room image a c (entry ∷ entries) (target ∷ targets) (content ∷ contents) are =
    All-cons (IsWholeContent room image) content contents
    (subst (λ (l : List Digest). Matches l content.size (content_bytes room image content)) (sym are.0.list)
    (subst (λ (n : ℕ). Matches entry.list n (content_bytes room image content)) (sym are.0.size) are.0.from.from.fits))
    (whole_for room image a c entries targets contents are.1)

pub count_for : (room : Room) (image : List ℕ) (a c : LinksState) (entries : List FileEntry) (targets : List Target) (contents : List Content) → AreContentsFor room image a c entries targets contents → length contents ≡ length entries
count_for room image a c [] [] [] are = refl
count_for room image a c [] [] (content ∷ contents) are = absurd are
count_for room image a c [] (target ∷ targets) contents are = absurd are
count_for room image a c (entry ∷ entries) [] contents are = absurd are
count_for room image a c (entry ∷ entries) (target ∷ targets) [] are = absurd are
count_for room image a c (entry ∷ entries) (target ∷ targets) (content ∷ contents) are = omega (arith, count_for room image a c entries targets contents are.1)

-- the file that a content was fetched for
pub record IsForOne (room : Room) (image : List ℕ) (a c : LinksState) (at : FileEntry → Result Target UrlFault) (entries : List FileEntry) (content : Content) : Type 0 where
  pub entry : FileEntry
  pub there : In entry entries
  pub target : Target
  pub named : at entry ≡ Ok target
  pub is : IsContentFor room image a c entry target content

pub for_one : (room : Room) (image : List ℕ) (a c : LinksState) (at : FileEntry → Result Target UrlFault) (entries : List FileEntry) (targets : List Target) (contents : List Content) (content : Content) → AreContentsFor room image a c entries targets contents → map at entries ≡ oks targets → In content contents → IsForOne room image a c at entries content
for_one room image a c at [] [] [] content are named there = absurd there
for_one room image a c at [] [] (first ∷ contents) content are named there = absurd are
for_one room image a c at [] (target ∷ targets) contents content are named there = absurd are
for_one room image a c at (entry ∷ entries) [] contents content are named there = absurd are
for_one room image a c at (entry ∷ entries) (target ∷ targets) [] content are named there = absurd are
for_one room image a c at (entry ∷ entries) (target ∷ targets) (first ∷ contents) content are named (inl is) = record {
  entry = entry;
  there = inl refl;
  target = target;
  named = first_is (at entry) (Ok target) (map at entries) (oks targets) named;
  is = subst (λ (k : Content). IsContentFor room image a c entry target k) is are.0;
}
for_one room image a c at (entry ∷ entries) (target ∷ targets) (first ∷ contents) content are named (inr there) =
    let rest = for_one room image a c at entries targets contents content are.1 (rest_is (at entry) (Ok target) (map at entries) (oks targets) named) there in
    record {
      entry = rest.entry;
      there = inr rest.there;
      target = rest.target;
      named = rest.named;
      is = rest.is;
    }
