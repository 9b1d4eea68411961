-- What was fetched, by the files that the application lists.
use Rattle.std.proofs.Common.{◌≡◌, ◌∙◌, ◌+◌, ◌++◌, ◌<◌, ◌≤◌, refl, sym, ap, subst, All, ℕ, Bool, true, false, cond, List, [], ◌∷◌, drop, get_or, length, map, Option, None, Some, append_assoc, arith}
use Rattle.std.specs.Prelude.{slice_get}
use Rattle.std.proofs.lemmas.List.{append-nil, drop-map, drop_more, length-append}
use Rattle.std.proofs.lemmas.Option.{slice_get_read}
use Rattle.file_store.specs.declared.draft.Draft.{Draft}
use Rattle.manifests.specs.declared.facts.FileEntry.{FileEntry}
use Rattle.store_state.specs.declared.view.Content.{Content}
use Rattle.store_state.specs.declared.view.LocalFile.{LocalFile}
use Rattle.install_plan.specs.declared.plan.WantedFile.{WantedFile}
use Rattle.install_plan.specs.Changes.{content_for, contents_for, fetched_local, is_data, listed_at, local_part, program_part}
use Rattle.install_plan.specs.Parts.{entry_for}

-- ---- what was fetched

pub program_none : (places : List (Option FileEntry)) → program_part places [] ≡ []
program_none [] = refl
program_none (place ∷ places) = refl

pub local_none : (places : List (Option FileEntry)) → local_part places [] ≡ []
local_none [] = refl
local_none (place ∷ places) = refl

join : (b : Bool) (y : Content) (xs zs : List Content) → cond b (xs ++ zs) (y ∷ (xs ++ zs)) ≡ cond b xs (y ∷ xs) ++ zs
join true y xs zs = refl
join false y xs zs = refl

module _ (files : List FileEntry) where
  pub program_push : (wanted : List WantedFile) (ys : List Content) (c : Content) → program_part (listed_at files wanted) (ys ++ c ∷ []) ≡ program_part (listed_at files wanted) ys ++ program_part (entry_for files wanted (length ys) ∷ []) (c ∷ [])
  program_push [] ys c = refl
  program_push (w ∷ ws) [] c = ap (λ (xs : List Content). cond (is_data (slice_get files w.place)) xs (c ∷ xs)) (program_none (listed_at files ws))
  program_push (w ∷ ws) (y ∷ ys) c =
      ap (λ (xs : List Content). cond (is_data (slice_get files w.place)) xs (y ∷ xs)) (program_push ws ys c)
      ∙ join (is_data (slice_get files w.place)) y (program_part (listed_at files ws) ys) (program_part (entry_for files ws (length ys) ∷ []) (c ∷ []))

  pub local_push : (wanted : List WantedFile) (ys : List Content) (c : Content) → local_part (listed_at files wanted) (ys ++ c ∷ []) ≡ local_part (listed_at files wanted) ys ++ fetched_local (entry_for files wanted (length ys)) c
  local_push [] ys c = refl
  local_push (w ∷ ws) [] c =
      ap (λ (xs : List LocalFile). fetched_local (slice_get files w.place) c ++ xs) (local_none (listed_at files ws))
      ∙ append-nil (fetched_local (slice_get files w.place) c)
  local_push (w ∷ ws) (y ∷ ys) c =
      ap (λ (xs : List LocalFile). fetched_local (slice_get files w.place) y ++ xs) (local_push ws ys c)
      ∙ sym (append_assoc (fetched_local (slice_get files w.place) y) (local_part (listed_at files ws) ys) (fetched_local (entry_for files ws (length ys)) c))

-- ---- one after the other

-- what was fetched so far, and its place
pub record Split (files : List FileEntry) (wanted : List WantedFile) (contents : List Content) (programs : List Content) (locals : List LocalFile) (place : ℕ) : Type 0 where
  pub programs_are : programs ≡ program_part (listed_at files wanted) contents
  pub locals_are : locals ≡ local_part (listed_at files wanted) contents
  pub place_is : place ≡ length contents

pub begun : (files : List FileEntry) (wanted : List WantedFile) (programs : List Content) (locals : List LocalFile) → programs ≡ [] → locals ≡ [] → Split files wanted [] programs locals 0
begun files wanted programs locals none empty = record {
  programs_are = none ∙ sym (program_none (listed_at files wanted));
  locals_are = empty ∙ sym (local_none (listed_at files wanted));
  place_is = refl;
}

pub split_more : (files : List FileEntry) (wanted : List WantedFile) (contents programs : List Content) (locals : List LocalFile) (place : ℕ) → Split files wanted contents programs locals place
    → (entry : Option FileEntry) (content : Content) → entry ≡ entry_for files wanted place
    → (programs' : List Content) (locals' : List LocalFile) (place' : ℕ)
    → programs' ≡ programs ++ program_part (entry ∷ []) (content ∷ []) → locals' ≡ locals ++ fetched_local entry content → place' ≡ place + 1
    → Split files wanted (contents ++ content ∷ []) programs' locals' place'
split_more files wanted contents programs locals place split entry content entry_is programs' locals' place' more_programs more_locals next =
    let at : entry ≡ entry_for files wanted (length contents) = entry_is ∙ ap (entry_for files wanted) split.place_is in
    let places = listed_at files wanted in
    record {
      programs_are = more_programs ∙ ap (λ (xs : List Content). xs ++ program_part (entry ∷ []) (content ∷ [])) split.programs_are
          ∙ ap (λ (o : Option FileEntry). program_part places contents ++ program_part (o ∷ []) (content ∷ [])) at ∙ sym (program_push files wanted contents content);
      locals_are = more_locals ∙ ap (λ (xs : List LocalFile). xs ++ fetched_local entry content) split.locals_are
          ∙ ap (λ (o : Option FileEntry). local_part places contents ++ fetched_local o content) at
          ∙ sym (local_push files wanted contents content);
      place_is = next ∙ ap (λ (n : ℕ). n + 1) split.place_is ∙ sym (length-append contents (content ∷ []));
    }

-- ---- the contents of drafts

-- the element at a place
get_some : {X : Type 0} (xs : List X) (i : ℕ) (x : X) → i < length xs → x ≡ get_or xs i x → slice_get xs i ≡ Some x
get_some xs i x lt is = slice_get_read xs (length xs) i x refl lt is

from_here : {X : Type 0} (xs : List X) (i : ℕ) (x : X) → i < length xs → x ≡ get_or xs i x → drop i xs ≡ x ∷ drop (i + 1) xs
from_here {X = X} xs i x lt is = drop_more xs i x lt ∙ ap (λ (y : X). y ∷ drop (i + 1) xs) (sym is)

module _ (files : List FileEntry) (wanted : List WantedFile) (drafts : List Draft) (i : ℕ) (file : WantedFile) (entry : FileEntry) (draft : Draft)
    (within : All (λ (w : WantedFile). w.place < length files) wanted) (lt : i < length wanted) (is : file ≡ get_or wanted i file) (entry_is : entry ≡ get_or files file.place entry)
    (some : length wanted ≤ length drafts) (draft_is : draft ≡ get_or drafts i draft) where
  abbrev place_of : WantedFile → Option FileEntry
  place_of w = slice_get files w.place

  there : slice_get files file.place ≡ Some entry
  there = get_some files file.place entry (subst (λ (w : WantedFile). w.place < length files) (sym is) (within i file lt)) entry_is

  listed_here : drop i (listed_at files wanted) ≡ Some entry ∷ drop (i + 1) (listed_at files wanted)
  listed_here =
      drop-map place_of i wanted ∙ ap (map place_of) (from_here wanted i file lt is)
      ∙ ap (λ (o : Option FileEntry). o ∷ map place_of (drop (i + 1) wanted)) there
      ∙ ap (λ (os : List (Option FileEntry)). Some entry ∷ os) (sym (drop-map place_of (i + 1) wanted))

  content_here : contents_for (drop i (listed_at files wanted)) (drop i drafts) ≡ content_for entry draft ∷ contents_for (drop (i + 1) (listed_at files wanted)) (drop (i + 1) drafts)
  content_here =
      ap (λ (os : List (Option FileEntry)). contents_for os (drop i drafts)) listed_here
      ∙ ap (contents_for (Some entry ∷ drop (i + 1) (listed_at files wanted))) (from_here drafts i draft (omega (arith, lt, some)) draft_is)

  -- a content more
  pub content_more : (contents contents' all : List Content) (content : Content) → contents ++ contents_for (drop i (listed_at files wanted)) (drop i drafts) ≡ all → content ≡ content_for entry draft → contents' ≡ contents ++ content ∷ []
      → contents' ++ contents_for (drop (i + 1) (listed_at files wanted)) (drop (i + 1) drafts) ≡ all
  content_more contents contents' all content so made more =
      let rest = contents_for (drop (i + 1) (listed_at files wanted)) (drop (i + 1) drafts) in
      ap (λ (cs : List Content). cs ++ rest) (more ∙ ap (λ (c : Content). contents ++ c ∷ []) made) ∙ append_assoc contents (content_for entry draft ∷ []) rest
      ∙ ap (λ (cs : List Content). contents ++ cs) (sym content_here) ∙ so

pub places_are : (files files' : List FileEntry) (wanted wanted' : List WantedFile) → files' ≡ files → wanted' ≡ wanted → listed_at files' wanted' ≡ listed_at files wanted
places_are files files' wanted wanted' files_are wanted_are = ap (λ (fs : List FileEntry). listed_at fs wanted') files_are ∙ ap (listed_at files) wanted_are
