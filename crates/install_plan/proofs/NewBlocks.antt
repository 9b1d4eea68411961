-- The blocks of all drafts are those of the contents, of the data files that are made and of what is left.
use Rattle.std.proofs.Common.{◌≡◌, ◌∙◌, ◌+◌, ◌-◌, ◌++◌, ◌≤◌, refl, sym, ap, subst, ℕ, Bool, true, false, cond, List, [], ◌∷◌, drop, length, map, take, Option, Some, None, arith}
use Rattle.std.specs.Prelude.{sum_by}
use Rattle.std.specs.List.Sorted.{IsPermutation}
use Rattle.std.proofs.lemmas.List.{length-drop, take_all}
use Rattle.std.proofs.lemmas.List.Sorted.{sum_by-IsPermutation}
use Rattle.std.proofs.lemmas.List.Sums.{sum_by-append}
use Rattle.file_store.specs.Stores.{blocks_of_all, draft_blocks}
use Rattle.file_store.specs.declared.draft.Draft.{Draft}
use Rattle.manifests.specs.declared.facts.FileEntry.{FileEntry}
use Rattle.store_state.specs.declared.view.Content.{Content}
use Rattle.store_state.specs.declared.view.LocalFile.{LocalFile}
use Rattle.table_files.specs.Held.{held_for_contents, held_for_locals}
use Rattle.table_files.proofs.SameItems.{from_totals}
use Rattle.install_plan.specs.Changes.{content_for, contents_for, is_data, local_part, program_part}
use Rattle.install_plan.proofs.WantedPlaces.{somes}

module _ (w : ℕ → ℕ) where
  -- of contents and of those among them that are of program files or data files
  part_step : (b : Bool) (entry : FileEntry) (content : Content) (programs : List Content) (locals : List LocalFile) (all : ℕ) → all ≡ sum_by w (held_for_contents programs) + sum_by w (held_for_locals locals)
      → sum_by w content.held + all ≡ sum_by w (held_for_contents (cond b programs (content ∷ programs)))
      + sum_by w (held_for_locals (cond b (record { name = entry.name; length = content.size; held = content.held } ∷ []) [] ++ locals))
  part_step true entry content programs locals all same = omega (arith, same, sum_by-append w content.held (held_for_locals locals))
  part_step false entry content programs locals all same = omega (arith, same, sum_by-append w content.held (held_for_contents programs))

  parts_sum : (places : List (Option FileEntry)) (contents : List Content) → sum_by w (held_for_contents contents) ≡ sum_by w (held_for_contents (program_part places contents)) + sum_by w (held_for_locals (local_part places contents))
  parts_sum [] contents = omega arith
  parts_sum (place ∷ places) [] = refl
  parts_sum (None ∷ places) (content ∷ contents) =
      omega (arith, parts_sum places contents, sum_by-append w content.held (held_for_contents contents), sum_by-append w content.held (held_for_contents (program_part places contents)))
  parts_sum (Some entry ∷ places) (content ∷ contents) =
      sum_by-append w content.held (held_for_contents contents)
      ∙ part_step entry.local entry content (program_part places contents) (local_part places contents) (sum_by w (held_for_contents contents)) (parts_sum places contents)

  -- of drafts
  drafts_sum : (entries : List FileEntry) (drafts : List Draft) → length entries ≤ length drafts
      → sum_by w (blocks_of_all drafts) ≡ sum_by w (held_for_contents (contents_for (somes entries) drafts)) + sum_by w (blocks_of_all (drop (length entries) drafts))
  drafts_sum [] drafts many = omega arith
  drafts_sum (entry ∷ entries) [] many = absurd (omega (arith, many))
  drafts_sum (entry ∷ entries) (draft ∷ drafts) many =
      omega (
        arith,
        drafts_sum entries drafts (omega (arith, many)),
        sum_by-append w (draft_blocks draft) (blocks_of_all drafts),
        sum_by-append w (draft_blocks draft) (held_for_contents (contents_for (somes entries) drafts)),
      )

module _ (entries : List FileEntry) (places : List (Option FileEntry)) (count : ℕ) (all drafts copies : List Draft) (contents programs items : List Content) (locals made : List LocalFile) (taken unused : List ℕ)
    (same : places ≡ somes entries) (counted : length entries ≡ count) (many : count ≤ length all) (contents_are : contents ≡ contents_for places all) (items_are : items ≡ program_part places contents) (programs_are : programs ≡ items) (locals_are : locals ≡ local_part places contents)
    (copies_are : copies ≡ take (length all - count) (drop count all)) (placed : IsPermutation (held_for_locals locals ++ blocks_of_all copies) (held_for_locals made ++ unused)) (taken_are : taken ≡ blocks_of_all drafts) (all_are : all ≡ drafts) where
  totals : (w : ℕ → ℕ) → sum_by w taken ≡ sum_by w ((held_for_contents programs ++ held_for_locals made) ++ unused)
  totals w =
      let by_taken : sum_by w taken ≡ sum_by w (blocks_of_all all) = ap (sum_by w) (taken_are ∙ ap blocks_of_all (sym all_are)) in
      let by_drafts = drafts_sum w entries all (omega (arith, counted, many)) in
      let by_count : sum_by w (blocks_of_all (drop (length entries) all)) ≡ sum_by w (blocks_of_all (drop count all)) = ap (λ (n : ℕ). sum_by w (blocks_of_all (drop n all))) counted in
      let by_contents : sum_by w (held_for_contents contents) ≡ sum_by w (held_for_contents (contents_for (somes entries) all)) =
      ap (λ (cs : List Content). sum_by w (held_for_contents cs)) (contents_are ∙ ap (λ (os : List (Option FileEntry)). contents_for os all) same) in
      let by_parts = parts_sum w places contents in
      let by_programs : sum_by w (held_for_contents programs) ≡ sum_by w (held_for_contents (program_part places contents)) = ap (λ (cs : List Content). sum_by w (held_for_contents cs)) (programs_are ∙ items_are) in
      let by_locals : sum_by w (held_for_locals locals) ≡ sum_by w (held_for_locals (local_part places contents)) = ap (λ (ls : List LocalFile). sum_by w (held_for_locals ls)) locals_are in
      let behind : copies ≡ drop count all = copies_are ∙ take_all (length all - count) (drop count all) (omega (arith, length-drop count all)) in
      let by_copies : sum_by w (blocks_of_all copies) ≡ sum_by w (blocks_of_all (drop count all)) = ap (λ (ds : List Draft). sum_by w (blocks_of_all ds)) behind in
      let by_placed = sum_by-IsPermutation w (held_for_locals locals ++ blocks_of_all copies) (held_for_locals made ++ unused) placed in
      omega (
        arith,
        by_taken,
        by_drafts,
        by_count,
        by_contents,
        by_parts,
        by_programs,
        by_locals,
        by_placed,
        by_copies,
        sum_by-append w (held_for_locals locals) (blocks_of_all copies),
        sum_by-append w (held_for_locals made) unused,
        sum_by-append w (held_for_contents programs ++ held_for_locals made) unused,
        sum_by-append w (held_for_contents programs) (held_for_locals made),
      )

  pub all_blocks : IsPermutation taken ((held_for_contents programs ++ held_for_locals made) ++ unused)
  all_blocks = from_totals taken ((held_for_contents programs ++ held_for_locals made) ++ unused) totals
