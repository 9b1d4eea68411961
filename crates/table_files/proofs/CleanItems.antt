-- What a clean lets go, from what its parts are.
use Rattle.std.proofs.Common.{◌≡◌, ◌∙◌, ◌++◌, ap, ℕ, List, map, not}
use Rattle.std.specs.Prelude.{filter}
use Rattle.std.proofs.lemmas.List.Elements.{filter_agree}
use Rattle.manifests.specs.declared.facts.FileEntry.{FileEntry}
use Rattle.machine.specs.Blocks.{standing_files}
use Rattle.store_state.specs.declared.view.Content.{Content}
use Rattle.store_state.specs.declared.view.View.{View}
use Rattle.store_state.specs.Dropped.{is_needed, removable_in, without_rows}
use Rattle.store_state.specs.Tables.{Tables, bare_row}
use Rattle.table_files.specs.Freed.{freed_with, rows_among, unneeded}
use Rattle.table_files.specs.Held.{held_for_contents, held_for_views}

-- what no file needs
abbrev pub lacked : List FileEntry → List Content → List Content
lacked entries contents = filter (λ (content : Content). not (is_needed entries content)) contents

module _ (tables : Tables) where
  abbrev gone : List ℕ
  gone = removable_in tables

  abbrev left : List ℕ → List View → List FileEntry
  left numbers views = standing_files (map bare_row (without_rows numbers views))

  -- the files are those of the views that stay
  lacked_is : (entries : List FileEntry) (numbers : List ℕ) (views : List View)
      (contents : List Content)
      → ((content : Content)
      → is_needed entries content ≡ is_needed (left numbers views) content)
      → numbers ≡ gone → views ≡ tables.views → contents ≡ tables.contents
      → lacked entries contents ≡ unneeded (without_rows gone tables.views) tables.contents
  lacked_is entries numbers views contents needed are kept held =
      filter_agree (λ (content : Content). not (is_needed entries content))
      (λ (content : Content). not (is_needed (left numbers views) content))
      (λ content. ap not (needed content)) contents
      ∙ ap (λ (ns : List ℕ). lacked (left ns views) contents) are
      ∙ ap (λ (vs : List View). lacked (left gone vs) contents) kept
      ∙ ap (lacked (left gone tables.views)) held

  pub freed_is : (entries : List FileEntry) (numbers : List ℕ) (views : List View)
      (contents : List Content) (taken : List ℕ) (rows : List View)
      → ((content : Content)
      → is_needed entries content ≡ is_needed (left numbers views) content)
      → numbers ≡ gone → views ≡ tables.views → contents ≡ tables.contents
      → taken ≡ gone → rows ≡ tables.views
      → held_for_contents (lacked entries contents) ++ held_for_views (rows_among taken rows)
      ≡ freed_with gone tables
  freed_is entries numbers views contents taken rows needed are kept held go all =
      ap (λ (cs : List Content). held_for_contents cs ++ held_for_views (rows_among taken rows))
      (lacked_is entries numbers views contents needed are kept held)
      ∙ ap (λ (ns : List ℕ). held_for_contents (unneeded (without_rows gone tables.views)
      tables.contents) ++ held_for_views (rows_among ns rows)) go
      ∙ ap (λ (vs : List View). held_for_contents (unneeded (without_rows gone tables.views)
      tables.contents) ++ held_for_views (rows_among gone vs)) all
