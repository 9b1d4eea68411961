-- What contents weigh once a group stands in one of the views.
use Rattle.std.proofs.Common.{◌≡◌, ◌∙◌, ◌⊎◌, ◌<◌, ◌+◌, inl, inr, refl, sym, ap, ℕ, cond, false, Bool, List, [], ◌∷◌, map, All, AllPairs, Contains, Option, Some, arith}
use Rattle.std.specs.Prelude.{slice_get, sum_by}
use Rattle.std.proofs.lemmas.List.Elements.{All-head, All-tail}
use Rattle.std.proofs.lemmas.List.Sums.{sum_by-cons}
use Rattle.manifests.specs.declared.facts.Application.{Application}
use Rattle.manifests.specs.declared.facts.FileEntry.{FileEntry}
use Rattle.machine.specs.BareViews.{with_bare_at, with_bare_group}
use Rattle.machine.specs.Blocks.{distinct, standing_files}
use Rattle.machine.specs.Groups.{group_files, group_wanted}
use Rattle.machine.specs.Shape.{BareView}
use Rattle.machine.specs.Views.{standing_entries}
use Rattle.machine.specs.Wanted.{wanted_beside}
use Rattle.machine.specs.Weight.{counted}
use Rattle.machine.specs.Weight.{content_weight as entry_weight}
use Rattle.machine.proofs.Members.{In, all_in, in_contains, contains_in, in_all, in_map, sum_map}
use Rattle.machine.proofs.MissingFiles.{are_missing}
use Rattle.machine.proofs.Ungrouped.{group_programs, group_ungrouped}
use Rattle.store_state.specs.declared.view.View.{View}
use Rattle.store_state.specs.Change.{grown}
use Rattle.store_state.specs.Rows.{row_at, with_row}
use Rattle.store_state.specs.Tables.{bare_row}
use Rattle.store_state.proofs.ByNumber.{became, change}
use Rattle.store_state.proofs.GrownTables.{each_grown, files_row, grown_either, grown_left, grown_right, of_view, row_files, view_number, view_there}
use Rattle.table_weight.specs.Releases.{program_weight, without_group}
use Rattle.table_weight.proofs.BareRows.{bare_grown}
use Rattle.table_weight.proofs.ByKey.{AreAll, Come, more_weigh}

-- ---- files at places

-- what is read at the places weighs what is wanted
pub places_weigh : (w : FileEntry → ℕ) (files entries : List FileEntry) (places : List ℕ)
    → map (slice_get files) places ≡ map Some entries
    → sum_by (λ (place : ℕ). counted w (slice_get files place)) places ≡ sum_by w entries
places_weigh w files entries places are =
    sym (sum_map (slice_get files) (counted w) places)
    ∙ ap (λ (os : List (Option FileEntry)). sum_by (counted w) os) are
    ∙ sum_map Some (counted w) entries

-- ---- the wanted files of a group

program_is : (w : ℕ) (b : Bool) → b ≡ false → cond b 0 w ≡ w
program_is w b is = ap (λ (c : Bool). cond c 0 w) is

programs_weigh : (entries : List FileEntry) → All (λ (e : FileEntry). e.local ≡ false) entries
    → sum_by program_weight (map without_group entries) ≡ sum_by entry_weight entries
unfolding entry_weight
programs_weigh [] all = refl
programs_weigh (e ∷ entries) all =
    let first = program_is (entry_weight e) e.local
    (All-head (λ (e : FileEntry). e.local ≡ false) e entries all) in
    let rest = programs_weigh entries
    (All-tail (λ (e : FileEntry). e.local ≡ false) e entries all) in
    omega (
      arith,
      first,
      rest,
      sum_by-cons program_weight (without_group e) (map without_group entries),
      sum_by-cons entry_weight e entries,
    )

module _ (views : List BareView) (group : List ℕ) (a : Application) where
  wanted_programs : All (λ (e : FileEntry). e.local ≡ false) (group_wanted views group a)
  wanted_programs =
      let missing = are_missing views group a in
      in_all (λ (e : FileEntry). e.local ≡ false) (group_wanted views group a) (λ e there.
      all_in (λ (e : FileEntry). e.local ≡ false) (group_files group a) e (group_programs group a)
      (in_contains (group_files group a) e
      (all_in (Contains (group_files group a)) (group_wanted views group a) e missing.among there)))

  pub group_weighs : (files : List FileEntry) (places : List ℕ)
      → files ≡ map without_group (group_files group a)
      → map (slice_get files) places ≡ map Some (wanted_beside (standing_files views) files)
      → sum_by (λ (place : ℕ). counted program_weight (slice_get files place)) places
      ≡ sum_by entry_weight (group_wanted views group a)
  group_weighs files places are wanted =
      places_weigh program_weight files (wanted_beside (standing_files views) files) places wanted
      ∙ ap (λ (es : List FileEntry).
      sum_by program_weight (wanted_beside (standing_files views) es)) are
      ∙ ap (λ (es : List FileEntry). sum_by program_weight es) (group_ungrouped views group a)
      ∙ programs_weigh (group_wanted views group a) wanted_programs

  pub group_comes : Come (standing_files views) (group_files group a) (group_wanted views group a)
  group_comes =
      let missing = are_missing views group a in
      record {
        each = λ entry there. missing.each entry (contains_in (group_files group a) entry there);
        among = λ entry there. in_contains (group_files group a) entry
            (all_in (Contains (group_files group a)) (group_wanted views group a) entry
            missing.among there);
        new = missing.new;
        once = missing.once;
      }

-- ---- the files that stand then

module _ (number : ℕ) (group : List ℕ) (views : List View) (view : View)
    (rising : AllPairs (λ (m n : ℕ). m < n) (map of_view views))
    (kept : row_at number views ≡ Some view) where
  abbrev held : List FileEntry
  held = standing_files (map bare_row views)

  abbrev coming : List FileEntry
  coming = group_files group view.application

  abbrev made : List View
  made = with_row number (grown group) views

  abbrev Stands : FileEntry → View → Type 0
  Stands entry v = In entry (standing_entries v.groups v.application)

  put_there : (entry : FileEntry) (v : View) → In v views
      → Stands entry (change of_view number (grown group) v)
      → In entry (standing_files (map bare_row made))
  put_there entry v of stands =
      files_row made (change of_view number (grown group) v) entry
      (in_map (change of_view number (grown group)) views v of) stands

  back_by : (entry : FileEntry) → Stands entry view ⊎ In entry coming
      → In entry held ⊎ In entry coming
  back_by entry (inl stood) =
      inl (files_row views view entry (view_there number group views view rising kept) stood)
  back_by entry (inr of) = inr of

  all_grown : AreAll held coming (standing_files (map bare_row made))
  all_grown = record {
    either = λ entry there. (
        let row = row_files made entry there in
        all_in (λ (v : View). Stands entry v → In entry held ⊎ In entry coming) made row.0
        (each_grown number group views view rising kept
        (λ (v : View). Stands entry v → In entry held ⊎ In entry coming)
        (λ stands. back_by entry (grown_either group view entry stands))
        (λ other of unlike stands. inl (files_row views other entry of stands))) row.1 row.2
        );
    old = λ entry there. (
        let row = row_files views entry there in
        put_there entry row.0 row.1 (became of_view number (grown group) (Stands entry) row.0
        (λ is. grown_left group row.0 entry row.2) (λ other. row.2))
        );
    came = λ entry there.
        put_there entry view (view_there number group views view rising kept)
        (became of_view number (grown group) (Stands entry) view
        (λ is. grown_right group view entry there)
        (λ other. absurd (other (view_number number group views view rising kept))));
  }

  -- what the contents weigh then
  pub grown_contents : sum_by entry_weight
      (distinct (standing_files (with_bare_at number (with_bare_group group) (map bare_row views))))
      ≡ sum_by entry_weight (distinct held)
      + sum_by entry_weight (group_wanted (map bare_row views) group view.application)
  grown_contents =
      ap (λ (vs : List BareView). sum_by entry_weight (distinct (standing_files vs)))
      (sym (bare_grown number group views))
      ∙ more_weigh held coming (group_wanted (map bare_row views) group view.application)
      (standing_files (map bare_row made)) (group_comes (map bare_row views) group view.application)
      all_grown
