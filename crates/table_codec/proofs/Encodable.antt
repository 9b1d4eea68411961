-- Tables that have their fields have an encoding, where they weigh little enough.
use Rattle.std.proofs.Common.{◌≡◌, ◌∙◌, ◌<◌, ◌≤◌, ◌^◌, ℕ, subst, List, [], ◌∷◌, length, map, true, arith}
use Rattle.std.specs.Prelude.{Any, sum_by}
use Rattle.std.proofs.lemmas.List.{length-append, length-map}
use Rattle.std.proofs.lemmas.List.Sums.{count_by-le-length, get_or-le-sum_by, length-filter, sum_by-cons}
use Rattle.small_types.specs.declared.limits.TheConstants.{FILE_COUNT_LIMIT}
use Rattle.manifests.specs.declared.facts.FileEntry.{FileEntry}
use Rattle.machine.specs.Blocks.{standing_files}
use Rattle.machine.specs.Views.{ContentKey, content_key, standing_entries}
use Rattle.machine.specs.Weight.{group_weight}
use Rattle.machine.proofs.Members.{In, all_in, in_map, map_in, sum_within}
use Rattle.store_state.specs.declared.view.Content.{Content}
use Rattle.store_state.specs.declared.view.LocalFile.{LocalFile}
use Rattle.store_state.specs.declared.view.View.{View}
use Rattle.store_state.specs.Contents.{AreContentsOf, held_key, is_content_of}
use Rattle.store_state.specs.Kept.{AreTables}
use Rattle.store_state.specs.Rows.{listed_files}
use Rattle.store_state.specs.Tables.{Tables, bare_row}
use Rattle.store_state.proofs.Keyed.{any_in, differ, of_key}
use Rattle.store_state.proofs.NamedFiles.{is_standing}
use Rattle.record_codec.specs.declared.numbers.TheConstants.{COUNT_LIMIT}
use Rattle.record_codec.specs.Values.{IsEncodableView}
use Rattle.table_codec.specs.Laws.{AreEncodable, StayEncodable}
use Rattle.table_codec.specs.Values.{HasFields}
use Rattle.table_codec.proofs.ChangedFields.{fields_stay}
use Rattle.table_codec.proofs.Fields.{have_fields}
use Rattle.table_weight.specs.Weight.{block_cost, local_weight, view_weight, weight_with}
use Rattle.table_weight.proofs.KeptTables.{kept_tables}

-- ---- contents, of which there are no more than files are listed

ones : {A : Type 0} (xs : List A) → sum_by (λ (x : A). 1) xs ≡ length xs
ones [] = omega arith
ones {A} (x ∷ xs) = omega (arith, ones xs, sum_by-cons (λ (y : A). 1) x xs)

module _ (entries : List FileEntry) (contents : List Content) (are : AreContentsOf entries contents)
  where
    key_there : (key : ContentKey) → In key (map held_key contents)
        → In key (map content_key entries)
    key_there key there =
        let content = map_in held_key contents key there in
        let entry = any_in (λ (e : FileEntry). is_content_of e content.0 ≡ true) entries
        (all_in (λ (c : Content). Any (λ (e : FileEntry). is_content_of e c ≡ true) entries) contents
        content.0 are.only content.1) in
        subst (λ (k : ContentKey). In k (map content_key entries))
        (of_key entry.0 content.0 entry.2 ∙ content.2) (in_map content_key entries entry.0 entry.1)

    few_by_files : length contents ≤ length entries
    few_by_files =
        omega (
          arith,
          sum_within (λ (k : ContentKey). 1) (map held_key contents) (map content_key entries)
              (differ entries contents are) key_there,
          ones (map held_key contents),
          ones (map content_key entries),
          length-map contents held_key,
          length-map entries content_key,
        )

files_listed : (views : List View)
    → length (standing_files (map bare_row views)) ≤ listed_files views
files_listed [] = omega arith
files_listed (view ∷ views) =
    let files = view.application.files in
    omega (
      arith,
      length-append (standing_entries view.groups view.application)
          (standing_files (map bare_row views)),
      length-filter (is_standing view.groups) files,
      count_by-le-length (is_standing view.groups) files,
      files_listed views,
      sum_by-cons (λ (v : View). length v.application.files) view views,
    )

few_contents : (t : Tables) → AreTables t → length t.contents ≤ FILE_COUNT_LIMIT
few_contents t are =
    omega (
      arith,
      few_by_files (standing_files (map bare_row t.views)) t.contents are.contents,
      files_listed t.views,
      are.few_files,
    )

-- ---- groups and data files, each of which weighs something

few_by_weight : {A : Type 0} (w : A → ℕ) (xs : List A) → ((x : A) → 1 ≤ w x)
    → length xs ≤ sum_by w xs
few_by_weight w [] each = omega arith
few_by_weight w (x ∷ xs) each =
    omega (arith, each x, few_by_weight w xs each, sum_by-cons w x xs)

local_some : (file : LocalFile) → 1 ≤ local_weight block_cost file
unfolding local_weight
local_some file = omega arith

view_encodes : (view : View) → HasFields view → view_weight block_cost view < 2 ^ 32
    → IsEncodableView COUNT_LIMIT view
unfolding view_weight
view_encodes view has light = record {
  number = has.number;
  deployment = has.deployment;
  application = has.application;
  base = has.base;
  few_groups = omega (
    arith,
    light,
    few_by_weight group_weight view.groups (λ group. omega arith),
  );
  groups = has.groups;
  few_locals = omega (
    arith,
    light,
    few_by_weight (local_weight block_cost) view.locals local_some,
  );
  locals = has.locals;
}

-- ---- tables

pub are_encodable : AreEncodable
unfolding weight_with
are_encodable t are have light = record {
  boot = have.boot;
  next_view = have.next_view;
  next_lease = have.next_lease;
  few_leases = are.few_leases;
  leases = have.leases;
  few_views = are.few_views;
  views = λ k d within. view_encodes _ (have.views k d within)
      (omega (arith, light, get_or-le-sum_by (view_weight block_cost) t.views k d within));
  few_apps = are.few_apps;
  apps = have.apps;
  few_contents = few_contents t are;
  contents = have.contents;
}

pub stay_encodable : StayEncodable
stay_encodable t change are is fits has light =
    are_encodable _ (kept_tables t change are fits)
    (fields_stay t change (have_fields t is) fits has) light
