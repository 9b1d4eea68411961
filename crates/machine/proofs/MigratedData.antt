-- The data files of a new version without their bytes.
use Rattle.std.proofs.Common.{◌≡◌, ◌≢◌, ◌∙◌, ◌++◌, refl, sym, ap, ℕ, Bool, true, false, cond, not, List, [], ◌∷◌, length, map, All, AllPairs, arith}
use Rattle.std.specs.Prelude.{filter, flat_map, sum_by}
use Rattle.std.specs.declared.cmp.Ordering.TheVariants.{Less}
use Rattle.std.proofs.lemmas.List.{map-append}
use Rattle.std.proofs.lemmas.List.Elements.{All-head, All-tail}
use Rattle.identity.specs.Printed.{text_cmp}
use Rattle.manifests.specs.declared.facts.Application.{Application}
use Rattle.manifests.specs.declared.facts.FileEntry.{FileEntry}
use Rattle.manifests.specs.Applications.{is_below_pre}
use Rattle.manifests.specs.Facts.{AreApplicationFacts}
use Rattle.machine.specs.BareViews.{migrated_data, moved_data}
use Rattle.machine.specs.Blocks.{deployed_data}
use Rattle.machine.specs.DataFiles.{bare_name}
use Rattle.machine.specs.Migrated.{Migrated, aside, is_fresh, stays}
use Rattle.machine.specs.Shape.{BareData, bare_data}
use Rattle.machine.specs.Views.{DataFile, ListedFile}
use Rattle.machine.specs.Weight.{data_weight}
use Rattle.machine.proofs.Members.{kept_map, pairs_weaker, sum_map, sum_within}
use Rattle.machine.proofs.OneMigration.{differ, files, migration, migration_is, one_migration}
use Rattle.machine.proofs.MovedFiles.{copied, files_differ, fresh_file, moved_file}
use Rattle.machine.proofs.DataOrder.{IsNamedOther, in_order, in_order_in, order_in, order_is}

-- as many bytes as the manifest lists
abbrev pub IsSized : ListedFile → Type 0
IsSized file = length file.bytes ≡ file.entry.size

-- ---- one file

moved_by : (below same : Bool) (f : DataFile) (kept : List DataFile) (rest : List BareData)
    → map bare_data kept ≡ rest
    → map bare_data (cond (not below)
    (cond same f (record { name = aside f.name; bytes = f.bytes }) ∷ kept) kept)
    ≡ map (λ (name : List ℕ). record { name = name; length = length f.bytes })
    (cond below [] (cond same (f.name ∷ []) (aside f.name ∷ []))) ++ rest
moved_by true same f kept rest is = is
moved_by false true f kept rest is = ap (λ (ds : List BareData). bare_data f ∷ ds) is
moved_by false false f kept rest is =
    ap (λ (ds : List BareData). record { name = aside f.name; length = length f.bytes } ∷ ds) is

names_bare : (files : List DataFile)
    → map (λ (f : DataFile). f.name) files ≡ map bare_name (map bare_data files)
names_bare [] = refl
names_bare (file ∷ files) = ap (λ (names : List (List ℕ)). file.name ∷ names) (names_bare files)

module _ (old : List DataFile) (old_files : List FileEntry) (a : Application)
    (originals : List ListedFile)
    (ordered : AllPairs (λ (f g : DataFile). text_cmp f.name g.name ≡ Less) old)
    (facts : AreApplicationFacts a)
    (deployed : map (λ (file : ListedFile). file.entry) originals
    ≡ filter (λ (entry : FileEntry). entry.local) a.files) where
  abbrev move : DataFile → DataFile
  move file = moved_file old old_files a.files originals file

  abbrev make : ListedFile → DataFile
  make original = fresh_file old old_files a.files originals original

  abbrev is_outside : DataFile → Bool
  is_outside file = not (is_below_pre file.name)

  abbrev names : List (List ℕ)
  names = map (λ (f : DataFile). f.name) old

  abbrev comes_fresh : ListedFile → Bool
  comes_fresh original = is_fresh names old_files a.files original.entry.name

  -- ---- the old ones

  moved_bares : (fs : List DataFile) → map bare_data (map move (filter is_outside fs))
      ≡ flat_map (moved_data old_files a.files) (map bare_data fs)
  unfolding moved_file
  moved_bares [] = refl
  moved_bares (f ∷ fs) =
      ap (λ (ds : List DataFile). map bare_data ds)
      (sym (kept_map move (not (is_below_pre f.name)) f (filter is_outside fs)))
      ∙ moved_by (is_below_pre f.name) (stays old_files a.files f.name) f
      (map move (filter is_outside fs))
      (flat_map (moved_data old_files a.files) (map bare_data fs)) (moved_bares fs)

  -- ---- the new ones

  fresh_by : (b : Bool) (o : ListedFile) (kept : List ListedFile) (rest : List BareData)
      → length o.bytes ≡ o.entry.size → map bare_data (map make kept) ≡ rest
      → map bare_data (map make (cond b (o ∷ kept) kept))
      ≡ cond b (deployed_data o.entry ∷ rest) rest
  unfolding fresh_file
  fresh_by true o kept rest sized is =
      ap (λ (n : ℕ). record { name = o.entry.name; length = n } ∷ map bare_data (map make kept))
      sized
      ∙ ap (λ (ds : List BareData). deployed_data o.entry ∷ ds) is
  fresh_by false o kept rest sized is = is

  fresh_bares : (os : List ListedFile) → All IsSized os
      → map bare_data (map make (filter comes_fresh os))
      ≡ filter (λ (d : BareData). is_fresh names old_files a.files d.name)
      (map deployed_data (map (λ (o : ListedFile). o.entry) os))
  fresh_bares [] sized = refl
  fresh_bares (o ∷ os) sized =
      fresh_by (comes_fresh o) o (filter comes_fresh os)
      (filter (λ (d : BareData). is_fresh names old_files a.files d.name)
      (map deployed_data (map (λ (p : ListedFile). p.entry) os)))
      (All-head IsSized o os sized) (fresh_bares os (All-tail IsSized o os sized))

  -- ---- all of them

  module _ (sized : All IsSized originals) where
    abbrev all_files : List DataFile
    all_files = files old old_files a originals ordered facts deployed

    bares_are : map bare_data all_files ≡ migrated_data (map bare_data old) old_files a.files
    unfolding files copied
    bares_are =
        map-append bare_data (map move (filter is_outside old))
        (map make (filter comes_fresh originals))
        ∙ ap (λ (ds : List BareData).
        ds ++ map bare_data (map make (filter comes_fresh originals))) (moved_bares old)
        ∙ ap (λ (ds : List BareData).
        flat_map (moved_data old_files a.files) (map bare_data old) ++ ds)
        (fresh_bares originals sized
        ∙ ap (λ (es : List FileEntry).
        filter (λ (d : BareData). is_fresh names old_files a.files d.name) (map deployed_data es))
        deployed
        ∙ ap (λ (ns : List (List ℕ)).
        filter (λ (d : BareData). is_fresh ns old_files a.files d.name)
        (map deployed_data (filter (λ (entry : FileEntry). entry.local) a.files)))
        (names_bare old))

    all_differ : AllPairs IsNamedOther all_files
    all_differ = differ old old_files a originals ordered facts deployed

    abbrev weigh : DataFile → ℕ
    weigh file = data_weight (bare_data file)

    -- they weigh what they weigh in order
    in_order_weight : sum_by weigh (in_order all_files) ≡ sum_by weigh all_files
    in_order_weight =
        let no_more = sum_within weigh (in_order all_files) all_files
        (files_differ (in_order all_files) (order_is all_files all_differ)) (order_in all_files) in
        let no_less = sum_within weigh all_files (in_order all_files)
        (pairs_weaker IsNamedOther (λ (f g : DataFile). f ≢ g) all_files
        (λ f g other same. other (ap (λ (file : DataFile). file.name) same)) all_differ)
        (in_order_in all_files) in
        omega (arith, no_more, no_less)

    pub migrated_weight : (new : List DataFile) → Migrated old old_files a.files originals new
        → sum_by data_weight (map bare_data new)
        ≡ sum_by data_weight (migrated_data (map bare_data old) old_files a.files)
    migrated_weight new migrated =
        let made = migration old old_files a originals ordered facts deployed in
        let same = one_migration old old_files a.files originals new made.0 migrated made.1
        ∙ migration_is old old_files a originals ordered facts deployed in
        let own = ap (λ (fs : List DataFile). sum_by weigh fs) same in
        let bares = ap (λ (ds : List BareData). sum_by data_weight ds) bares_are in
        omega (
          arith,
          own,
          in_order_weight,
          bares,
          sum_map bare_data data_weight new,
          sum_map bare_data data_weight all_files,
        )
