-- What migrated data files are.
use Rattle.std.proofs.Common.{◌≡◌, ◌≢◌, ◌∙◌, ◌⊎◌, ◌&&◌, ◌++◌, inl, inr, refl, sym, ap, subst, ◌≤◌, ◌+◌, ℕ, Bool, true, false, not, cond, List, length, map, All, AllPairs, Contains, bytes_eq, arith}
use Rattle.std.specs.Prelude.{count_by, filter, flat_map, sum_by}
use Rattle.std.specs.declared.cmp.Ordering.TheVariants.{Less, Equal}
use Rattle.std.proofs.lemmas.Bool.{and_parts, false_from_ne_true}
use Rattle.std.proofs.lemmas.Cmp.{tied_itself}
use Rattle.std.proofs.lemmas.List.Folds.{list_any_none}
use Rattle.std.proofs.lemmas.List.Sums.{sum_by-append}
use Rattle.std.proofs.lemmas.Slice.Eq.{bytes_eq-Decides}
use Rattle.small_types.specs.declared.limits.TheConstants.{LOCAL_NAME_LIMIT}
use Rattle.small_types.specs.Name.{IsBelowPre, IsName}
use Rattle.identity.specs.Printed.{text_cmp}
use Rattle.manifests.specs.declared.facts.FileEntry.{FileEntry}
use Rattle.manifests.specs.Applications.{is_below_pre}
use Rattle.manifests.specs.Facts.{IsFile}
use Rattle.machine.specs.Blocks.{blocks_of}
use Rattle.machine.specs.Fields.{HasEntry}
use Rattle.machine.specs.Migrated.{IsAside, IsFresh, IsKept, Migrated, aside, is_fresh, migrated_names, moved, stays}
use Rattle.machine.specs.Valid.{IsDataFile}
use Rattle.machine.specs.Views.{DataFile, ListedFile}
use Rattle.machine.proofs.EntryOrder.{order}
use Rattle.machine.proofs.Members.{Differ, In, all_in, contains_in, filter_in, in_all, in_contains, in_filter, in_flat_map, in_left, in_map, in_right, map_in, pairs_map, pairs_weaker, sum_agree, sum_map, sum_within}
use Rattle.machine.proofs.Names.{aside_below, aside_is_name, outside_test, test_outside}

-- ---- files in order of their names differ

less_differs : (a b : List ℕ) → text_cmp a b ≡ Less → a ≢ b
less_differs a b less same = apart (sym (subst (λ (t : List ℕ). text_cmp a t ≡ Less) (sym same) less) ∙ tied_itself order a)
  where
    apart : Less ≡ Equal → ⊥
    apart e = cc

pub names_differ : (files : List DataFile) → AllPairs (λ (f g : DataFile). text_cmp f.name g.name ≡ Less) files → AllPairs (λ (f g : DataFile). ◌≢◌ {A = List ℕ} f.name g.name) files
names_differ files ordered = pairs_weaker _ _ files (λ f g less. less_differs f.name g.name less) ordered

pub files_differ : (files : List DataFile) → AllPairs (λ (f g : DataFile). text_cmp f.name g.name ≡ Less) files → Differ files
files_differ files ordered = pairs_weaker (λ (f g : DataFile). text_cmp f.name g.name ≡ Less) (λ (f g : DataFile). f ≢ g) files (λ f g less same. less_differs f.name g.name less (ap (λ (file : DataFile). file.name) same)) ordered

texts_differ : (files : List DataFile) → AllPairs (λ (f g : DataFile). text_cmp f.name g.name ≡ Less) files → Differ (map (λ (file : DataFile). file.name) files)
texts_differ files ordered = pairs_map (λ (file : DataFile). file.name) (λ (f g : DataFile). text_cmp f.name g.name ≡ Less) (λ (a b : List ℕ). a ≢ b) files (λ f g less. less_differs f.name g.name less) ordered

-- ---- one name

module _ (old_files new_files : List FileEntry) (name : List ℕ) where
  moved_kept : is_below_pre name ≡ false → stays old_files new_files name ≡ true → In name (moved old_files new_files name)
  moved_kept outside same = rw (outside, same) (inl refl)

  moved_aside : is_below_pre name ≡ false → stays old_files new_files name ≡ false → In (aside name) (moved old_files new_files name)
  moved_aside outside other = rw (outside, other) (inl refl)

-- a file by its parts
same_file : (f : DataFile) (name bytes : List ℕ) → f.name ≡ name → f.bytes ≡ bytes → ◌≡◌ {A = DataFile} (record { name = name; bytes = bytes }) f
same_file f name bytes n b = sym (ap (λ (x : List ℕ). record f { name = x }) n ∙ ap (λ (x : List ℕ). record { name = name; bytes = x }) b)

module _ (old : List DataFile) (old_files new_files : List FileEntry) (originals : List ListedFile) where
  pub fresh_test : (file : DataFile) → IsFresh old old_files new_files originals file → is_fresh (map (λ (f : DataFile). f.name) old) old_files new_files file.name ≡ true
  fresh_test file fresh =
      let none = list_any_none (λ (other : List ℕ). bytes_eq other file.name && not (is_below_pre other) && stays old_files new_files other) (map (λ (f : DataFile). f.name) old)
      (in_all (λ (other : List ℕ). (bytes_eq other file.name && not (is_below_pre other) && stays old_files new_files other) ≡ false) (map (λ (f : DataFile). f.name) old) (λ other there. false_from_ne_true _ (λ e. clash other there e))) in
      ap not none
    where
      outside : (other : List ℕ) → not (is_below_pre other) ≡ true → ¬ IsBelowPre other
      outside other e = test_outside other (negated (is_below_pre other) e)
        where
          negated : (b : Bool) → not b ≡ true → b ≡ false
          negated true h = absurd (let h = h in cc)
          negated false h = refl

      clash : (other : List ℕ) → In other (map (λ (f : DataFile). f.name) old) → (bytes_eq other file.name && not (is_below_pre other) && stays old_files new_files other) ≡ true → ⊥
      clash other there e =
          let both = and_parts (bytes_eq other file.name && not (is_below_pre other)) (stays old_files new_files other) e in
          let first = and_parts (bytes_eq other file.name) (not (is_below_pre other)) both.0 in
          let from = map_in (λ (f : DataFile). f.name) old other there in
          let is : from.0.name ≡ other = from.2 in
          fresh.alone from.0 (record {
            there = contains_in old from.0 from.1;
            outside = subst (λ (n : List ℕ). ¬ IsBelowPre n) (sym is) (outside other first.1);
            same = subst (λ (n : List ℕ). stays old_files new_files n ≡ true) (sym is) both.1;
          }) (is ∙ (bytes_eq-Decides other file.name).0 first.0)

  unfoldable pub weight : DataFile → ℕ
  weight file = blocks_of (length file.bytes)

  unfoldable pub moved_file : DataFile → DataFile
  moved_file file = cond (stays old_files new_files file.name) file (record { name = aside file.name; bytes = file.bytes })

  unfoldable pub fresh_file : ListedFile → DataFile
  fresh_file original = record { name = original.entry.name; bytes = original.bytes }

  -- the old data files that are copied
  unfoldable pub copied : List DataFile
  copied = filter (λ (file : DataFile). not (is_below_pre file.name)) old

  as_heavy : (file : DataFile) → weight (moved_file file) ≡ weight file
  unfolding moved_file weight
  as_heavy file = by (stays old_files new_files file.name)
    where
      by : (b : Bool) → blocks_of (length (cond b file (record { name = aside file.name; bytes = file.bytes })).bytes) ≡ blocks_of (length file.bytes)
      by true = refl
      by false = refl

  pub outside_copied : (f : DataFile) → Contains old f → ¬ IsBelowPre f.name → In f copied
  unfolding copied
  outside_copied f there outside = in_filter (λ (g : DataFile). not (is_below_pre g.name)) old f (ap not (outside_test f.name outside)) (in_contains old f there)

  -- an old file is one that is moved, under its name or aside
  pub kept_came : (file : DataFile) → IsKept old old_files new_files file → In file (map moved_file copied)
  unfolding moved_file
  kept_came file kept =
      let is : moved_file file ≡ file = ap (λ (b : Bool). cond b file (record { name = aside file.name; bytes = file.bytes })) kept.same in
      subst (λ (f : DataFile). In f (map moved_file copied)) is (in_map moved_file copied file (outside_copied file kept.there kept.outside))

  pub aside_came : (file : DataFile) → IsAside old old_files new_files file → In file (map moved_file copied)
  unfolding moved_file
  aside_came file off =
      let is : moved_file off.from ≡ file =
      ap (λ (b : Bool). cond b off.from (record { name = aside off.from.name; bytes = off.from.bytes })) off.other
      ∙ same_file file (aside off.from.name) off.from.bytes off.name off.bytes in
      subst (λ (f : DataFile). In f (map moved_file copied)) is (in_map moved_file copied off.from (outside_copied off.from off.there off.outside))

  pub fresh_is : (file : DataFile) (fresh : IsFresh old old_files new_files originals file) → fresh_file fresh.original ≡ file
  unfolding fresh_file
  fresh_is file fresh = same_file file fresh.original.entry.name fresh.original.bytes fresh.name fresh.bytes

module _ (old : List DataFile) (old_files new_files : List FileEntry) (originals : List ListedFile) (new : List DataFile) (migrated : Migrated old old_files new_files originals new) where
  -- where one comes from
  origin : (file : DataFile) → In file new → IsKept old old_files new_files file ⊎ IsAside old old_files new_files file ⊎ IsFresh old old_files new_files originals file
  origin file there = (migrated.files file).0 (contains_in new file there)

  -- ---- their names

  named : map (λ (file : ListedFile). file.entry) originals ≡ filter (λ (entry : FileEntry). entry.local) new_files → (file : DataFile) → In file new → In file.name (migrated_names (map (λ (f : DataFile). f.name) old) old_files new_files)
  named deployed file there = by (origin file there)
    where
      by : IsKept old old_files new_files file ⊎ IsAside old old_files new_files file ⊎ IsFresh old old_files new_files originals file → In file.name (migrated_names (map (λ (f : DataFile). f.name) old) old_files new_files)
      by (inl kept) =
          in_left (flat_map (moved old_files new_files) (map (λ (f : DataFile). f.name) old)) _ file.name
          (in_flat_map (moved old_files new_files) (map (λ (f : DataFile). f.name) old) file.name file.name
          (in_map (λ (f : DataFile). f.name) old file (in_contains old file kept.there))
          (moved_kept old_files new_files file.name (outside_test file.name kept.outside) kept.same))
      by (inr (inl off)) =
          in_left (flat_map (moved old_files new_files) (map (λ (f : DataFile). f.name) old)) _ file.name
          (in_flat_map (moved old_files new_files) (map (λ (f : DataFile). f.name) old) off.from.name file.name
          (in_map (λ (f : DataFile). f.name) old off.from (in_contains old off.from off.there))
          (subst (λ (n : List ℕ). In n (moved old_files new_files off.from.name)) (sym off.name)
          (moved_aside old_files new_files off.from.name (outside_test off.from.name off.outside) off.other)))
      by (inr (inr fresh)) =
          in_right (flat_map (moved old_files new_files) (map (λ (f : DataFile). f.name) old)) _ file.name
          (in_filter (is_fresh (map (λ (f : DataFile). f.name) old) old_files new_files) (map (λ (entry : FileEntry). entry.name) (filter (λ (entry : FileEntry). entry.local) new_files)) file.name (fresh_test old old_files new_files originals file fresh)
          (subst (λ (n : List ℕ). In n (map (λ (entry : FileEntry). entry.name) (filter (λ (entry : FileEntry). entry.local) new_files))) (sym fresh.name)
          (in_map (λ (entry : FileEntry). entry.name) (filter (λ (entry : FileEntry). entry.local) new_files) fresh.original.entry
          (subst (λ (entries : List FileEntry). In fresh.original.entry entries) deployed
          (in_map (λ (f : ListedFile). f.entry) originals fresh.original (in_contains originals fresh.original fresh.deployed))))))

  pub few_named : map (λ (file : ListedFile). file.entry) originals ≡ filter (λ (entry : FileEntry). entry.local) new_files → count_by (λ (file : DataFile). not (is_below_pre file.name)) new ≤ count_by (λ (name : List ℕ). not (is_below_pre name)) (migrated_names (map (λ (f : DataFile). f.name) old) old_files new_files)
  few_named deployed =
      let weigh = λ (name : List ℕ). cond (not (is_below_pre name)) 1 0 in
      let within = sum_within weigh (map (λ (f : DataFile). f.name) new) (migrated_names (map (λ (f : DataFile). f.name) old) old_files new_files) (texts_differ new migrated.order)
      (λ name there. (let from = map_in (λ (f : DataFile). f.name) new name there in subst (λ (n : List ℕ). In n (migrated_names (map (λ (f : DataFile). f.name) old) old_files new_files)) from.2 (named deployed from.0 from.1))) in
      omega (arith, sum_map (λ (f : DataFile). f.name) weigh new, within)

  -- ---- they are data files

  pub are_data : map (λ (file : ListedFile). file.entry) originals ≡ filter (λ (entry : FileEntry). entry.local) new_files → All IsFile new_files → All HasEntry new_files → All IsDataFile old → All IsDataFile new
  are_data deployed listed has was = in_all IsDataFile new (λ file there. by file (origin file there))
    where
      by : (file : DataFile) → IsKept old old_files new_files file ⊎ IsAside old old_files new_files file ⊎ IsFresh old old_files new_files originals file → IsDataFile file
      by file (inl kept) = all_in IsDataFile old file was (in_contains old file kept.there)
      by file (inr (inl off)) =
          let from = all_in IsDataFile old off.from was (in_contains old off.from off.there) in
          record {
            name = subst IsName (sym off.name) (aside_is_name off.from.name from.name (from.short off.outside));
            short = λ outside. absurd (outside (subst IsBelowPre (sym off.name) (aside_below off.from.name)));
          }
      by file (inr (inr fresh)) =
          let entry = fresh.original.entry in
          let there = filter_in (λ (e : FileEntry). e.local) new_files entry
          (subst (λ (entries : List FileEntry). In entry entries) deployed
          (in_map (λ (f : ListedFile). f.entry) originals fresh.original (in_contains originals fresh.original fresh.deployed))) in
          let name = (all_in HasEntry new_files entry has there.1).name in
          let short = (all_in IsFile new_files entry listed there.1).short there.0 in
          record {
            name = subst IsName (sym fresh.name) name;
            short = λ outside. subst (λ (n : List ℕ). length n ≤ LOCAL_NAME_LIMIT) (sym fresh.name) short;
          }

  -- ---- their blocks

  came : (file : DataFile) → In file new → In file (map (moved_file old old_files new_files originals) (copied old old_files new_files originals) ++ map (fresh_file old old_files new_files originals) originals)
  came file there = by (origin file there)
    where
      by : IsKept old old_files new_files file ⊎ IsAside old old_files new_files file ⊎ IsFresh old old_files new_files originals file → In file (map (moved_file old old_files new_files originals) (copied old old_files new_files originals) ++ map (fresh_file old old_files new_files originals) originals)
      by (inl kept) = in_left (map (moved_file old old_files new_files originals) (copied old old_files new_files originals)) (map (fresh_file old old_files new_files originals) originals) file (kept_came old old_files new_files originals file kept)
      by (inr (inl off)) = in_left (map (moved_file old old_files new_files originals) (copied old old_files new_files originals)) (map (fresh_file old old_files new_files originals) originals) file (aside_came old old_files new_files originals file off)
      by (inr (inr fresh)) =
          in_right (map (moved_file old old_files new_files originals) (copied old old_files new_files originals)) (map (fresh_file old old_files new_files originals) originals) file
          (subst (λ (f : DataFile). In f (map (fresh_file old old_files new_files originals) originals)) (fresh_is old old_files new_files originals file fresh)
          (in_map (fresh_file old old_files new_files originals) originals fresh.original (in_contains originals fresh.original fresh.deployed)))

  pub data_weight : sum_by (λ (file : DataFile). blocks_of (length file.bytes)) new ≤ sum_by (λ (file : DataFile). blocks_of (length file.bytes)) (filter (λ (file : DataFile). not (is_below_pre file.name)) old) + sum_by (λ (file : ListedFile). blocks_of (length file.bytes)) originals
  unfolding fresh_file copied weight
  data_weight =
      let within = sum_within (weight old old_files new_files originals) new (map (moved_file old old_files new_files originals) (copied old old_files new_files originals) ++ map (fresh_file old old_files new_files originals) originals) (files_differ new migrated.order) came in
      let first = sum_map (moved_file old old_files new_files originals) (weight old old_files new_files originals) (copied old old_files new_files originals) in
      let light = sum_agree (λ (f : DataFile). (weight old old_files new_files originals) ((moved_file old old_files new_files originals) f)) (weight old old_files new_files originals) (copied old old_files new_files originals) (in_all (λ (f : DataFile). (weight old old_files new_files originals) ((moved_file old old_files new_files originals) f) ≡ (weight old old_files new_files originals) f) (copied old old_files new_files originals) (λ f there. (as_heavy old old_files new_files originals) f)) in
      let second = sum_map (fresh_file old old_files new_files originals) (weight old old_files new_files originals) originals in
      omega (arith, within, sum_by-append (weight old old_files new_files originals) (map (moved_file old old_files new_files originals) (copied old old_files new_files originals)) (map (fresh_file old old_files new_files originals) originals), first, light, second)
