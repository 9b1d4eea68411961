-- The data files that plans make are those of the new version.
use Rattle.std.proofs.Common.{◌≡◌, ◌≢◌, ◌∙◌, ◌⊎◌, inl, inr, refl, sym, ap, subst, ℕ, Bool, true, false, List, map, AllPairs, Option, Some, bytes_eq}
use Rattle.std.specs.Prelude.{find}
use Rattle.std.specs.List.Sorted.{IsPermutation, IsSortedByKey}
use Rattle.std.specs.declared.cmp.Ordering.TheVariants.{Less}
use Rattle.std.proofs.lemmas.List.Sorted.{Contains-permutation, IsPermutation-sym}
use Rattle.std.proofs.lemmas.Slice.Eq.{bytes_eq-Decides}
use Rattle.small_types.specs.Name.{IsBelowPre}
use Rattle.identity.specs.Printed.{text_cmp}
use Rattle.manifests.specs.declared.facts.FileEntry.{FileEntry}
use Rattle.machine.specs.Migrated.{IsAside, IsFresh, IsKept, Migrated, aside, is_fresh, stays}
use Rattle.machine.specs.Views.{DataFile, ListedFile}
use Rattle.machine.proofs.FirstFound.{find_in, find_some}
use Rattle.machine.proofs.ChangedLists.{one_of, pairs_unmap}
use Rattle.machine.proofs.Members.{In, contains_in, in_contains, in_map, map_in, pairs_map}
use Rattle.machine.proofs.MovedFiles.{fresh_test}
use Rattle.store_state.specs.declared.view.LocalFile.{LocalFile}
use Rattle.data_migration.specs.declared.plan.LocalPlan.{LocalPlan}
use Rattle.data_migration.specs.declared.plan.LocalPlan.TheVariants.{Copy, Fresh}
use Rattle.data_migration.specs.Migration.{AreApart, IsMigration, applied, bytes_in, deployed_files, listed_in, made}
use Rattle.data_migration.specs.Plans.{carried_to, local_names, plan_name, planned}
use Rattle.data_migration.proofs.Apart.{fresh_alone, in_order}
use Rattle.data_migration.proofs.PlanNames.{IsNew, IsOld, plan_is, plan_of_new, plan_of_old}

-- ---- the one of a name

-- where the names differ, each is found by its own
find_own : {X : Type 0} (name : X → List ℕ) (xs : List X)
    → AllPairs (λ (x y : X). ◌≢◌ {A = List ℕ} (name x) (name y)) xs → (x : X) → In x xs
    → find (λ (y : X). bytes_eq (name y) (name x)) xs ≡ Some x
find_own {X} name xs apart x there =
    let test = λ (y : X). bytes_eq (name y) (name x) in
    let some = find_some test xs x there ((bytes_eq-Decides (name x) (name x)).1 refl) in
    let one = find_in test xs some.0 some.1 in
    some.1
    ∙ ap Some (one_of name xs apart some.0 x one.0 there
    ((bytes_eq-Decides (name some.0) (name x)).0 one.1))

-- a file by its parts
same_file : (f : DataFile) (name bytes : List ℕ) → f.name ≡ name → f.bytes ≡ bytes
    → ◌≡◌ {A = DataFile} (record { name = name; bytes = bytes }) f
same_file f name bytes n b =
    sym (ap (λ (x : List ℕ). record f { name = x }) n
    ∙ ap (λ (x : List ℕ). record { name = name; bytes = x }) b)

module _ (old : List LocalFile) (held : List DataFile) (old_files new_files : List FileEntry)
    (originals : List ListedFile) (plans : List LocalPlan)
    (same : IsPermutation (planned old old_files new_files) plans)
    (sorted : IsSortedByKey plan_name text_cmp plans)
    (named_so : map (λ (file : DataFile). file.name) held ≡ local_names old)
    (apart : AreApart old new_files)
    (deployed : map (λ (file : ListedFile). file.entry) originals ≡ deployed_files new_files)
  where
    abbrev make : LocalPlan → DataFile
    make = made held originals

    abbrev stay : List ℕ → Bool
    stay = stays old_files new_files

    abbrev comes : List ℕ → Bool
    comes = is_fresh (local_names old) old_files new_files

    -- ---- what a plan makes

    data_apart : AllPairs (λ (f g : DataFile). ◌≢◌ {A = List ℕ} f.name g.name) held
    data_apart =
        pairs_unmap (λ (f : DataFile). f.name) (λ (m n : List ℕ). m ≢ n) held
        (subst (AllPairs (λ (m n : List ℕ). m ≢ n)) (sym named_so)
        (pairs_map (λ (f : LocalFile). f.name)
        (λ (f g : LocalFile). ◌≢◌ {A = List ℕ} f.name g.name) (λ (m n : List ℕ). m ≢ n) old
        (λ f g other. other) apart.old_names))

    -- the old data file of the name, with its bytes and without
    file_of : (file : LocalFile) → In file old → (f : DataFile) × In f held × (f.name ≡ file.name)
    file_of file there =
        map_in (λ (f : DataFile). f.name) held file.name
        (subst (λ (names : List (List ℕ)). In file.name names) (sym named_so)
        (in_map (λ (f : LocalFile). f.name) old file there))

    local_of : (file : DataFile) → In file held
        → (f : LocalFile) × In f old × (f.name ≡ file.name)
    local_of file there =
        map_in (λ (f : LocalFile). f.name) old file.name
        (subst (λ (names : List (List ℕ)). In file.name names) named_so
        (in_map (λ (f : DataFile). f.name) held file there))

    originals_apart : AllPairs (λ (o p : ListedFile). ◌≢◌ {A = List ℕ} o.entry.name p.entry.name)
        originals
    originals_apart =
        pairs_unmap (λ (o : ListedFile). o.entry)
        (λ (e f : FileEntry). ◌≢◌ {A = List ℕ} e.name f.name) originals
        (subst (AllPairs (λ (e f : FileEntry). ◌≢◌ {A = List ℕ} e.name f.name)) (sym deployed)
        apart.new_names)

    copy_is : (file : DataFile) (to : List ℕ) → In file held
        → ◌≡◌ {A = DataFile} (make (Copy file.name to))
        (record { name = to; bytes = file.bytes })
    copy_is file to there =
        ap (λ (found : Option DataFile). record { name = to; bytes = bytes_in found })
        (find_own (λ (f : DataFile). f.name) held data_apart file there)

    fresh_is : (o : ListedFile) → In o originals
        → ◌≡◌ {A = DataFile} (make (Fresh o.entry.name))
        (record { name = o.entry.name; bytes = o.bytes })
    fresh_is o there =
        ap (λ (found : Option ListedFile). record { name = o.entry.name; bytes = listed_in found })
        (find_own (λ (p : ListedFile). p.entry.name) originals originals_apart o there)

    -- ---- where one comes from

    abbrev Comes : DataFile → Type 0
    Comes file = IsKept held old_files new_files file ⊎ IsAside held old_files new_files file
        ⊎ IsFresh held old_files new_files originals file

    carried_comes : (s : Bool) (from file : DataFile) → stay from.name ≡ s → In from held
        → ¬ IsBelowPre from.name
        → ◌≡◌ {A = DataFile} (record { name = carried_to s from.name; bytes = from.bytes }) file
        → Comes file
    carried_comes true from file is there outside made_is =
        inl (subst (IsKept held old_files new_files) made_is (record {
          there = contains_in held from there;
          outside = outside;
          same = is;
        }))
    carried_comes false from file is there outside made_is =
        inr (inl (record {
          from = from;
          there = contains_in held from there;
          outside = outside;
          other = is;
          name = ap (λ (f : DataFile). f.name) (sym made_is);
          bytes = ap (λ (f : DataFile). f.bytes) (sym made_is);
        }))

    old_comes : (file : DataFile) (p : LocalPlan) → make p ≡ file → IsOld old old_files new_files p
        → Comes file
    old_comes file p made_is one =
        let from = file_of one.file one.there in
        carried_comes (stay from.0.name) from.0 file refl from.1
        (subst (λ (n : List ℕ). ¬ IsBelowPre n) (sym from.2) one.outside)
        (sym (copy_is from.0 (carried_to (stay from.0.name) from.0.name) from.1)
        ∙ ap (λ (n : List ℕ). make (Copy n (carried_to (stay n) n))) from.2
        ∙ ap make one.is ∙ made_is)

    -- no old one that stays has its name
    alone : (name : List ℕ) → comes name ≡ true → (kept : DataFile)
        → IsKept held old_files new_files kept → ◌≢◌ {A = List ℕ} kept.name name
    alone name fresh kept is same_name =
        let from = local_of kept (in_contains held kept is.there) in
        fresh_alone old old_files new_files name fresh from.0 from.1
        (subst (λ (n : List ℕ). ¬ IsBelowPre n) (sym from.2) is.outside)
        (subst (λ (n : List ℕ). stay n ≡ true) (sym from.2) is.same) (from.2 ∙ same_name)

    new_comes : (file : DataFile) (p : LocalPlan) → make p ≡ file → IsNew old old_files new_files p
        → Comes file
    new_comes file p made_is one =
        let from = map_in (λ (o : ListedFile). o.entry) originals one.entry
        (subst (λ (entries : List FileEntry). In one.entry entries) (sym deployed) one.there) in
        let is : ◌≡◌ {A = DataFile}
        (record { name = from.0.entry.name; bytes = from.0.bytes }) file =
        sym (fresh_is from.0 from.1)
        ∙ ap (λ (e : FileEntry). make (Fresh e.name)) from.2 ∙ ap make one.is ∙ made_is in
        let named : file.name ≡ from.0.entry.name = ap (λ (f : DataFile). f.name) (sym is) in
        let entry_named : one.entry.name ≡ file.name =
        ap (λ (e : FileEntry). e.name) (sym from.2) ∙ sym named in
        inr (inr (record {
          original = from.0;
          deployed = contains_in originals from.0 from.1;
          name = named;
          bytes = ap (λ (f : DataFile). f.bytes) (sym is);
          alone = alone file.name
              (subst (λ (n : List ℕ). comes n ≡ true) entry_named one.fresh);
        }))

    made_comes : (file : DataFile) → In file (map make plans) → Comes file
    made_comes file there =
        let from = map_in make plans file there in
        by from.0 from.2 (plan_is old old_files new_files from.0
        (in_contains (planned old old_files new_files) from.0
        (Contains-permutation plans (planned old old_files new_files) from.0
        (IsPermutation-sym (planned old old_files new_files) plans same)
        (contains_in plans from.0 from.1))))
      where
        by : (p : LocalPlan) → make p ≡ file
            → IsOld old old_files new_files p ⊎ IsNew old old_files new_files p → Comes file
        by p made_is (inl one) = old_comes file p made_is one
        by p made_is (inr one) = new_comes file p made_is one

    -- ---- each is made

    plan_made : (p : LocalPlan) (file : DataFile) → In p (planned old old_files new_files)
        → make p ≡ file → In file (map make plans)
    plan_made p file there is =
        subst (λ (f : DataFile). In f (map make plans)) is
        (in_map make plans p (in_contains plans p
        (Contains-permutation (planned old old_files new_files) plans p same
        (contains_in (planned old old_files new_files) p there))))

    carried_made : (s : Bool) (from file : DataFile) → stay from.name ≡ s → In from held
        → ¬ IsBelowPre from.name
        → ◌≡◌ {A = DataFile} (record { name = carried_to s from.name; bytes = from.bytes }) file
        → In file (map make plans)
    carried_made s from file is there outside made_is =
        let one = local_of from there in
        plan_made (Copy from.name (carried_to (stay from.name) from.name)) file
        (subst (λ (n : List ℕ). In (Copy n (carried_to (stay n) n))
        (planned old old_files new_files)) one.2
        (plan_of_old old old_files new_files one.0 one.1
        (subst (λ (n : List ℕ). ¬ IsBelowPre n) (sym one.2) outside)))
        (copy_is from (carried_to (stay from.name) from.name) there
        ∙ ap (λ (b : Bool). record { name = carried_to b from.name; bytes = from.bytes }) is
        ∙ made_is)

    kept_made : (file : DataFile) → IsKept held old_files new_files file → In file (map make plans)
    kept_made file kept =
        carried_made true file file kept.same (in_contains held file kept.there) kept.outside refl

    aside_made : (file : DataFile) → IsAside held old_files new_files file
        → In file (map make plans)
    aside_made file off =
        carried_made false off.from file off.other (in_contains held off.from off.there) off.outside
        (same_file file (aside off.from.name) off.from.bytes off.name off.bytes)

    fresh_made : (file : DataFile) → IsFresh held old_files new_files originals file
        → In file (map make plans)
    fresh_made file fresh =
        let o = fresh.original in
        let there = in_contains originals o fresh.deployed in
        plan_made (Fresh o.entry.name) file
        (plan_of_new old old_files new_files o.entry
        (subst (λ (entries : List FileEntry). In o.entry entries) deployed
        (in_map (λ (p : ListedFile). p.entry) originals o there))
        (subst (λ (n : List ℕ). comes n ≡ true) fresh.name
        (subst (λ (ns : List (List ℕ)). is_fresh ns old_files new_files file.name ≡ true)
        named_so (fresh_test held old_files new_files originals file fresh))))
        (fresh_is o there ∙ same_file file o.entry.name o.bytes fresh.name fresh.bytes)

    comes_made : (file : DataFile) → Comes file → In file (map make plans)
    comes_made file (inl kept) = kept_made file kept
    comes_made file (inr (inl off)) = aside_made file off
    comes_made file (inr (inr fresh)) = fresh_made file fresh

    -- ---- in order

    made_less : (p q : LocalPlan) → text_cmp (plan_name p) (plan_name q) ≡ Less
        → text_cmp (make p).name (make q).name ≡ Less
    made_less (Copy a b) (Copy c d) less = less
    made_less (Copy a b) (Fresh c) less = less
    made_less (Fresh a) (Copy c d) less = less
    made_less (Fresh a) (Fresh c) less = less

    pub migrated : Migrated held old_files new_files originals (applied held originals plans)
    migrated = record {
      order =
          pairs_map make (λ (p q : LocalPlan). text_cmp (plan_name p) (plan_name q) ≡ Less)
          (λ (f g : DataFile). text_cmp f.name g.name ≡ Less) plans made_less
          (in_order old old_files new_files apart plans same sorted);
      files = λ file. (
        (λ there. made_comes file (in_contains (map make plans) file there)),
        (λ from. contains_in (map make plans) file (comes_made file from)),
      );
    }

-- whatever bytes the old data files have, and whatever the new release deploys
pub is_migration : (old : List LocalFile) (old_files new_files : List FileEntry)
    (plans : List LocalPlan) → IsPermutation (planned old old_files new_files) plans
    → IsSortedByKey plan_name text_cmp plans → IsMigration old old_files new_files plans
is_migration old old_files new_files plans same sorted held originals named_so apart deployed =
    migrated old held old_files new_files originals plans same sorted named_so apart deployed
