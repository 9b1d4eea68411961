-- The plans of the data files of a new view, beside the view that is current.
use Rattle.std.proofs.Common.{◌≡◌, ◌≢◌, ◌∙◌, ◌+◌, ◌*◌, ◌^◌, ◌<◌, ◌≤◌, ◌==◌, refl, sym, ap, subst, ℕ, Bool, true, false, cond, not, List, [], ◌∷◌, length, map, drop, get_or, AllPairs, All, Option, Some, None, IsSome, arith}
use Rattle.std.specs.Prelude.{count_by, filter, flat_map, option_and_then, option_map, sum_by}
use Rattle.std.specs.List.Sorted.{IsPermutation}
use Rattle.std.specs.declared.cmp.Ordering.TheVariants.{Less}
use Rattle.std.proofs.lemmas.List.{length-append, length-map}
use Rattle.std.proofs.lemmas.List.Kept.{AllPairs-filter}
use Rattle.std.proofs.lemmas.List.Sorted.{length_permutation, sum_by-IsPermutation}
use Rattle.std.proofs.lemmas.List.Sums.{count_by-le-length, length-filter, sum_by-cons, sum_by-drop_more}
use Rattle.std.proofs.lemmas.Option.{none-some, same_Some}
use Rattle.small_types.specs.declared.room.Room.{Room}
use Rattle.small_types.specs.declared.limits.TheConstants.{FILE_COUNT_LIMIT, LOCAL_COUNT_LIMIT}
use Rattle.small_types.specs.Name.{IsBelowPre}
use Rattle.identity.specs.declared.key.Key.{Key}
use Rattle.identity.specs.Printed.{text_cmp}
use Rattle.manifests.specs.declared.facts.Application.{Application}
use Rattle.manifests.specs.declared.facts.FileEntry.{FileEntry}
use Rattle.manifests.specs.Applications.{is_below_pre, locals}
use Rattle.manifests.specs.Facts.{IsFile}
use Rattle.machine.specs.Blocks.{blocks_of}
use Rattle.machine.specs.Current.{bare_data_of, bare_listed_by, current_bare, current_of}
use Rattle.machine.specs.Fields.{IsApplication}
use Rattle.machine.specs.Migrated.{aside, is_fresh, migrated_names, moved, stays}
use Rattle.machine.specs.Shape.{BareData, BareView}
use Rattle.machine.specs.Wanted.{copied_need}
use Rattle.machine.proofs.Members.{In, all_in, filter_in, in_all, pairs_weaker, sum_map}
use Rattle.machine.proofs.NamedItems.{not_equal}
use Rattle.store_state.specs.declared.view.LocalFile.{LocalFile}
use Rattle.store_state.specs.declared.view.View.{View}
use Rattle.store_state.specs.Change.{IsLocal, IsRow}
use Rattle.store_state.specs.Kept.{AreTables}
use Rattle.store_state.specs.Locals.{outside_locals}
use Rattle.store_state.specs.Rows.{current_row, row_at, row_files, row_locals}
use Rattle.store_state.specs.Tables.{Tables, bare_local, bare_row, table_shape}
use Rattle.store_state.proofs.Current.{bare_current}
use Rattle.data_migration.specs.declared.plan.LocalPlan.{LocalPlan}
use Rattle.data_migration.specs.Migration.{AreApart, HasSource, IsMigration, IsMovable, deployed_files}
use Rattle.data_migration.specs.Plans.{local_names, plan_name, planned}
use Rattle.install_plan.specs.declared.plan.InstallPlan.{InstallPlan}
use Rattle.install_plan.specs.Carried.{ArePlans, Rise, copied_blocks_of, copied_in}
use Rattle.install_plan.proofs.Keyed.{found}

-- ---- the view that is current

row_in : (o : Option ℕ) (views : List View) (view : View) → option_and_then (λ number. row_at number views) o ≡ Some view → In view views
row_in None views view e = absurd (none-some view e)
row_in (Some n) views view e =
    let first = found (λ (v : View). v.number == n) views (subst (λ (o : Option View). IsSome o) (sym e) refl) in
    subst (λ (v : View). In v views) (same_Some first.item view (sym first.is ∙ e)) first.there

pub current_in : (key : Key) (tables : Tables) (view : View) → current_row key tables ≡ Some view → In view tables.views
current_in key tables view e = row_in (current_of key tables.apps) tables.views view e

-- its data files
pub row_are : (key : Key) (tables : Tables) (row : Option View) → current_row key tables ≡ row → AreTables tables → (file : LocalFile) → In file (row_locals row) → IsLocal file
row_are key tables None e are file there = absurd there
row_are key tables (Some view) e are file there = all_in IsLocal view.locals file (all_in IsRow tables.views view are.rows (current_in key tables view e)).locals there

pub movable : (key : Key) (tables : Tables) (row : Option View) (view : View) → row ≡ current_row key tables → row ≡ Some view → AreTables tables → All IsMovable view.locals
movable key tables row view is some are = in_all IsMovable view.locals (λ file there. (row_are key tables (Some view) (sym is ∙ some) are file there).short)

-- plans beside it
pub plans_at : (key : Key) (tables : Tables) (files : List FileEntry) (view : View) → Some view ≡ current_row key tables → (plans : List LocalPlan) → IsMigration view.locals view.application.files files plans
    → IsPermutation (migrated_names (local_names view.locals) view.application.files files) (map plan_name plans) → (AreApart view.locals files → Rise plans) → All (HasSource view.locals files) plans → IsPermutation (planned view.locals view.application.files files) plans → ArePlans (current_row key tables) files plans
plans_at key tables files view is plans migrated names once sources plan = subst (λ (row : Option View). ArePlans row files plans) is (record { migrated = migrated; names = names; once = once; sources = sources; planned = plan })

-- ---- counts

pub names_of : (files : List LocalFile) → map (λ (file : BareData). file.name) (map bare_local files) ≡ local_names files
names_of [] = refl
names_of (file ∷ files) = ap (λ (ns : List (List ℕ)). file.name ∷ ns) (names_of files)

abbrev pub one_outside : List ℕ → ℕ
one_outside name = cond (not (is_below_pre name)) 1 0

module _ (key : Key) (tables : Tables) (room : Room) (files : List FileEntry) where
  abbrev after : Option BareView → ℕ
  after old = count_by (λ name. not (is_below_pre name)) (migrated_names (map (λ (file : BareData). file.name) (bare_data_of old)) (bare_listed_by old) files)

  after_row : (row : Option View) → after (option_map bare_row row) ≡ count_by (λ name. not (is_below_pre name)) (migrated_names (local_names (row_locals row)) (row_files row) files)
  after_row None = refl
  after_row (Some view) = ap (λ (ns : List (List ℕ)). count_by (λ name. not (is_below_pre name)) (migrated_names ns view.application.files files)) (names_of view.locals)

  -- as many as the new view has
  pub counted : (plans : List LocalPlan) → ArePlans (current_row key tables) files plans → count_by (λ plan. not (is_below_pre (plan_name plan))) plans ≡ after (current_bare key (table_shape room tables))
  counted plans are =
      sym (sum_map plan_name one_outside plans)
      ∙ sum_by-IsPermutation one_outside (migrated_names (local_names (row_locals (current_row key tables))) (row_files (current_row key tables)) files) (map plan_name plans) are.names
      ∙ sym (after_row (current_row key tables)) ∙ ap after (bare_current key tables room)

  pub counted_as : (plans : List LocalPlan) → ArePlans (current_row key tables) files plans → (list : List LocalPlan) → list ≡ plans → (count : ℕ) → count ≡ count_by (λ plan. not (is_below_pre (plan_name plan))) list → count ≡ after (current_bare key (table_shape room tables))
  counted_as plans are list is count same = same ∙ ap (λ (ps : List LocalPlan). count_by (λ plan. not (is_below_pre (plan_name plan))) ps) is ∙ counted plans are

-- ---- order

-- In order of their names, and few enough.
pub record AreLocals (row : Option View) (files : List FileEntry) (plans : List LocalPlan) : Type 0 where
  pub are : ArePlans row files plans
  pub order : Rise plans
  pub few : length plans ≤ FILE_COUNT_LIMIT

abbrev pub IsInOrder : Tables → InstallPlan → List LocalPlan → Type 0
IsInOrder tables plan plans = AreLocals (current_row plan.deployment.identity.key tables) plan.application.files plans

-- names in order differ
old_apart : (files : List LocalFile) → AllPairs (λ (f g : LocalFile). text_cmp f.name g.name ≡ Less) files → AllPairs (λ (f g : LocalFile). ◌≢◌ {A = List ℕ} f.name g.name) files
old_apart files ordered =
    pairs_weaker (λ (f g : LocalFile). text_cmp f.name g.name ≡ Less) (λ (f g : LocalFile). ◌≢◌ {A = List ℕ} f.name g.name) files (λ f g less. not_equal f.name g.name less) ordered

-- each old data file comes to one new one at most
one_few : (old_files new_files : List FileEntry) (name : List ℕ) → length (moved old_files new_files name) ≤ one_outside name
one_few old_files new_files name = by (is_below_pre name) (stays old_files new_files name)
  where
    by : (below same : Bool) → length (cond below [] (cond same (name ∷ []) (aside name ∷ []))) ≤ cond (not below) 1 0
    by true same = omega arith
    by false true = omega arith
    by false false = omega arith

moved_few : (old_files new_files : List FileEntry) (old : List LocalFile) → length (flat_map (moved old_files new_files) (local_names old)) ≤ outside_locals old
moved_few old_files new_files [] = omega arith
moved_few old_files new_files (file ∷ old) =
    let one = one_few old_files new_files file.name in
    let rest = moved_few old_files new_files old in
    let both = length-append (moved old_files new_files file.name) (flat_map (moved old_files new_files) (local_names old)) in
    let count = sum_by-cons (λ (f : LocalFile). one_outside f.name) file old in
    omega (arith, one, rest, both, count)

-- of the files that a release deploys, no more are fresh than there are
fresh_few : (p : List ℕ → Bool) (files : List FileEntry) → length (filter p (map (λ (entry : FileEntry). entry.name) (deployed_files files))) ≤ locals files
fresh_few p files =
    let names = map (λ (entry : FileEntry). entry.name) (deployed_files files) in
    let passed = length-filter p names in
    let most = count_by-le-length p names in
    let same = length-map (deployed_files files) (λ (entry : FileEntry). entry.name) in
    omega (arith, passed, most, same)

module _ (key : Key) (tables : Tables) (are : AreTables tables) where
  row_apart : (row : Option View) → current_row key tables ≡ row → AllPairs (λ (f g : LocalFile). ◌≢◌ {A = List ℕ} f.name g.name) (row_locals row)
  row_apart None e = λ i j d less within. absurd (omega arith)
  row_apart (Some view) e = old_apart view.locals (all_in IsRow tables.views view are.rows (current_in key tables view e)).order

  pub row_few : (row : Option View) → current_row key tables ≡ row → outside_locals (row_locals row) ≤ LOCAL_COUNT_LIMIT
  row_few None e = omega arith
  row_few (Some view) e = (all_in IsRow tables.views view are.rows (current_in key tables view e)).few

  module _ (a : Application) (is : IsApplication a) where
    pub apart : AreApart (row_locals (current_row key tables)) a.files
    apart = record {
      old_names = row_apart (current_row key tables) refl;
      new_names = AllPairs-filter (λ (e f : FileEntry). ◌≢◌ {A = List ℕ} e.name f.name) (λ (entry : FileEntry). entry.local) a.files is.facts.files.differ;
      outside = in_all (λ (entry : FileEntry). ¬ IsBelowPre entry.name) (deployed_files a.files)
          (λ entry there. (all_in IsFile a.files entry is.facts.each (filter_in (λ (e : FileEntry). e.local) a.files entry there).1).above);
    }

    few_plans : (plans : List LocalPlan) → ArePlans (current_row key tables) a.files plans → length plans ≤ FILE_COUNT_LIMIT
    few_plans plans of =
        let row = current_row key tables in
        let carried = flat_map (moved (row_files row) a.files) (local_names (row_locals row)) in
        let fresh = filter (is_fresh (local_names (row_locals row)) (row_files row) a.files) (map (λ (entry : FileEntry). entry.name) (deployed_files a.files)) in
        let all = length_permutation (migrated_names (local_names (row_locals row)) (row_files row) a.files) (map plan_name plans) of.names in
        let both = length-append carried fresh in
        let named = length-map plans plan_name in
        let old = moved_few (row_files row) a.files (row_locals row) in
        let some = row_few row refl in
        let new = fresh_few (is_fresh (local_names (row_locals row)) (row_files row) a.files) a.files in
        let few = is.facts.files.few_local in
        omega (arith, all, both, named, old, some, new, few)

    -- the plans of an application are in order, and few enough
    pub in_order : (plans : List LocalPlan) → ArePlans (current_row key tables) a.files plans → AreLocals (current_row key tables) a.files plans
    in_order plans of = record { are = of; order = of.once apart; few = few_plans plans of }

-- ---- blocks

-- a data file takes so many blocks at most, and one below `.pre` is not copied
few_more : (b : Bool) (blocks : ℕ) → blocks ≤ cond b (2 ^ 52) 0 → blocks ≤ 2 ^ 52 * cond b 1 0
few_more true blocks few = omega (arith, few)
few_more false blocks few = omega (arith, few)

pub copied_few : (files : List LocalFile) (i : ℕ) (file : LocalFile) (sum blocks : ℕ) → i < length files → file ≡ get_or files i file → blocks ≤ cond (not (is_below_pre file.name)) (2 ^ 52) 0
    → sum + 2 ^ 52 * outside_locals (drop i files) ≤ 2 ^ 60 → sum + blocks + 2 ^ 52 * outside_locals (drop (i + 1) files) ≤ 2 ^ 60
copied_few files i file sum blocks within is few bound =
    let step = sum_by-drop_more (λ (f : LocalFile). one_outside f.name) files i file within in
    let same : one_outside (get_or files i file).name ≡ one_outside file.name = ap (λ (f : LocalFile). one_outside f.name) (sym is) in
    let more = few_more (not (is_below_pre file.name)) blocks few in
    omega (arith, step, same, more, bound)

pub copied_sum : (files : List LocalFile) (i : ℕ) (file : LocalFile) (sum blocks : ℕ) → i < length files → file ≡ get_or files i file → blocks ≡ copied_blocks_of file
    → sum + copied_in (drop i files) ≡ copied_in files → sum + blocks + copied_in (drop (i + 1) files) ≡ copied_in files
copied_sum files i file sum blocks within is are same =
    let step = sum_by-drop_more copied_blocks_of files i file within in
    let one : copied_blocks_of (get_or files i file) ≡ copied_blocks_of file = ap copied_blocks_of (sym is) in
    omega (arith, step, one, are, same)

abbrev bare_blocks : BareData → ℕ
bare_blocks file = blocks_of file.length

copied_step : (b : Bool) (sum : ℕ) (bare : BareData) (rest : List BareData) → sum ≡ sum_by bare_blocks rest → cond (not b) (bare_blocks bare) 0 + sum ≡ sum_by bare_blocks (cond (not b) (bare ∷ rest) rest)
copied_step true sum bare rest same = omega (arith, same)
copied_step false sum bare rest same = omega (arith, same, sum_by-cons bare_blocks bare rest)

pub copied_is : (files : List LocalFile) → copied_in files ≡ copied_need (map bare_local files)
copied_is [] = refl
copied_is (file ∷ files) =
    sum_by-cons copied_blocks_of file files
    ∙ copied_step (is_below_pre file.name) (copied_in files) (bare_local file) (filter (λ (f : BareData). not (is_below_pre f.name)) (map bare_local files)) (copied_is files)

copied_row : (row : Option View) → copied_in (row_locals row) ≡ copied_need (bare_data_of (option_map bare_row row))
copied_row None = refl
copied_row (Some view) = copied_is view.locals

pub copied_at : (key : Key) (tables : Tables) (room : Room) (row : Option View) → row ≡ current_row key tables → copied_in (row_locals row) ≡ copied_need (bare_data_of (current_bare key (table_shape room tables)))
copied_at key tables room row is = copied_row row ∙ ap (λ (r : Option View). copied_need (bare_data_of (option_map bare_row r))) is ∙ ap (λ (b : Option BareView). copied_need (bare_data_of b)) (bare_current key tables room)
