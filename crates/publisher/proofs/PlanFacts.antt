-- What a publish needs to know of its plan.
use Rattle.std.proofs.Common.{◌≡◌, ℕ, ◌≤◌, ◌≢◌, Bool, true, false, cond, List, [], ◌∷◌, ◌++◌, All, IfSome, Some, length, map, refl, sym, ap, subst, ◌∙◌}
use Rattle.std.specs.Prelude.{count_by, find, ◌||◌, not}
use Rattle.std.specs.Cmp.Lexicographic.{slice_cmp, nat_list_eq_equiv, texts_ties}
use Rattle.std.specs.List.{AllByRecursion, IsDistinct, list_all, list_any}
use Rattle.std.specs.List.Sorted.{IsStrictlySortedBy}
use Rattle.std.specs.Ordering.{eq_by_cmp, nat_cmp}
use Rattle.std.specs.Str.{bytes_eq}
use Rattle.std.proofs.lemmas.Bool.{and_from}
use Rattle.std.proofs.lemmas.List.{length-map}
use Rattle.std.proofs.lemmas.List.Elements.{All-nil, All-cons, All-head, All-tail}
use Rattle.std.proofs.lemmas.Map.Keys.{IsDistinct-cons, IsDistinct-head, IsDistinct-tail, IsDistinct-from_sorted}
use Rattle.std.proofs.lemmas.Slice.Eq.{bytes_eq-Decides}
use Rattle.folders.specs.declared.folder.Held.{Held}
use Rattle.folders.specs.Files.{distinct, is_named, names_of}
use Rattle.folders.proofs.PutFiles.{clash, other_named}
use Rattle.manifests.specs.Facts.{IsValue}
use Rattle.publish_plan.specs.declared.options.Mark.{Mark}
use Rattle.publish_plan.specs.declared.options.MarkKind.{MarkKind}
use Rattle.publish_plan.specs.declared.options.MarkKind.TheVariants.{Local, Group}
use Rattle.publish_plan.specs.declared.options.Options.{Options}
use Rattle.publish_plan.specs.declared.options.PublishPlan.{PublishPlan}
use Rattle.publish_plan.specs.declared.options.PlannedFile.{PlannedFile}
use Rattle.publish_plan.specs.Facts.{AreFacts, IsApart, file_of, target_of}
use Rattle.publish_plan.specs.Marks.{group_at, group_in, group_of, names_file}
use Rattle.publish_plan.specs.Places.{deployment_name, input_names, lies_below, version_folder}
use Rattle.publish_plan.specs.Plans.{is_local_file, planned, planned_files}
use Rattle.publisher.specs.declared.release.ReleaseTexts.{ReleaseTexts}
use Rattle.publisher.specs.Options.{IsKind, IsPublishable}
use Rattle.publisher.specs.Publication.{copy_in, published_files}
use Rattle.publisher.specs.Puts.{AreApart, is_apart}
use Rattle.publisher.specs.Readings.{IsSourced}
use Rattle.publisher.proofs.ReleaseFacts.{IsFitFile}
use Rattle.publisher.proofs.SecondReads.{neither, none_named}

-- what a plan over these names has
pub record IsGoodPlan (o : Options) (names : List (List ℕ)) (plan : PublishPlan) : Type 0 where
  pub few : length plan.files ≤ 16384
  pub few_local : count_by is_local_file plan.files ≤ 256
  pub differ : IsDistinct bytes_eq (map file_of plan.files)
  pub fit : All IsFitFile plan.files
  pub apart : AreApart plan.files
  pub sourced : All (IsSourced o.from) plan.files
  pub count : length plan.files ≡ length (input_names o.from names)
  pub last : plan.deployment ≡ deployment_name o
  pub written : (held : List Held) (release : ReleaseTexts) → distinct (published_files held plan release) ≡ true
  pub new : (held : List Held) (release : ReleaseTexts) (name : List ℕ) → list_any (bytes_eq name) names ≡ true → name ≢ deployment_name o → list_any (is_named name) (published_files held plan release) ≡ false

-- ---- groups

kind_fits : (kind : MarkKind) → IsKind kind → IfSome (group_in kind) (IsValue 1 240)
kind_fits Local fits = tt
kind_fits (Group group) fits = fits

group_found : (file : List ℕ) (mark : Mark) (marks : List Mark) (b : Bool) → IsKind mark.kind → IfSome (group_of marks file) (IsValue 1 240) → IfSome (group_at (cond b (Some mark) (find (names_file file) marks))) (IsValue 1 240)
group_found file mark marks true first rest = kind_fits mark.kind first
group_found file mark marks false first rest = rest

group_fits : (file : List ℕ) (marks : List Mark) → All (λ (mark : Mark). IsKind mark.kind) marks → IfSome (group_of marks file) (IsValue 1 240)
group_fits file [] all = tt
group_fits file (mark ∷ marks) all =
    group_found file mark marks (names_file file mark) (All-head (λ (m : Mark). IsKind m.kind) mark marks all) (group_fits file marks (All-tail (λ (m : Mark). IsKind m.kind) mark marks all))

abbrev HasGroup : PlannedFile → Type 0
HasGroup file = IfSome file.group (IsValue 1 240)

planned_group : (o : Options) (file : List ℕ) → IsPublishable o → HasGroup (planned o file)
unfolding planned
planned_group o file publishable = group_fits file o.marks publishable.marks

groups_fit : (o : Options) (inputs : List (List ℕ)) → IsPublishable o → All HasGroup (planned_files o inputs)
groups_fit o [] publishable = All-nil HasGroup
groups_fit o (file ∷ files) publishable = All-cons HasGroup (planned o file) (planned_files o files) (planned_group o file publishable) (groups_fit o files publishable)

-- ---- what is read and what is written

planned_sourced : (o : Options) (file : List ℕ) → IsSourced o.from (planned o file)
unfolding planned
planned_sourced o file = refl

all_sourced : (o : Options) (inputs : List (List ℕ)) → All (IsSourced o.from) (planned_files o inputs)
all_sourced o [] = All-nil (IsSourced o.from)
all_sourced o (file ∷ files) = All-cons (IsSourced o.from) (planned o file) (planned_files o files) (planned_sourced o file) (all_sourced o files)

all_apart : (folder : List ℕ) (files : List PlannedFile) → All (IsApart folder) files → list_all (is_apart folder) files ≡ true
all_apart folder [] all = refl
all_apart folder (f ∷ fs) all =
    let first = All-head (IsApart folder) f fs all in
    and_from (is_apart folder f) (list_all (is_apart folder) fs) (and_from _ _ first.target (ap not first.source)) (all_apart folder fs (All-tail (IsApart folder) f fs all))

names_written : (held : List Held) (files : List PlannedFile) (rest : List Held) → names_of (map (copy_in held) files ++ rest) ≡ map target_of files ++ names_of rest
names_written held [] rest = refl
names_written held (f ∷ fs) rest = ap (λ (ns : List (List ℕ)). f.target ∷ ns) (names_written held fs rest)

none_of : (name : List ℕ) (files : List Held) → AllByRecursion (λ other. bytes_eq name other ≡ false) (names_of files) → list_any (is_named name) files ≡ false
none_of name [] all = refl
none_of name (f ∷ fs) all = neither (is_named name f) (list_any (is_named name) fs) (nat_list_eq_equiv.symm f.name name ∙ all.0) (none_of name fs all.1)

files_distinct : (files : List Held) → IsDistinct bytes_eq (names_of files) → distinct files ≡ true
files_distinct [] differ = refl
files_distinct (f ∷ fs) differ =
    and_from (not (list_any (is_named f.name) fs)) (distinct fs) (ap not (none_of f.name fs (IsDistinct-head bytes_eq f.name (names_of fs) differ)))
    (files_distinct fs (IsDistinct-tail bytes_eq f.name (names_of fs) differ))

-- a name that stands is not in the folder
pub free_at : (folder name : List ℕ) (names : List (List ℕ)) → All (λ n. lies_below folder n ≡ false) names → list_any (bytes_eq name) names ≡ true → lies_below folder name ≡ false
free_at folder name [] free there = absurd (clash false there refl)
free_at folder name (n ∷ ns) free there = by (bytes_eq name n) refl (free_at folder name ns (All-tail (λ m. lies_below folder m ≡ false) n ns free))
  where
    by : (b : Bool) → bytes_eq name n ≡ b → (list_any (bytes_eq name) ns ≡ true → lies_below folder name ≡ false) → lies_below folder name ≡ false
    by true same rest = ap (lies_below folder) ((bytes_eq-Decides name n).0 same) ∙ All-head (λ m. lies_below folder m ≡ false) n ns free
    by false other rest = rest (sym (ap (λ (b : Bool). b || list_any (bytes_eq name) ns) other) ∙ there)

any_then : (p : Held → Bool) (xs ys : List Held) → list_any p xs ≡ false → list_any p ys ≡ false → list_any p (xs ++ ys) ≡ false
any_then p [] ys first rest = rest
any_then p (x ∷ xs) ys first rest = by (p x) refl (λ more. any_then p xs ys more rest)
  where
    by : (b : Bool) → p x ≡ b → (list_any p xs ≡ false → list_any p (xs ++ ys) ≡ false) → (p x || list_any p (xs ++ ys)) ≡ false
    by true is more = absurd (clash (p x || list_any p xs) (ap (λ (b : Bool). b || list_any p xs) is) first)
    by false is more = ap (λ (b : Bool). b || list_any p (xs ++ ys)) is ∙ more (sym (ap (λ (b : Bool). b || list_any p xs) is) ∙ first)

none_new : (o : Options) (names : List (List ℕ)) (plan : PublishPlan) (held : List Held) (release : ReleaseTexts) (name : List ℕ) → AreFacts o names plan → list_any (bytes_eq name) names ≡ true → name ≢ deployment_name o → list_any (is_named name) (published_files held plan release) ≡ false
none_new o names plan held release name facts there differs =
    let folder = version_folder o in
    let outside : lies_below folder name ≡ false = free_at folder name names facts.free there in
    let manifest : plan.manifest ≢ name = λ same. clash (lies_below folder name) (ap (lies_below folder) (sym same) ∙ facts.manifest_inside) outside in
    let deployment : plan.deployment ≢ name = λ same. differs (sym same ∙ facts.deployment) in
    any_then (is_named name) (map (copy_in held) plan.files) _ (none_named held folder name plan.files (all_apart folder plan.files facts.apart) outside)
    (neither _ _ (other_named name (record { name = plan.manifest; bytes = release.application }) manifest)
    (neither _ _ (other_named name (record { name = plan.deployment; bytes = release.deployment }) deployment) refl))

-- ---- the whole

apart_same : (x : List ℕ) (names : List (List ℕ)) → AllByRecursion (λ y. eq_by_cmp (slice_cmp nat_cmp) x y ≡ false) names → AllByRecursion (λ y. bytes_eq x y ≡ false) names
apart_same x [] all = tt
apart_same x (y ∷ ys) all = (texts_ties x y ∙ all.0, apart_same x ys all.1)

pub distinct_none : IsDistinct bytes_eq []
unfolding IsDistinct
distinct_none = tt

distinct_same : (names : List (List ℕ)) → IsDistinct (eq_by_cmp (slice_cmp nat_cmp)) names → IsDistinct bytes_eq names
distinct_same [] differ = distinct_none
distinct_same (x ∷ xs) differ =
    IsDistinct-cons bytes_eq x xs (apart_same x xs (IsDistinct-head (eq_by_cmp (slice_cmp nat_cmp)) x xs differ)) (distinct_same xs (IsDistinct-tail (eq_by_cmp (slice_cmp nat_cmp)) x xs differ))

pub strict_distinct : (names : List (List ℕ)) → IsStrictlySortedBy (slice_cmp nat_cmp) names → IsDistinct bytes_eq names
strict_distinct names ascending = distinct_same names (IsDistinct-from_sorted (slice_cmp nat_cmp) names ascending)

pub plan_good : (o : Options) (names : List (List ℕ)) (plan : PublishPlan) → IsPublishable o → IsStrictlySortedBy (slice_cmp nat_cmp) names → AreFacts o names plan → IsGoodPlan o names plan
plan_good o names plan publishable ascending facts =
    let differ = strict_distinct names ascending in
    let groups : All HasGroup plan.files = subst (All HasGroup) (sym facts.files) (groups_fit o (input_names o.from names) publishable) in
    record {
      few = facts.few;
      few_local = facts.few_local;
      differ = facts.files_differ differ;
      fit = λ k d below. record { above = (facts.listed k d below).above; short = (facts.listed k d below).short; group = groups k d below; alone = (facts.listed k d below).alone };
      apart = record { folder = version_folder o; apart = all_apart (version_folder o) plan.files facts.apart };
      sourced = subst (All (IsSourced o.from)) (sym facts.files) (all_sourced o (input_names o.from names));
      count = ap length facts.files ∙ length-map (input_names o.from names) (planned o);
      last = facts.deployment;
      written = λ held release. files_distinct (published_files held plan release) (subst (IsDistinct bytes_eq) (sym (names_written held plan.files _)) (facts.written_differ differ));
      new = λ held release name there differs. none_new o names plan held release name facts there differs;
    }
