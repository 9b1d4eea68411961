-- What is known of the folder while the files are read again and put, one after another.
use Rattle.std.proofs.Common.{◌≡◌, ℕ, ◌+◌, ◌<◌, ◌≤◌, Bool, true, false, List, [], ◌∷◌, ◌++◌, length, get_or, take, map, append_assoc, refl, sym, ap, subst, ◌∙◌, arith}
use Rattle.std.specs.Prelude.{◌&&◌, ◌||◌, not, unwrap_or}
use Rattle.std.specs.List.{list_all, list_any}
use Rattle.std.proofs.lemmas.List.{take_more, get_or-map, length-map, length-append, take-append-le, take_all}
use Rattle.std.proofs.lemmas.List.Folds.{list_all_at}
use Rattle.folders.specs.declared.folder.Held.{Held}
use Rattle.folders.specs.Files.{distinct, is_named, Puts}
use Rattle.folders.proofs.PutFiles.{clash, not_true}
use Rattle.publish_plan.specs.declared.options.PublishPlan.{PublishPlan}
use Rattle.publish_plan.specs.declared.options.PlannedFile.{PlannedFile}
use Rattle.publish_plan.specs.Places.{lies_below}
use Rattle.publisher.specs.declared.release.ReleaseTexts.{ReleaseTexts}
use Rattle.publisher.specs.Publication.{bytes_in, copy_in, published_files}
use Rattle.publisher.specs.Puts.{PutsEach, PutsInput, PutsSome, is_apart}
use Rattle.publisher.proofs.PutFiles.{all_put, distinct_front, kept_each, named_is, none_before, put_more}

pub left_so : (a b : Bool) → (a && b) ≡ true → a ≡ true
left_so true b is = refl
left_so false b is = is

pub right_so : (a b : Bool) → (a && b) ≡ true → b ≡ true
right_so true b is = is
right_so false b is = cc

pub not_so : (a : Bool) → not a ≡ true → a ≡ false
not_so true is = cc
not_so false is = refl

pub neither : (a b : Bool) → a ≡ false → b ≡ false → (a || b) ≡ false
neither a b first second = grind arith

-- what passes at each place
pub all_at : (p : PlannedFile → Bool) (files : List PlannedFile) (i : ℕ) (file : PlannedFile) → i < length files → file ≡ get_or files i file → list_all p files ≡ true → p file ≡ true
all_at p files i file within is all = by (p file) refl
  where
    by : (b : Bool) → p file ≡ b → p file ≡ true
    by true e = e
    by false e = absurd (clash (list_all p files) all (list_all_at p files i file within (ap p (sym is) ∙ e)))

-- no file is put under a name that is not below the folder
pub none_named : (old : List Held) (folder source : List ℕ) (files : List PlannedFile) → list_all (is_apart folder) files ≡ true → lies_below folder source ≡ false → list_any (is_named source) (map (copy_in old) files) ≡ false
none_named old folder source [] apart outside = refl
none_named old folder source (f ∷ files) apart outside =
    let first : is_apart folder f ≡ true = left_so (is_apart folder f) (list_all (is_apart folder) files) apart in
    let below : lies_below folder f.target ≡ true = left_so (lies_below folder f.target) (not (lies_below folder f.source)) first in
    let other : is_named source (copy_in old f) ≡ false = not_true (is_named source (copy_in old f)) (λ same. clash (lies_below folder source) (ap (lies_below folder) (sym (named_is source (copy_in old f) same)) ∙ below) outside) in
    neither (is_named source (copy_in old f)) (list_any (is_named source) (map (copy_in old) files)) other
    (none_named old folder source files (right_so (is_apart folder f) (list_all (is_apart folder) files) apart) outside)

-- a file that is still to be read again is as it was
pub bytes_kept : (old mid : List Held) (folder : List ℕ) (files : List PlannedFile) (i : ℕ) (file : PlannedFile) → i < length files → file ≡ get_or files i file → list_all (is_apart folder) files ≡ true
    → PutsEach (take i (map (copy_in old) files)) old mid → bytes_in mid file ≡ bytes_in old file
bytes_kept old mid folder files i file within is apart puts =
    let here : is_apart folder file ≡ true = all_at (is_apart folder) files i file within is apart in
    let outside : lies_below folder file.source ≡ false = not_so (lies_below folder file.source) (right_so (lies_below folder file.target) (not (lies_below folder file.source)) here) in
    let none : list_any (is_named file.source) (take i (map (copy_in old) files)) ≡ false = none_before file.source i (map (copy_in old) files) (none_named old folder file.source files apart outside) in
    ap (λ o. unwrap_or o []) (kept_each (take i (map (copy_in old) files)) old mid file.source none puts)

-- one more is put
pub copy_more : (old mid new : List Held) (files : List PlannedFile) (i : ℕ) (file : PlannedFile) → i < length files → file ≡ get_or files i file → PutsEach (take i (map (copy_in old) files)) old mid
    → bytes_in mid file ≡ bytes_in old file → Puts mid new file.target (bytes_in mid file) → PutsEach (take (i + 1) (map (copy_in old) files)) old new
copy_more old mid new files i file within is puts same put =
    let copies = map (copy_in old) files in
    let long : i < length copies = simp (length-map) within in
    let here : get_or copies i (copy_in old file) ≡ copy_in old file = get_or-map (copy_in old) files i file (copy_in old file) within ∙ ap (copy_in old) (sym is) in
    let next : take (i + 1) copies ≡ take i copies ++ copy_in old file ∷ [] = take_more copies i (copy_in old file) long ∙ ap (λ (h : Held). take i copies ++ h ∷ []) here in
    subst (λ (hs : List Held). PutsEach hs old new) (sym next)
    (put_more (take i copies) old mid new (copy_in old file) puts (subst (Puts mid new file.target) same put))

-- all are put
pub copies_all : (old new : List Held) (files : List PlannedFile) (i : ℕ) → length files ≤ i → PutsEach (take i (map (copy_in old) files)) old new → PutsEach (map (copy_in old) files) old new
copies_all old new files i all puts =
    let long : length (map (copy_in old) files) ≤ i = simp (length-map) all in
    subst (λ (hs : List Held). PutsEach hs old new) (take_all i (map (copy_in old) files) long) puts

pub copies_some : (old new : List Held) (files : List PlannedFile) (i : ℕ) → i < length files → PutsEach (take i (map (copy_in old) files)) old new → PutsSome (map (copy_in old) files) old new
copies_some old new files i within puts = record { count = i; below = simp (length-map) within; puts = puts }

-- ---- the whole release

abbrev manifest_of : PublishPlan → ReleaseTexts → Held
manifest_of plan release = record { name = plan.manifest; bytes = release.application }

abbrev deployment_of : PublishPlan → ReleaseTexts → Held
deployment_of plan release = record { name = plan.deployment; bytes = release.deployment }

-- a first part of a first part
some_before : (front back old new : List Held) → PutsSome front old new → PutsSome (front ++ back) old new
some_before front back old new some =
    let short : some.count ≤ length front = let b = some.below in omega arith in
    let same : take some.count (front ++ back) ≡ take some.count front = take-append-le some.count front back short in
    record { count = some.count; below = let b = some.below in simp length-append (omega arith); puts = subst (λ (hs : List Held). PutsEach hs old new) (sym same) some.puts }

-- the whole of a first part
whole_before : (front : List Held) (next : Held) (back old new : List Held) → PutsEach front old new → PutsSome (front ++ next ∷ back) old new
whole_before front next back old new puts =
    let short : length front ≤ length front = omega arith in
    let same : take (length front) (front ++ next ∷ back) ≡ front = take-append-le (length front) front (next ∷ back) short ∙ take_all (length front) front short in
    record { count = length front; below = simp length-append (omega arith); puts = subst (λ (hs : List Held). PutsEach hs old new) (sym same) puts }

-- a part of the input files was put
pub part_of_files : (old new : List Held) (plan : PublishPlan) (release : ReleaseTexts) → PutsSome (map (copy_in old) plan.files) old new → PutsSome (published_files old plan release) old new
part_of_files old new plan release some = some_before (map (copy_in old) plan.files) (manifest_of plan release ∷ deployment_of plan release ∷ []) old new some

-- of files whose names differ, a part of those before the last two
before_two : (front : List Held) (one other : Held) (old new : List Held) → distinct (front ++ one ∷ other ∷ []) ≡ true → PutsSome front old new → PutsInput (front ++ one ∷ other ∷ []) old new
before_two front one other old new differ some =
    let short : some.count ≤ length front = let b = some.below in omega arith in
    let same : take some.count (front ++ one ∷ other ∷ []) ≡ take some.count front = take-append-le some.count front (one ∷ other ∷ []) short in
    let puts : PutsEach (take some.count (front ++ one ∷ other ∷ [])) old new = subst (λ (hs : List Held). PutsEach hs old new) (sym same) some.puts in
    record {
      count = some.count;
      below = let b = some.below in simp length-append (omega arith);
      puts = all_put (take some.count (front ++ one ∷ other ∷ [])) old new (distinct_front some.count (front ++ one ∷ other ∷ []) differ) puts;
    }

-- a part of the input files was put, and no manifest
pub input_alone : (old new : List Held) (plan : PublishPlan) (release : ReleaseTexts) → distinct (published_files old plan release) ≡ true → PutsSome (map (copy_in old) plan.files) old new → PutsInput (published_files old plan release) old new
input_alone old new plan release differ some = before_two (map (copy_in old) plan.files) (manifest_of plan release) (deployment_of plan release) old new differ some

-- the input files were put, and no manifest
pub part_without_manifests : (old new : List Held) (plan : PublishPlan) (release : ReleaseTexts) → PutsEach (map (copy_in old) plan.files) old new → PutsSome (published_files old plan release) old new
part_without_manifests old new plan release puts = whole_before (map (copy_in old) plan.files) (manifest_of plan release) (deployment_of plan release ∷ []) old new puts

-- the application manifest was put too, and not the deployment manifest
pub part_without_deployment : (old mid new : List Held) (plan : PublishPlan) (release : ReleaseTexts) → PutsEach (map (copy_in old) plan.files) old mid → Puts mid new plan.manifest release.application → PutsSome (published_files old plan release) old new
part_without_deployment old mid new plan release puts put =
    let files = map (copy_in old) plan.files in
    subst (λ (hs : List Held). PutsSome hs old new) (append_assoc files (manifest_of plan release ∷ []) (deployment_of plan release ∷ []))
    (whole_before (files ++ manifest_of plan release ∷ []) (deployment_of plan release) [] old new (put_more files old mid new (manifest_of plan release) puts put))

-- all were put
pub all_of_release : (old mid later new : List Held) (plan : PublishPlan) (release : ReleaseTexts) → PutsEach (map (copy_in old) plan.files) old mid → Puts mid later plan.manifest release.application → Puts later new plan.deployment release.deployment
    → PutsEach (published_files old plan release) old new
all_of_release old mid later new plan release puts put last =
    let files = map (copy_in old) plan.files in
    subst (λ (hs : List Held). PutsEach hs old new) (append_assoc files (manifest_of plan release ∷ []) (deployment_of plan release ∷ []))
    (put_more (files ++ manifest_of plan release ∷ []) old later new (deployment_of plan release) (put_more files old mid later (manifest_of plan release) puts put) last)
