-- Names under which nothing stands while files are put one after another.
use Rattle.std.proofs.Common.{◌≡◌, ℕ, ◌<◌, true, false, List, [], ◌∷◌, ◌++◌, zero, suc, length, get_or, take, map, All, Option, Some, None, IsSome, refl, ap, ◌∙◌, arith}
use Rattle.std.specs.List.{AllByRecursion, IsDistinct, list_any}
use Rattle.std.specs.Str.{bytes_eq}
use Rattle.std.proofs.lemmas.Map.Keys.{IsDistinct-cons, IsDistinct-head, IsDistinct-tail}
use Rattle.folders.specs.declared.folder.Held.{Held}
use Rattle.folders.specs.Files.{IsNames, file_in, is_named}
use Rattle.folders.proofs.PutFiles.{clash}
use Rattle.publish_plan.specs.declared.options.Options.{Options}
use Rattle.publish_plan.specs.declared.options.PublishPlan.{PublishPlan}
use Rattle.publish_plan.specs.declared.options.PlannedFile.{PlannedFile}
use Rattle.publish_plan.specs.Facts.{AreFacts, target_of}
use Rattle.publish_plan.specs.Places.{lies_below, version_folder}
use Rattle.publisher.specs.Publication.{copy_in}
use Rattle.publisher.specs.Puts.{AreNew, IsNewPlan, PutsEach}
use Rattle.publisher.proofs.PlanFacts.{distinct_none, free_at}
use Rattle.publisher.proofs.PutFiles.{kept_each}
use Rattle.publisher.proofs.SecondReads.{neither}
use Rattle.publisher.proofs.StoodFiles.{named_there}

-- ---- files that are put before one

apart_at : (name : List ℕ) (files : List PlannedFile) (i : ℕ) (file : PlannedFile) → i < length files → file ≡ get_or files i file
    → AllByRecursion (λ other. bytes_eq name other ≡ false) (map target_of files) → bytes_eq name file.target ≡ false
apart_at name [] i file within is all = absurd (omega arith)
apart_at name (f ∷ fs) zero file within is all = ap (λ (p : PlannedFile). bytes_eq name p.target) is ∙ all.0
apart_at name (f ∷ fs) (suc i) file within is all = apart_at name fs i file (omega arith) is all.1

-- none of them has its name
none_has_it : (old : List Held) (files : List PlannedFile) (i : ℕ) (file : PlannedFile) → i < length files → file ≡ get_or files i file
    → IsDistinct bytes_eq (map target_of files) → list_any (is_named file.target) (take i (map (copy_in old) files)) ≡ false
none_has_it old [] i file within is differ = absurd (omega arith)
none_has_it old (f ∷ fs) zero file within is differ = refl
none_has_it old (f ∷ fs) (suc i) file within is differ =
    neither (is_named file.target (copy_in old f)) (list_any (is_named file.target) (take i (map (copy_in old) fs)))
    (apart_at f.target fs i file (omega arith) is (IsDistinct-head bytes_eq f.target (map target_of fs) differ))
    (none_has_it old fs i file (omega arith) is (IsDistinct-tail bytes_eq f.target (map target_of fs) differ))

-- a file that is still to be put does not stand
pub still_new : (old mid : List Held) (files : List PlannedFile) (i : ℕ) (file : PlannedFile) → i < length files → file ≡ get_or files i file
    → AreNew files old → PutsEach (take i (map (copy_in old) files)) old mid → file_in file.target mid ≡ None
still_new old mid files i file within is new puts =
    kept_each (take i (map (copy_in old) files)) old mid file.target (none_has_it old files i file within is new.differ) puts
    ∙ ap (λ (p : PlannedFile). file_in p.target old) is ∙ new.free i file within

-- ---- the application manifest

last_apart : (name : List ℕ) (files : List PlannedFile) (last : List ℕ) (rest : List (List ℕ)) → AllByRecursion (λ other. bytes_eq name other ≡ false) (map target_of files ++ last ∷ rest) → bytes_eq name last ≡ false
last_apart name [] last rest all = all.0
last_apart name (f ∷ fs) last rest all = last_apart name fs last rest all.1

none_has_last : (old : List Held) (files : List PlannedFile) (last : List ℕ) (rest : List (List ℕ)) → IsDistinct bytes_eq (map target_of files ++ last ∷ rest) → list_any (is_named last) (map (copy_in old) files) ≡ false
none_has_last old [] last rest differ = refl
none_has_last old (f ∷ fs) last rest differ =
    neither (is_named last (copy_in old f)) (list_any (is_named last) (map (copy_in old) fs))
    (last_apart f.target fs last rest (IsDistinct-head bytes_eq f.target (map target_of fs ++ last ∷ rest) differ))
    (none_has_last old fs last rest (IsDistinct-tail bytes_eq f.target (map target_of fs ++ last ∷ rest) differ))

-- it does not stand once the files are put
pub manifest_new : (plan : PublishPlan) (old mid : List Held) → IsNewPlan plan old → PutsEach (map (copy_in old) plan.files) old mid → file_in plan.manifest mid ≡ None
manifest_new plan old mid new puts =
    kept_each (map (copy_in old) plan.files) old mid plan.manifest (none_has_last old plan.files plan.manifest (plan.deployment ∷ []) new.differ) puts ∙ new.manifest

front_apart : (name : List ℕ) (files : List PlannedFile) (rest : List (List ℕ)) → AllByRecursion (λ other. bytes_eq name other ≡ false) (map target_of files ++ rest) → AllByRecursion (λ other. bytes_eq name other ≡ false) (map target_of files)
front_apart name [] rest all = tt
front_apart name (f ∷ fs) rest all = (all.0, front_apart name fs rest all.1)

front_distinct : (files : List PlannedFile) (rest : List (List ℕ)) → IsDistinct bytes_eq (map target_of files ++ rest) → IsDistinct bytes_eq (map target_of files)
front_distinct [] rest differ = distinct_none
front_distinct (f ∷ fs) rest differ =
    IsDistinct-cons bytes_eq f.target (map target_of fs) (front_apart f.target fs rest (IsDistinct-head bytes_eq f.target (map target_of fs ++ rest) differ))
    (front_distinct fs rest (IsDistinct-tail bytes_eq f.target (map target_of fs ++ rest) differ))

pub files_new : (plan : PublishPlan) (held : List Held) → IsNewPlan plan held → AreNew plan.files held
files_new plan held new = record { free = new.free; differ = front_distinct plan.files (plan.manifest ∷ plan.deployment ∷ []) new.differ }

-- ---- the folder of the version

none_or_some : (found : Option (List ℕ)) → (IsSome found → ⊥) → found ≡ None
none_or_some None never = refl
none_or_some (Some bytes) never = absurd (never refl)

-- nothing stands under a name in it
absent : (folder name : List ℕ) (held : List Held) (names : List (List ℕ)) → IsNames held names → All (λ n. lies_below folder n ≡ false) names → lies_below folder name ≡ true → file_in name held ≡ None
absent folder name held names are free below =
    none_or_some (file_in name held) (λ some. clash (lies_below folder name) below (free_at folder name names free (named_there name held names are some)))

pub plan_new : (o : Options) (names : List (List ℕ)) (plan : PublishPlan) (held : List Held) → AreFacts o names plan → IsDistinct bytes_eq names → IsNames held names → IsNewPlan plan held
plan_new o names plan held facts differ are = record {
  free = λ k d within. absent (version_folder o) (get_or plan.files k d).target held names are facts.free (facts.apart k d within).target;
  manifest = absent (version_folder o) plan.manifest held names are facts.free facts.manifest_inside;
  differ = facts.written_differ differ;
}
