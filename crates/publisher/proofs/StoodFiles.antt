-- Files that stand while a release is written.
use Rattle.std.proofs.Common.{◌≡◌, ℕ, ◌<◌, ◌≤◌, Bool, true, false, cond, List, [], ◌∷◌, ◌++◌, length, take, map, append_assoc, Some, IsSome, refl, sym, ap, subst, ◌∙◌, arith, length-append}
use Rattle.std.specs.Prelude.{◌||◌, find, is_some, option_map}
use Rattle.std.specs.Cmp.Lexicographic.{nat_list_eq_equiv}
use Rattle.std.specs.List.{list_any}
use Rattle.std.specs.Str.{bytes_eq}
use Rattle.std.proofs.lemmas.Grind.{common_steps}
use Rattle.std.proofs.lemmas.List.{take-append-le}
use Rattle.std.proofs.lemmas.List.Sorted.{list_any-IsPermutation}
use Rattle.folders.specs.declared.folder.Held.{Held}
use Rattle.folders.specs.Files.{IsNames, distinct, file_in, is_named, names_of}
use Rattle.folders.proofs.PutFiles.{distinct_first, distinct_rest}
use Rattle.publish_plan.specs.declared.options.Options.{Options}
use Rattle.publish_plan.specs.declared.options.PublishPlan.{PublishPlan}
use Rattle.publish_plan.specs.Places.{deployment_name}
use Rattle.publisher.specs.declared.release.ReleaseTexts.{ReleaseTexts}
use Rattle.publisher.specs.Outcome.{KeepsStanding}
use Rattle.publisher.specs.Publication.{copy_in, published_files}
use Rattle.publisher.specs.Puts.{PutsEach, PutsSome}
use Rattle.publisher.proofs.PlanFacts.{IsGoodPlan}
use Rattle.publisher.proofs.PutFiles.{kept_each, none_before}
use Rattle.publisher.proofs.SecondReads.{neither}

-- ---- files that stood

there_first : (name : List ℕ) (f : Held) (fs : List Held) (b : Bool) → is_named name f ≡ b → is_some (file_in name (f ∷ fs)) ≡ true → (is_some (file_in name fs) ≡ true → list_any (bytes_eq name) (names_of fs) ≡ true) → list_any (bytes_eq name) (names_of (f ∷ fs)) ≡ true
there_first name f fs true is some rest = ap (λ (b : Bool). b || list_any (bytes_eq name) (names_of fs)) (nat_list_eq_equiv.symm name f.name ∙ is)
there_first name f fs false is some rest =
    let passed : file_in name (f ∷ fs) ≡ file_in name fs = ap (λ (b : Bool). option_map (λ (h : Held). h.bytes) (cond b (Some f) (find (is_named name) fs))) is in
    ap (λ (b : Bool). b || list_any (bytes_eq name) (names_of fs)) (nat_list_eq_equiv.symm name f.name ∙ is) ∙ rest (sym (ap is_some passed) ∙ some)

there : (name : List ℕ) (held : List Held) → is_some (file_in name held) ≡ true → list_any (bytes_eq name) (names_of held) ≡ true
there name [] some = some
there name (f ∷ fs) some = there_first name f fs (is_named name f) refl some (there name fs)

-- a file that stands has a name of the folder
pub named_there : (name : List ℕ) (held : List Held) (names : List (List ℕ)) → IsNames held names → IsSome (file_in name held) → list_any (bytes_eq name) names ≡ true
named_there name held names are some = sym (list_any-IsPermutation (bytes_eq name) (names_of held) names are.exact) ∙ there name held some

-- it keeps its bytes
pub standing_each : (o : Options) (names : List (List ℕ)) (plan : PublishPlan) (release : ReleaseTexts) (old new : List Held) → IsGoodPlan o names plan → IsNames old names → PutsEach (published_files old plan release) old new → KeepsStanding (deployment_name o) old new
standing_each o names plan release old new good are puts name some differs =
    kept_each (published_files old plan release) old new name (good.new old release name (named_there name old names are some) differs) puts

pub standing_some : (o : Options) (names : List (List ℕ)) (plan : PublishPlan) (release : ReleaseTexts) (old new : List Held) → IsGoodPlan o names plan → IsNames old names → PutsSome (published_files old plan release) old new → KeepsStanding (deployment_name o) old new
standing_some o names plan release old new good are part name some differs =
    kept_each (take part.count (published_files old plan release)) old new name
    (none_before name part.count (published_files old plan release) (good.new old release name (named_there name old names are some) differs)) part.puts

pub standing_same : (but : List ℕ) (old new : List Held) → new ≡ old → KeepsStanding but old new
standing_same but old new same name some differs = ap (file_in name) same

-- ---- the deployment manifest

-- the last of files whose names differ has another name than those before it
last_differs : (front : List Held) (last : Held) → distinct (front ++ last ∷ []) ≡ true → list_any (is_named last.name) front ≡ false
last_differs [] last differ = refl
last_differs (f ∷ fs) last differ =
    neither (is_named last.name f) (list_any (is_named last.name) fs) (nat_list_eq_equiv.symm f.name last.name ∙ other fs (distinct_first f (fs ++ last ∷ []) differ)) (last_differs fs last (distinct_rest f (fs ++ last ∷ []) differ))
  where
    other : (gs : List Held) → list_any (is_named f.name) (gs ++ last ∷ []) ≡ false → bytes_eq last.name f.name ≡ false
    other [] none = grind (arith, common_steps)
    other (x ∷ xs) none = other xs (grind (arith, common_steps))

last_missing : (front : List Held) (last : Held) (count : ℕ) → count < length (front ++ last ∷ []) → distinct (front ++ last ∷ []) ≡ true → list_any (is_named last.name) (take count (front ++ last ∷ [])) ≡ false
last_missing front last count below differ =
    let short : count ≤ length front = omega (arith, length-append front (last ∷ [])) in
    ap (list_any (is_named last.name)) (take-append-le count front (last ∷ []) short) ∙ none_before last.name count front (last_differs front last differ)

-- where not all is put, it is as it was
pub deployment_kept : (o : Options) (names : List (List ℕ)) (plan : PublishPlan) (release : ReleaseTexts) (old new : List Held) → IsGoodPlan o names plan → PutsSome (published_files old plan release) old new → file_in (deployment_name o) new ≡ file_in (deployment_name o) old
deployment_kept o names plan release old new good part =
    let front : List Held = map (copy_in old) plan.files ++ record { name = plan.manifest; bytes = release.application } ∷ [] in
    let last : Held = record { name = plan.deployment; bytes = release.deployment } in
    let all : (front ++ last ∷ []) ≡ published_files old plan release = append_assoc (map (copy_in old) plan.files) (record { name = plan.manifest; bytes = release.application } ∷ []) (last ∷ []) in
    let below : part.count < length (front ++ last ∷ []) = subst (λ (hs : List Held). part.count < length hs) (sym all) part.below in
    let missing : list_any (is_named plan.deployment) (take part.count (front ++ last ∷ [])) ≡ false = last_missing front last part.count below (ap distinct all ∙ good.written old release) in
    let none : list_any (is_named plan.deployment) (take part.count (published_files old plan release)) ≡ false = subst (λ (hs : List Held). list_any (is_named plan.deployment) (take part.count hs) ≡ false) all missing in
    subst (λ (n : List ℕ). file_in n new ≡ file_in n old) good.last (kept_each (take part.count (published_files old plan release)) old new plan.deployment none part.puts)
