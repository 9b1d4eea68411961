-- A publish of which only the writing is left.
use Rattle.std.proofs.Common.{◌≡◌, ℕ, List, map, None, Ok, sym, ap, subst, ◌∙◌}
use Rattle.std.specs.Cmp.Lexicographic.{slice_cmp}
use Rattle.std.specs.List.Sorted.{IsStrictlySortedBy}
use Rattle.std.specs.Ordering.{nat_cmp}
use Rattle.folders.specs.declared.folder.Held.{Held}
use Rattle.folders.specs.Files.{IsNames, file_in}
use Rattle.manifests.specs.declared.facts.FileEntry.{FileEntry}
use Rattle.publish_plan.specs.declared.options.Options.{Options}
use Rattle.publish_plan.specs.declared.options.PublishPlan.{PublishPlan}
use Rattle.publish_plan.specs.declared.options.PlannedFile.{PlannedFile}
use Rattle.publish_plan.specs.Early.{early_of}
use Rattle.publish_plan.specs.Places.{deployment_name}
use Rattle.publish_plan.specs.Plans.{plan_of}
use Rattle.publish_plan.proofs.PlanFacts.{plan_facts}
use Rattle.publisher.specs.declared.release.ReleaseTexts.{ReleaseTexts}
use Rattle.publisher.specs.Options.{IsPublishable}
use Rattle.publisher.specs.Outcome.{KeepsStanding, Leaves, LeavesInput, Publishes}
use Rattle.publisher.specs.Publication.{copy_in, entry_in, manifests_of, publish_of, published_files, read_entries}
use Rattle.publisher.specs.Puts.{IsNewPlan, PutsEach, PutsSome}
use Rattle.publisher.proofs.EntryReads.{entries_are}
use Rattle.publisher.proofs.NewNames.{plan_new}
use Rattle.publisher.proofs.PlanFacts.{IsGoodPlan, plan_good, strict_distinct}
use Rattle.publisher.proofs.PublishSteps.{all_written, input_left, part_left, all_published}
use Rattle.publisher.proofs.SecondReads.{input_alone}
use Rattle.publisher.proofs.StoodFiles.{deployment_kept, standing_each, standing_some}

-- the plan of options that can be published
pub good : (o : Options) (names : List (List ℕ)) (plan : PublishPlan) → IsPublishable o → early_of o ≡ None → IsStrictlySortedBy (slice_cmp nat_cmp) names → plan_of o names ≡ Ok plan
    → IsGoodPlan o names plan
good o names plan options fit ascending is = plan_good o names plan options ascending (plan_facts o names fit plan is)

-- nothing stands under the names that it writes
pub new : (o : Options) (names : List (List ℕ)) (plan : PublishPlan) (old held : List Held) → early_of o ≡ None → IsStrictlySortedBy (slice_cmp nat_cmp) names → plan_of o names ≡ Ok plan → IsNames old names → held ≡ old
    → IsNewPlan plan held
new o names plan old held fit ascending is are kept =
    subst (IsNewPlan plan) (sym kept) (plan_new o names plan old (plan_facts o names fit plan is) (strict_distinct names ascending) are)

-- a plan, what was read of its files, and the release that was made of that
pub record IsKnown (o : Options) (names : List (List ℕ)) (old : List Held) (plan : PublishPlan) (entries : List FileEntry) (release : ReleaseTexts) : Type 0 where
  pub plan_is_good : IsGoodPlan o names plan
  pub read : read_entries old plan.files ≡ Ok entries
  pub written : publish_of o names old ≡ Ok (published_files old plan release)

pub known : (o : Options) (names : List (List ℕ)) (old : List Held) (plan : PublishPlan) (files : List PlannedFile) (entries : List FileEntry) (release : ReleaseTexts)
    → IsPublishable o → early_of o ≡ None → IsStrictlySortedBy (slice_cmp nat_cmp) names → plan_of o names ≡ Ok plan → files ≡ plan.files
    → read_entries old files ≡ Ok entries → manifests_of o entries ≡ Ok release → IsKnown o names old plan entries release
known o names old plan files entries release options fit ascending is same read made =
    let read_all : read_entries old plan.files ≡ Ok entries = subst (λ (fs : List PlannedFile). read_entries old fs ≡ Ok entries) same read in
    record {
      plan_is_good = good o names plan options fit ascending is;
      read = read_all;
      written = all_written o names old plan entries release fit is read_all made;
    }

module _ (o : Options) (names : List (List ℕ)) (old mid new : List Held) (plan : PublishPlan) (entries : List FileEntry) (release : ReleaseTexts) (k : IsKnown o names old plan entries release) (kept : mid ≡ old) where
  some_put : PutsSome (published_files mid plan release) mid new → PutsSome (published_files old plan release) old new
  some_put = subst (λ (h : List Held). PutsSome (published_files h plan release) h new) kept

  each_put : PutsEach (published_files mid plan release) mid new → PutsEach (published_files old plan release) old new
  each_put = subst (λ (h : List Held). PutsEach (published_files h plan release) h new) kept

  -- the entries of the release are those of the files
  pub still_entries : release.entries ≡ entries → release.entries ≡ map (entry_in mid) plan.files
  still_entries same = same ∙ entries_are old plan.files entries k.read ∙ ap (λ (h : List Held). map (entry_in h) plan.files) (sym kept)

  pub left : PutsSome (published_files mid plan release) mid new → Leaves (publish_of o names old) old new
  left some = part_left (publish_of o names old) (published_files old plan release) old new k.written (k.plan_is_good.written old release) (some_put some)

  pub reading : PutsSome (map (copy_in mid) plan.files) mid new → LeavesInput (publish_of o names old) old new
  reading some =
      input_left (publish_of o names old) (published_files old plan release) old new k.written
      (input_alone old new plan release (k.plan_is_good.written old release) (subst (λ (h : List Held). PutsSome (map (copy_in h) plan.files) h new) kept some))

  pub unpublished : PutsSome (published_files mid plan release) mid new → file_in (deployment_name o) new ≡ file_in (deployment_name o) old
  unpublished some = deployment_kept o names plan release old new k.plan_is_good (some_put some)

  pub still_standing : IsNames old names → PutsSome (published_files mid plan release) mid new → KeepsStanding (deployment_name o) old new
  still_standing are some = standing_some o names plan release old new k.plan_is_good are (some_put some)

  pub publishes : PutsEach (published_files mid plan release) mid new → Publishes (publish_of o names old) old new
  publishes each = all_published (publish_of o names old) (published_files old plan release) old new k.written (k.plan_is_good.written old release) (each_put each)

  pub standing : IsNames old names → PutsEach (published_files mid plan release) mid new → KeepsStanding (deployment_name o) old new
  standing are each = standing_each o names plan release old new k.plan_is_good are (each_put each)
