use Rattle.std.proofs.Common.{◌≡◌, ◌∙◌, All, List, [], None, map, subst}
use Rattle.std.specs.List.Sorted.{IsPermutation}
use Rattle.manifests.specs.declared.facts.FileEntry.{FileEntry}
use Rattle.machine.specs.Migrated.{migrated_names}
use Rattle.store_state.specs.declared.view.LocalFile.{LocalFile}
use Rattle.data_migration.specs.declared.plan.LocalPlan.{LocalPlan}
use Rattle.data_migration.specs.Migration.{AreApart, HasSource, IsMigration}
use Rattle.data_migration.specs.Plans.{local_names, plan_name, planned}
use Rattle.install_plan.specs.Carried.{ArePlans, Rise}
use Rattle.install_plan.proofs.local_plans.first_plans.Goals as goal

first_at : (files : List FileEntry) (old : List LocalFile) (old_files : List FileEntry) → old ≡ [] → old_files ≡ [] → (plans : List LocalPlan) → IsMigration old old_files files plans
    → IsPermutation (migrated_names (local_names old) old_files files) (map plan_name plans) → (AreApart old files → Rise plans) → All (HasSource old files) plans → IsPermutation (planned old old_files files) plans → ArePlans None files plans
first_at files old old_files none empty plans migrated names once sources plan = record {
  migrated = subst (λ (o : List LocalFile). IsMigration o [] files plans) none (subst (λ (fs : List FileEntry). IsMigration old fs files plans) empty migrated);
  names = subst (λ (o : List LocalFile). IsPermutation (migrated_names (local_names o) [] files) (map plan_name plans)) none
      (subst (λ (fs : List FileEntry). IsPermutation (migrated_names (local_names old) fs files) (map plan_name plans)) empty names);
  once = subst (λ (o : List LocalFile). AreApart o files → Rise plans) none once;
  sources = subst (λ (o : List LocalFile). All (HasSource o files) plans) none sources;
  planned = subst (λ (o : List LocalFile). IsPermutation (planned o [] files) plans) none (subst (λ (fs : List FileEntry). IsPermutation (planned old fs files) plans) empty plan);
}

pub returns-in-Ok-clause-plans : goal.returns-in-Ok-clause-plans
returns-in-Ok-clause-plans c =
    first_at c.args.files.now c.from_vec-old.result c.from_vec-old_files.result (c.from_vec-old.ensures ∙ c.new.ensures.items) (c.from_vec-old_files.ensures ∙ c.new-2.ensures.items)
    c.in-Ok.plans c.in-Ok.ensures.migrated c.in-Ok.ensures.names c.in-Ok.ensures.once c.in-Ok.ensures.sources c.in-Ok.ensures.planned
