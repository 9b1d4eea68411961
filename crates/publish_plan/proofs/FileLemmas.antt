-- A file that is published, as it will be written.
use Rattle.std.proofs.Common.{◌≡◌, ◌≢◌, ℕ, ◌+◌, ◌<◌, ◌≤◌, Bool, true, false, cond, not, ◌==◌, ◌&&◌, ◌||◌, nat_lt, nat_le, List, [], ◌∷◌, ◌++◌, length, Option, Some, None, Result, Ok, Err, refl, sym, ap, subst, ◌∙◌, arith, if◌then◌else◌}
use Rattle.std.specs.Str.{bytes_eq}
use Rattle.std.proofs.lemmas.Bool.{or_parts, cond-true, cond-false, ltb-false}
use Rattle.small_types.specs.Name.{IsName}
use Rattle.manifests.specs.Applications.{is_below_pre}
use Rattle.publish_plan.specs.declared.fault.PlanFault.{PlanFault}
use Rattle.publish_plan.specs.declared.fault.PlanFault.TheVariants.{BadInput}
use Rattle.publish_plan.specs.declared.options.Options.{Options}
use Rattle.publish_plan.specs.declared.options.PlannedFile.{PlannedFile}
use Rattle.publish_plan.specs.declared.marked.Seen.{Seen}
use Rattle.publish_plan.specs.Marks.{is_data, group_of}
use Rattle.publish_plan.specs.Outcome.{Read}
use Rattle.publish_plan.specs.Paths.{IsPath}
use Rattle.publish_plan.specs.Places.{within, version_folder, target_name, manifest_name, deploy_end}
use Rattle.publish_plan.specs.Plans.{is_bad_input, fitting, planned}
use Rattle.publish_plan.specs.Seen.{seen_of}
use Rattle.publish_plan.specs.Written.{is_unfit}
use Rattle.publish_plan.proofs.PathLemmas.{path_is_name}
use Rattle.publish_plan.proofs.PlaceLemmas.{target_path, within_some}

module _ (o : Options) (file : List ℕ) where
  pub target_is : (folder text : List ℕ) → folder ≡ version_folder o → text ≡ within folder (file ++ deploy_end o.mapped) → text ≡ target_name o file
  unfolding target_name
  target_is folder text at_folder is = is ∙ ap (λ (f : List ℕ). within f (file ++ deploy_end o.mapped)) at_folder

  pub bad_is : (manifest target : List ℕ) (is_local : Bool) → manifest ≡ manifest_name o → target ≡ target_name o file → is_local ≡ is_data o.marks file → is_unfit manifest is_local file target ≡ is_bad_input o file
  unfolding is_bad_input
  bad_is manifest target is_local at_manifest at_target known = rw (at_manifest, at_target, known) refl

  choice : Bool → Read PlannedFile
  choice b = if b then Err (BadInput file) else Ok (planned o file)

  pub fit_refused : is_bad_input o file ≡ true → fitting o file ≡ Err (BadInput file)
  fit_refused bad = cond-true (is_bad_input o file) _ _ bad

  pub fit_planned : (p : PlannedFile) → is_bad_input o file ≡ false → planned o file ≡ p → fitting o file ≡ Ok p
  fit_planned p fit is = cond-false (is_bad_input o file) _ _ fit ∙ ap (λ (q : PlannedFile). Ok q) is

  pub record IsFit : Type 0 where
    pub not_pre : is_below_pre file ≡ false
    pub target_short : length (target_name o file) ≤ 240
    pub data_short : (is_data o.marks file && nat_lt 235 (length file)) ≡ false
    pub no_manifest : bytes_eq (target_name o file) (manifest_name o) ≡ false

  pub fit_has : is_bad_input o file ≡ false → IsFit
  unfolding is_bad_input
  fit_has fit =
      let long = nat_lt 240 (length (target_name o file)) in
      let long_data = is_data o.marks file && nat_lt 235 (length file) in
      let outer = or_parts (is_below_pre file || (long || long_data)) (bytes_eq (target_name o file) (manifest_name o)) fit in
      let inner = or_parts (is_below_pre file) (long || long_data) outer.0 in
      let lengths = or_parts long long_data inner.1 in
      record { not_pre = inner.0; target_short = ltb-false 240 (length (target_name o file)) lengths.0; data_short = lengths.1; no_manifest = outer.1 }

  target_some : 0 < length (target_name o file)
  unfolding target_name
  target_some = within_some (version_folder o) (file ++ deploy_end o.mapped)

  -- the written name of a file that can be written is a name
  pub target_named : IsPath (version_folder o) → IsPath file → is_bad_input o file ≡ false → IsName (target_name o file)
  target_named folder path fit = path_is_name (target_name o file) (target_path o file folder path) target_some (fit_has fit).target_short

  -- what is written of it
  pub planned_is : (source target : List ℕ) (group : Option (List ℕ)) (is_local : Bool) → source ≡ within o.from file → target ≡ target_name o file → group ≡ group_of o.marks file → is_local ≡ is_data o.marks file
      → planned o file ≡ record { source = source; file = file; target = target; group = group; local = is_local }
  unfolding planned
  planned_is source target group is_local at_source at_target at_group known = rw (at_source, at_target, at_group, known) refl

module _ (o : Options) (file : List ℕ) (p : PlannedFile) where
  abbrev outcome : Bool → Read PlannedFile
  outcome b = if b then Err (BadInput file) else Ok (planned o file)

  fitted_by : (b : Bool) → outcome b ≡ Ok p → (b ≡ false) × (planned o file ≡ p)
  fitted_by true is = absurd cc
  fitted_by false is = (refl, cc)

  pub fitted : fitting o file ≡ Ok p → (is_bad_input o file ≡ false) × (planned o file ≡ p)
  fitted is = fitted_by (is_bad_input o file) is
