use Rattle.std.proofs.Common.{◌≡◌, string_bytes, sym, ap, subst, ◌∙◌, arith}
use Rattle.small_types.specs.Name.{IsName}
use Rattle.publish_plan.specs.Places.{manifest_name, deployment_name}
use Rattle.publish_plan.specs.Plans.{few}
use Rattle.publish_plan.proofs.Chains.{handed_on}
use Rattle.publish_plan.proofs.EarlyLemmas.{options_fit}
use Rattle.publish_plan.proofs.PathLemmas.{path_is_name}
use Rattle.publish_plan.proofs.PlaceLemmas.{manifest_path, deployment_path, manifest_some, deployment_some, deployment_short}
use Rattle.publish_plan.proofs.PlanCourse.{standing_refused, input_refused, files_refused, count_refused, entry_refused, marks_refused, plan_made}
use Rattle.publish_plan.proofs.plans.plan.Goals as goal

pub returns-in_err-check_standing : goal.returns-in_err-check_standing
returns-in_err-check_standing c =
    handed_on _ c.in_err-check_standing.field-0.0 _ c.from_residual-in_err-check_standing.ensures
    (standing_refused c.args.options.now c.args.names.now (string_bytes c.in_ok-written.written.front) c.as_str.result.now c.in_ok-written.ensures.front (c.as_str.ensures.value ∙ c.in_ok-written.ensures.folder) c.in_err-check_standing.field-0.0 c.in_err-check_standing.ensures)

pub returns-in_err-check_input : goal.returns-in_err-check_input
returns-in_err-check_input c =
    handed_on _ c.in_err-check_input.field-0.0 _ c.from_residual-in_err-check_input.ensures
    (input_refused c.args.options.now c.args.names.now (string_bytes c.in_ok-written.written.front) c.as_str.result.now c.in_ok-written.ensures.front (c.as_str.ensures.value ∙ c.in_ok-written.ensures.folder)
    c.in_ok-check_standing.ensures c.as_bytes-front.result.now (c.as_bytes-front.ensures.value ∙ c.in_ok-written.ensures.front) c.in_err-check_input.field-0.0 c.in_err-check_input.ensures)

pub returns-in_err-files : goal.returns-in_err-files
returns-in_err-files c =
    handed_on _ c.in_err-files.field-0.0 _ c.from_residual-in_err-files.ensures
    (files_refused c.args.options.now c.args.names.now (string_bytes c.in_ok-written.written.front) c.as_str.result.now c.in_ok-written.ensures.front (c.as_str.ensures.value ∙ c.in_ok-written.ensures.folder)
    c.in_ok-check_standing.ensures c.as_bytes-front.result.now (c.as_bytes-front.ensures.value ∙ c.in_ok-written.ensures.front) c.in_ok-check_input.ensures c.in_err-files.field-0.0 c.in_err-files.ensures)

pub returns-in_err-check_count : goal.returns-in_err-check_count
returns-in_err-check_count c =
    handed_on _ c.in_err-check_count.field-0.0 _ c.from_residual-in_err-check_count.ensures
    (count_refused c.args.options.now c.args.names.now (string_bytes c.in_ok-written.written.front) c.as_str.result.now c.in_ok-written.ensures.front (c.as_str.ensures.value ∙ c.in_ok-written.ensures.folder)
    c.in_ok-check_standing.ensures c.as_bytes-front.result.now (c.as_bytes-front.ensures.value ∙ c.in_ok-written.ensures.front) c.in_ok-check_input.ensures
    c.deref.result.now c.in_ok-files.ensures.0 (c.deref.ensures.value ∙ c.in_ok-files.ensures.1) c.in_err-check_count.field-0.0 c.in_err-check_count.ensures)

pub returns-in_err-check_entry : goal.returns-in_err-check_entry
returns-in_err-check_entry c =
    handed_on _ c.in_err-check_entry.field-0.0 _ c.from_residual-in_err-check_entry.ensures
    (entry_refused c.args.options.now c.args.names.now (string_bytes c.in_ok-written.written.front) c.as_str.result.now c.in_ok-written.ensures.front (c.as_str.ensures.value ∙ c.in_ok-written.ensures.folder)
    c.in_ok-check_standing.ensures c.as_bytes-front.result.now (c.as_bytes-front.ensures.value ∙ c.in_ok-written.ensures.front) c.in_ok-check_input.ensures
    c.deref.result.now c.in_ok-files.ensures.0 (c.deref.ensures.value ∙ c.in_ok-files.ensures.1) c.in_ok-check_count.ensures c.in_ok-marked.marked.table c.as_slice.result.now c.as_slice.ensures c.in_ok-marked.ensures.known c.in_err-check_entry.field-0.0 c.in_err-check_entry.ensures)

pub returns-in_err-check_marks : goal.returns-in_err-check_marks
returns-in_err-check_marks c =
    handed_on _ c.in_err-check_marks.field-0.0 _ c.from_residual-in_err-check_marks.ensures
    (marks_refused c.args.options.now c.args.names.now (string_bytes c.in_ok-written.written.front) c.as_str.result.now c.in_ok-written.ensures.front (c.as_str.ensures.value ∙ c.in_ok-written.ensures.folder)
    c.in_ok-check_standing.ensures c.as_bytes-front.result.now (c.as_bytes-front.ensures.value ∙ c.in_ok-written.ensures.front) c.in_ok-check_input.ensures
    c.deref.result.now c.in_ok-files.ensures.0 (c.deref.ensures.value ∙ c.in_ok-files.ensures.1) c.in_ok-check_count.ensures c.in_ok-marked.marked.table c.as_slice.result.now c.as_slice.ensures c.in_ok-marked.ensures.known
    c.in_ok-check_entry.ensures c.in_ok-marked.marked.bad c.in_ok-marked.ensures.bad c.in_err-check_marks.field-0.0 c.in_err-check_marks.ensures)

pub name_from-requires : goal.name_from-requires
name_from-requires c =
    let o = c.args.options.now in
    let w = c.in_ok-written.ensures in
    let fit = options_fit o c.requires in
    let name : IsName (manifest_name o) = path_is_name (manifest_name o) (manifest_path o w.folder_is_path fit.entry) (manifest_some o) fit.short in
    subst IsName (sym (c.as_bytes.ensures.value ∙ w.manifest)) name

pub name_from-requires-2 : goal.name_from-requires-2
name_from-requires-2 c =
    let o = c.args.options.now in
    let fit = options_fit o c.requires in
    let text : string_bytes c.in_ok-deployment.deployment ≡ deployment_name o = c.in_ok-deployment.ensures.text in
    let path = c.in_ok-deployment.ensures.path fit.name in
    let short = deployment_short o in
    let name : IsName (deployment_name o) = path_is_name (deployment_name o) path (deployment_some o) (omega (arith, fit.short)) in
    subst IsName (sym (c.as_bytes-2.ensures.value ∙ text)) name

pub returns : goal.returns
returns c =
    plan_made c.args.options.now c.args.names.now (string_bytes c.in_ok-written.written.front) c.as_str.result.now c.in_ok-written.ensures.front (c.as_str.ensures.value ∙ c.in_ok-written.ensures.folder)
    c.in_ok-check_standing.ensures c.as_bytes-front.result.now (c.as_bytes-front.ensures.value ∙ c.in_ok-written.ensures.front) c.in_ok-check_input.ensures
    c.from_vec.result c.in_ok-files.ensures.0 (c.from_vec.ensures ∙ c.in_ok-files.ensures.1)
    (c.in_ok-check_count.ensures ∙ ap few (c.deref.ensures.value ∙ sym c.from_vec.ensures)) c.in_ok-marked.marked.table c.as_slice.result.now c.as_slice.ensures c.in_ok-marked.ensures.known
    c.in_ok-check_entry.ensures c.in_ok-marked.marked.bad c.in_ok-marked.ensures.bad
    c.in_ok-check_marks.ensures c.in_ok-manifest.manifest c.in_ok-deployment-2.deployment
    (c.in_ok-manifest.ensures.made ∙ c.as_bytes.ensures.value ∙ c.in_ok-written.ensures.manifest)
    (c.in_ok-deployment-2.ensures.made ∙ c.as_bytes-2.ensures.value ∙ c.in_ok-deployment.ensures.text)
