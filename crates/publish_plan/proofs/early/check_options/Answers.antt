use Rattle.std.proofs.Common.{◌≡◌, ℕ, Bool, List, Option, Some, not, nat_lt, length, codes, sym, ap, subst, ◌∙◌}
use Rattle.publish_plan.specs.declared.fault.PlanFault.{PlanFault}
use Rattle.publish_plan.specs.declared.fault.PlanFault.TheVariants.{BadName}
use Rattle.publish_plan.specs.Early.{early_of, overlap, above}
use Rattle.publish_plan.specs.Outcome.{Fails, Gives, unless}
use Rattle.publish_plan.specs.Places.{is_plain_name, manifest_name}
use Rattle.publish_plan.proofs.Chains.{gives_so}
use Rattle.publish_plan.proofs.EarlyLemmas.{name_first, entry_next, folders_next, long_next, minimum_last}
use Rattle.publish_plan.proofs.early.check_options.Goals as goal

fails_at : (e : PlanFault) (refusal wanted : Option PlanFault) → wanted ≡ refusal → Fails e (unless refusal) → Fails e (unless wanted)
fails_at e refusal wanted is h = subst (λ (o : Option PlanFault). Fails e (unless o)) (sym is) h

pub returns-then-not-is_plain_name : goal.returns-then-not-is_plain_name
returns-then-not-is_plain_name c =
    let o = c.args.options.now in
    let name = ap not (sym (c.is_plain_name.ensures ∙ ap is_plain_name c.as_bytes.ensures.value) ∙ c.if-not-is_plain_name.true) in
    fails_at c.bad_name.result (Some (BadName (codes "name"))) (early_of o) (name_first o name) c.bad_name.ensures

pub returns-then-not-is_plain_name-2 : goal.returns-then-not-is_plain_name-2
returns-then-not-is_plain_name-2 c =
    let o = c.args.options.now in
    let name = ap not (sym (c.is_plain_name.ensures ∙ ap is_plain_name c.as_bytes.ensures.value) ∙ c.if-not-is_plain_name.false) in
    let entry = ap not (sym (c.is_plain_name-2.ensures ∙ ap is_plain_name c.as_bytes-2.ensures.value) ∙ c.if-not-is_plain_name-2.true) in
    fails_at c.bad_name-then-not-is_plain_name-2.result (Some (BadName (codes "entry"))) (early_of o) (entry_next o name entry) c.bad_name-then-not-is_plain_name-2.ensures

pub returns-then-branch : goal.returns-then-branch
returns-then-branch c =
    let o = c.args.options.now in
    let name = ap not (sym (c.is_plain_name.ensures ∙ ap is_plain_name c.as_bytes.ensures.value) ∙ c.if-not-is_plain_name.false) in
    let entry = ap not (sym (c.is_plain_name-2.ensures ∙ ap is_plain_name c.as_bytes-2.ensures.value) ∙ c.if-not-is_plain_name-2.false) in
    let same : c.in_ok-overlap.field-0 ≡ overlap o.from o.to = c.in_ok-overlap.ensures in
    fails_at c.bad_name-then-branch.result (Some (BadName (codes "to"))) (early_of o) (folders_next o name entry (sym same ∙ c.if-branch.true)) c.bad_name-then-branch.ensures

pub returns-then-branch-2 : goal.returns-then-branch-2
returns-then-branch-2 c =
    let o = c.args.options.now in
    let name = ap not (sym (c.is_plain_name.ensures ∙ ap is_plain_name c.as_bytes.ensures.value) ∙ c.if-not-is_plain_name.false) in
    let entry = ap not (sym (c.is_plain_name-2.ensures ∙ ap is_plain_name c.as_bytes-2.ensures.value) ∙ c.if-not-is_plain_name-2.false) in
    let same : c.in_ok-overlap.field-0 ≡ overlap o.from o.to = c.in_ok-overlap.ensures in
    let long : c.in_ok-has_long_manifest.field-0 ≡ nat_lt 240 (length (manifest_name o)) = c.in_ok-has_long_manifest.ensures in
    fails_at c.bad_name-then-branch-2.result (Some (BadName (codes "entry"))) (early_of o) (long_next o name entry (sym same ∙ c.if-branch.false) (sym long ∙ c.if-branch-2.true)) c.bad_name-then-branch-2.ensures

pub returns : goal.returns
returns c =
    let o = c.args.options.now in
    let name = ap not (sym (c.is_plain_name.ensures ∙ ap is_plain_name c.as_bytes.ensures.value) ∙ c.if-not-is_plain_name.false) in
    let entry = ap not (sym (c.is_plain_name-2.ensures ∙ ap is_plain_name c.as_bytes-2.ensures.value) ∙ c.if-not-is_plain_name-2.false) in
    let same : c.in_ok-overlap.field-0 ≡ overlap o.from o.to = c.in_ok-overlap.ensures in
    let long : c.in_ok-has_long_manifest.field-0 ≡ nat_lt 240 (length (manifest_name o)) = c.in_ok-has_long_manifest.ensures in
    let last = minimum_last o name entry (sym same ∙ c.if-branch.false) (sym long ∙ c.if-branch-2.false) in
    gives_so c.check_minimum.result (unless (early_of o)) (ap unless last ∙ sym c.check_minimum.ensures)
