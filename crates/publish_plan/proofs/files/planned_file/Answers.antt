use Rattle.std.proofs.Common.{◌≡◌, ℕ, List, Option, Bool, string_bytes, sym, ap, subst, ◌∙◌}
use Rattle.small_types.specs.Name.{IsName}
use Rattle.publish_plan.specs.declared.marked.Seen.{Seen}
use Rattle.publish_plan.proofs.PathLemmas.{name_is_path}
use Rattle.publish_plan.proofs.FileLemmas.{target_is, bad_is, fit_refused, fit_planned, planned_is, target_named}
use Rattle.publish_plan.proofs.files.planned_file.Goals as goal

abbrev is_local : Seen → Bool
is_local seen = seen.local

abbrev group : Seen → Option (List ℕ)
group seen = seen.group

pub returns-then-is_unfit : goal.returns-then-is_unfit
returns-then-is_unfit c =
    let o = c.args.options.now in
    let w = c.requires.written in
    let target = target_is o c.args.file c.as_str.result.now (string_bytes c.in_ok-target.target) (c.as_str.ensures.value ∙ w.folder) c.in_ok-target.ensures in
    let same = bad_is o c.args.file c.as_str-2.result.now c.as_str-3.result.now c.args.seen.now.local (c.as_str-2.ensures.value ∙ w.manifest) (c.as_str-3.ensures.value ∙ target) (ap is_local c.requires.seen) in
    fit_refused o c.args.file (sym same ∙ sym c.is_unfit.ensures ∙ c.if-is_unfit.true)

pub name_from-requires : goal.name_from-requires
name_from-requires c =
    let o = c.args.options.now in
    let w = c.requires.written in
    let target = target_is o c.args.file c.as_str.result.now (string_bytes c.in_ok-target.target) (c.as_str.ensures.value ∙ w.folder) c.in_ok-target.ensures in
    let same = bad_is o c.args.file c.as_str-2.result.now c.as_str-3.result.now c.args.seen.now.local (c.as_str-2.ensures.value ∙ w.manifest) (c.as_str-3.ensures.value ∙ target) (ap is_local c.requires.seen) in
    let fit = sym same ∙ sym c.is_unfit.ensures ∙ c.if-is_unfit.false in
    subst IsName (sym (c.as_bytes.ensures.value ∙ target)) (target_named o c.args.file w.folder_is_path (name_is_path c.args.file c.requires.name) fit)

pub returns : goal.returns
returns c =
    let o = c.args.options.now in
    let w = c.requires.written in
    let target = target_is o c.args.file c.as_str.result.now (string_bytes c.in_ok-target.target) (c.as_str.ensures.value ∙ w.folder) c.in_ok-target.ensures in
    let same = bad_is o c.args.file c.as_str-2.result.now c.as_str-3.result.now c.args.seen.now.local (c.as_str-2.ensures.value ∙ w.manifest) (c.as_str-3.ensures.value ∙ target) (ap is_local c.requires.seen) in
    let fit = sym same ∙ sym c.is_unfit.ensures ∙ c.if-is_unfit.false in
    let made : c.in_ok-target-2.target ≡ c.as_bytes.result.now = c.in_ok-target-2.ensures.made in
    let copied : c.in_ok-source.source ≡ c.args.source.now = c.in_ok-source.ensures in
    let given : c.in_ok-group.group ≡ c.args.seen.now.group = c.in_ok-group.ensures in
    fit_planned o c.args.file _ fit
    (planned_is o c.args.file c.in_ok-source.source c.in_ok-target-2.target c.in_ok-group.group c.args.seen.now.local
    (copied ∙ c.requires.source) (made ∙ c.as_bytes.ensures.value ∙ target) (given ∙ ap group c.requires.seen) (ap is_local c.requires.seen))
