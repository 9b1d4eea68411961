use Rattle.std.proofs.Common.{◌≡◌, ℕ, List, codes, string_bytes, ap, ◌∙◌}
use Rattle.publish_plan.specs.Places.{within}
use Rattle.publish_plan.proofs.PlaceLemmas.{folder_path, folder_is}
use Rattle.publish_plan.proofs.places.version_folder.Goals as goal

pub returns-clause-text : goal.returns-clause-text
returns-clause-text c =
    let o = c.args.options.now in
    let inner : string_bytes c.in_ok-inner.inner ≡ within (codes "Application Files") c.as_str.result.now = c.in_ok-inner.ensures in
    let whole : string_bytes c.in_ok-folder.folder ≡ within c.as_str-to.result.now c.as_str-2.result.now = c.in_ok-folder.ensures in
    folder_is o c.as_str.result.now c.as_str-2.result.now (string_bytes c.in_ok-folder.folder)
    (c.as_str.ensures.value ∙ c.in_ok-release.ensures.text) (c.as_str-2.ensures.value ∙ inner) (whole ∙ ap (λ (to : List ℕ). within to c.as_str-2.result.now) c.as_str-to.ensures.value)

pub returns-in_err-release-clause-path : goal.returns-in_err-release-clause-path
returns-in_err-release-clause-path c = λ word. folder_path c.args.options.now c.as_str-to.ensures.name word c.in_err-release.ensures.numbers

pub returns-in_err-inner-clause-path : goal.returns-in_err-inner-clause-path
returns-in_err-inner-clause-path c = λ word. folder_path c.args.options.now c.as_str-to.ensures.name word c.in_ok-release.ensures.numbers

pub returns-in_err-folder-clause-path : goal.returns-in_err-folder-clause-path
returns-in_err-folder-clause-path c = λ word. folder_path c.args.options.now c.as_str-to.ensures.name word c.in_ok-release.ensures.numbers

pub returns-clause-path : goal.returns-clause-path
returns-clause-path c = λ word. folder_path c.args.options.now c.as_str-to.ensures.name word c.in_ok-release.ensures.numbers
