use Rattle.std.proofs.Common.{◌≡◌, ℕ, List, ◌++◌, length, nat_lt, string_bytes, ap, ◌∙◌}
use Rattle.publish_plan.specs.Places.{within, manifest_end}
use Rattle.publish_plan.proofs.PlaceLemmas.{manifest_is}
use Rattle.publish_plan.proofs.early.has_long_manifest.Goals as goal

pub returns : goal.returns
returns c =
    let o = c.args.options.now in
    let made : string_bytes c.in_ok-manifest.manifest ≡ within c.as_str.result.now (o.entry ++ manifest_end) = c.in_ok-manifest.ensures in
    let whole = manifest_is o c.as_str.result.now (string_bytes c.in_ok-manifest.manifest) (c.as_str.ensures.value ∙ c.in_ok-folder.ensures.text) made in
    ap (nat_lt 240) (ap length (c.as_str-2.ensures.value ∙ whole))
