use Rattle.std.proofs.Common.{◌≡◌, ℕ, List, ◌++◌, string_bytes, ap, ◌∙◌}
use Rattle.publish_plan.specs.Places.{within, front_of, manifest_end}
use Rattle.publish_plan.proofs.EarlyLemmas.{options_fit}
use Rattle.publish_plan.proofs.PathLemmas.{name_is_path}
use Rattle.publish_plan.proofs.PlaceLemmas.{manifest_is}
use Rattle.publish_plan.proofs.written.Written.new.Goals as goal

pub returns : goal.returns
returns c =
    let o = c.args.options.now in
    let from : string_bytes c.in_ok-front.front ≡ front_of c.as_str.result.now = c.in_ok-front.ensures in
    let made : string_bytes c.in_ok-manifest.manifest ≡ within c.as_str-2.result.now (o.entry ++ manifest_end) = c.in_ok-manifest.ensures in
    record {
      front = from ∙ ap front_of c.as_str.ensures.value;
      folder = c.in_ok-folder.ensures.text;
      manifest = manifest_is o c.as_str-2.result.now (string_bytes c.in_ok-manifest.manifest) (c.as_str-2.ensures.value ∙ c.in_ok-folder.ensures.text) made;
      from_is_path = name_is_path o.from c.as_str.ensures.name;
      folder_is_path = c.in_ok-folder.ensures.path (options_fit o c.requires).name;
    }
