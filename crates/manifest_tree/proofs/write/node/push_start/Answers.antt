use Rattle.std.proofs.Common.{subst}
use Rattle.std.specs.Str.{IsUtf8}
use Rattle.std.proofs.lemmas.Result.{on_ok_weaker}
use Rattle.manifest_tree.specs.WrittenText.{attributes_text}
use Rattle.manifest_tree.proofs.Written.{start_utf8}
use Rattle.manifest_tree.proofs.write.node.push_start.Goals as goal

pub returns-clause-utf8 : goal.returns-clause-utf8
returns-clause-utf8 c =
    on_ok_weaker c.push_attributes.result (start_utf8 c.args.name.now (attributes_text c.args.attributes.now) (subst IsUtf8 c.as_bytes.ensures.value c.as_bytes.ensures.utf8))
    c.push_attributes.ensures.utf8
