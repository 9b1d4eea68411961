use Rattle.std.proofs.Common.{subst}
use Rattle.std.specs.Str.{IsUtf8}
use Rattle.manifest_tree.specs.WrittenText.{attribute_text}
use Rattle.manifest_tree.proofs.Written.{attribute_utf8}
use Rattle.manifest_tree.proofs.Pushes.{on_ok}
use Rattle.manifest_tree.proofs.write.node.push_attribute.Goals as goal

pub returns-clause-utf8 : goal.returns-clause-utf8
returns-clause-utf8 c =
    on_ok c.extend-4.result (IsUtf8 (attribute_text c.args.attribute.now))
    (attribute_utf8 c.args.attribute.now (subst IsUtf8 c.as_bytes.ensures.value c.as_bytes.ensures.utf8) (subst IsUtf8 c.as_bytes-2.ensures.value c.as_bytes-2.ensures.utf8))
