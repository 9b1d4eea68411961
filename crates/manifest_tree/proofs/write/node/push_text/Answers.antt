use Rattle.std.proofs.Common.{subst, ◌∷◌}
use Rattle.std.specs.Str.{IsUtf8}
use Rattle.manifest_tree.specs.WrittenText.{escaped}
use Rattle.manifest_tree.proofs.Written.{text_utf8}
use Rattle.manifest_tree.proofs.Pushes.{on_ok}
use Rattle.manifest_tree.proofs.write.node.push_text.Goals as goal

pub returns-clause-utf8 : goal.returns-clause-utf8
returns-clause-utf8 c = on_ok c.push_escaped.result (IsUtf8 (62 ∷ escaped c.args.text.now)) (text_utf8 c.args.text.now (subst IsUtf8 c.as_bytes.ensures.value c.as_bytes.ensures.utf8))
