use Rattle.std.proofs.Common.{subst, ◌++◌}
use Rattle.std.specs.Prelude.{codes}
use Rattle.std.specs.Str.{IsUtf8}
use Rattle.manifest_tree.proofs.Written.{end_utf8}
use Rattle.manifest_tree.proofs.Pushes.{on_ok}
use Rattle.manifest_tree.proofs.write.node.push_end.Goals as goal

pub returns-clause-utf8 : goal.returns-clause-utf8
returns-clause-utf8 c =
    on_ok c.extend-3.result (IsUtf8 (codes "</" ++ (c.args.name.now ++ codes ">"))) (end_utf8 c.args.name.now (subst IsUtf8 c.as_bytes.ensures.value c.as_bytes.ensures.utf8))
