use Rattle.std.proofs.Common.{refl, sym, ◌∙◌}
use Rattle.manifest_tree.proofs.LateNames.{among_late}
use Rattle.manifest_tree.proofs.tag.is_taken.Goals as goal

pub returns-else-is_one_of : goal.returns-else-is_one_of
returns-else-is_one_of c = among_late c.args.late.now c.args.seen.now _ c.args.name.now c.contains_key.result c.requires refl (sym c.is_one_of-2.ensures ∙ c.if-is_one_of.false) c.contains_key.ensures
