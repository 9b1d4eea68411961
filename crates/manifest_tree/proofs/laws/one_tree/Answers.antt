use Rattle.manifest_tree.proofs.Flat.{spelled_read, one_tree_read}
use Rattle.manifest_tree.proofs.laws.one_tree.Goals as goal

pub returns : goal.returns
returns c = λ bytes t u p q. one_tree_read bytes t u (spelled_read bytes t p) (spelled_read bytes u q)
