use Rattle.small_types.proofs.CutLemmas.{cut_none, cut_found}
use Rattle.small_types.proofs.cut.cut_once.Goals as goal

pub returns-in_default-clause-none : goal.returns-in_default-clause-none
returns-in_default-clause-none c = cut_none _ _ c.in_default.ensures

pub returns-clause-found : goal.returns-clause-found
returns-clause-found c = cut_found c.args.separator c.args.bytes.now c.in-Some.place c.in-Some.ensures
