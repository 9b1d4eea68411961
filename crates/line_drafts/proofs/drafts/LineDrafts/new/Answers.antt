use Rattle.line_drafts.proofs.KeptDrafts.{nothing_used}
use Rattle.line_drafts.proofs.drafts.LineDrafts.new.Goals as goal

pub returns-clause-used : goal.returns-clause-used
returns-clause-used c = λ files. nothing_used files c.new.result.items c.new.ensures.items
