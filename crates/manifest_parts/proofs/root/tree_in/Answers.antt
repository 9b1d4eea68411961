use Rattle.std.proofs.Common.{sym, ap}
use Rattle.manifest_parts.proofs.Readings.{ok_at}
use Rattle.manifest_parts.proofs.root.tree_in.Goals as goal

pub returns-in-Ok-clause-only : goal.returns-in-Ok-clause-only
returns-in-Ok-clause-only c = λ t p. ap ok_at (sym (c.in-Ok.ensures.only t p))

pub returns-in-Err-Refused-clause-only : goal.returns-in-Err-Refused-clause-only
returns-in-Err-Refused-clause-only c = λ t p. let is = c.in-Err-Refused.ensures.only t p in let refused = c.in-Err-Refused.field-0-is in cc
