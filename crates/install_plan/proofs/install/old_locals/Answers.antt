use Rattle.std.proofs.Common.{◌∙◌, ap}
use Rattle.store_state.specs.Rows.{row_locals}
use Rattle.install_plan.proofs.install.old_locals.Goals as goal

pub returns-in-Some : goal.returns-in-Some
returns-in-Some c = c.as_slice.ensures ∙ ap row_locals c.in-Some.ensures.row

pub returns-in-None : goal.returns-in-None
returns-in-None c = ap row_locals c.in-None.ensures.row
