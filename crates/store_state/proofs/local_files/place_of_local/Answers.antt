use Rattle.std.proofs.Common.{◌∙◌, sym}
use Rattle.store_state.specs.Locals.{is_not_before}
use Rattle.store_state.proofs.PutItems.{none_before}
use Rattle.store_state.proofs.local_files.place_of_local.Goals as goal

-- each is before the name
pub returns-in-None-clause-place : goal.returns-in-None-clause-place
returns-in-None-clause-place c =
    none_before (is_not_before c.args.name.now) c.args.files.now
    (sym c.first_behind.ensures ∙ c.in-None.is)
