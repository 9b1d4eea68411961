use Rattle.std.proofs.Common.{◌∙◌}
use Rattle.command_text.proofs.FileWords.{file_known, file_too_long}
use Rattle.command_text.proofs.names.read_name.Goals as goal

pub returns-in-Some-clause-memory : goal.returns-in-Some-clause-memory
returns-in-Some-clause-memory c =
    λ none. file_known c.args.word.now c.deref.result.now (c.deref.ensures.0 ∙ c.in-Some.ensures)
    (c.read.ensures.memory none)

pub returns-in-None-clause-exact : goal.returns-in-None-clause-exact
returns-in-None-clause-exact c = file_too_long c.args.word.now c.in-None.ensures
