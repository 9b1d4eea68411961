use Rattle.std.proofs.Common.{Ok, refl}
use Rattle.machine.specs.declared.command.Command.TheVariants.{Skip}
use Rattle.command_text.proofs.Outcomes.{lacked, refused}
use Rattle.command_text.proofs.key_lines.skip_line.Goals as goal

pub returns-in-Err-clause-exact : goal.returns-in-Err-clause-exact
returns-in-Err-clause-exact c =
    refused c.key_line.result _ _ c.in-Err.fault c.in-Err.is c.key_line.ensures.exact

pub returns-in-Err-clause-memory : goal.returns-in-Err-clause-memory
returns-in-Err-clause-memory c = λ none.
    lacked c.key_line.result _ (λ key. Ok (Skip key)) c.in-Err.fault c.in-Err.is (λ key. refl)
    c.key_line.ensures.memory none
