use Rattle.std.proofs.Common.{Ok, refl}
use Rattle.machine.specs.declared.command.Command.TheVariants.{Read}
use Rattle.command_text.proofs.Outcomes.{lacked, refused}
use Rattle.command_text.proofs.file_lines.file_line.Goals as goal

pub returns-in-Err-clause-exact : goal.returns-in-Err-clause-exact
returns-in-Err-clause-exact c =
    refused c.span_line.result _ _ c.in-Err.fault c.in-Err.is c.span_line.ensures.exact

pub returns-in-Err-clause-memory : goal.returns-in-Err-clause-memory
returns-in-Err-clause-memory c = λ none.
    lacked c.span_line.result _ (λ span. Ok (Read span.lease span.name span.from span.count))
    c.in-Err.fault c.in-Err.is (λ span. refl) c.span_line.ensures.memory none
