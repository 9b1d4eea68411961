use Rattle.std.proofs.Common.{ap}
use Rattle.std.specs.Option.{option_copied}
use Rattle.machine.specs.declared.command.Command.TheVariants as asks
use Rattle.command_text.proofs.WordLemmas.{word_follows}
use Rattle.command_text.proofs.lines.list_line.Goals as goal

pub returns-in-Some-clause-exact : goal.returns-in-Some-clause-exact
returns-in-Some-clause-exact c = word_follows asks.List c.in-Some.field-0.now (option_copied c.args.args) (ap option_copied c.in-Some.is)
