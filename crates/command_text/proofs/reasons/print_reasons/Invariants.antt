use Rattle.std.proofs.Common.{drop}
use Rattle.command_text.specs.Lines.{reasons_text}
use Rattle.command_text.proofs.JoinedTexts.{rest_text}
use Rattle.command_text.proofs.Wrote.{Wrote}
use Rattle.command_text.proofs.reasons.print_reasons.Given as goal

abbrev pub invariant-loop-cause : goal.invariant-loop-cause
invariant-loop-cause g l = Wrote g.K.Sink l.initial.sink l.sink (reasons_text l.causes) (rest_text l.before (drop l.cause-index l.causes))
