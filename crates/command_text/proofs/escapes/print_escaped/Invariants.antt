use Rattle.percent_encoding.specs.Iter.{encoded_text}
use Rattle.percent_encoding.specs.Percent.{percent_encode}
use Rattle.command_text.proofs.Wrote.{Wrote}
use Rattle.command_text.proofs.escapes.print_escaped.Given as goal

abbrev pub invariant-loop-piece : goal.invariant-loop-piece
invariant-loop-piece g l = Wrote g.K.Sink l.initial.sink l.sink (percent_encode l.fn.set l.text) (encoded_text l.piece-iterator)
