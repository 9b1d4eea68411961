use Rattle.percent_encoding.specs.Iter.{encoded_text}
use Rattle.identity.specs.Key.{part_text}
use Rattle.identity.proofs.PrintedLemmas.{Carries}
use Rattle.identity.proofs.printed.past_part.Given as goal

abbrev pub invariant-loop-piece : goal.invariant-loop-piece
invariant-loop-piece l = Carries (part_text l.part) l.text (encoded_text l.piece-iterator) l.rest
