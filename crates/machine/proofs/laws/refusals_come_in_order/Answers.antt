use Rattle.std.proofs.Common.{inl, inr}
use Rattle.machine.specs.Machine.{refusals}
use Rattle.machine.specs.Shape.{shape_of}
use Rattle.machine.proofs.FirstRefusal.{first_refused, refused_at}
use Rattle.machine.proofs.laws.refusals_come_in_order.Goals as goal

pub returns-clause-answer : goal.returns-clause-answer
returns-clause-answer c = λ now heard old command k reply new passes at.
    inl (inr (tt, refused_at k (refusals now heard (shape_of old) command) old reply new passes at))

pub returns-clause-first : goal.returns-clause-first
returns-clause-first c = λ now heard shape command. first_refused (refusals now heard shape command)
