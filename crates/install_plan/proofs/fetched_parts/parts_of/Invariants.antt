use Rattle.install_plan.proofs.FetchedSplit.{Split}
use Rattle.install_plan.proofs.fetched_parts.parts_of.Given as goal

abbrev pub invariant-loop-content : goal.invariant-loop-content
invariant-loop-content l = Split l.files l.wanted l.yielded l.parts.programs.items l.parts.locals.items l.place
