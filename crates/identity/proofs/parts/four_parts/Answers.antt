use Rattle.small_types.specs.Cuts.{parts_between}
use Rattle.small_types.proofs.CutLemmas.{some_part}
use Rattle.identity.proofs.PartsLemmas.{five_parts}
use Rattle.identity.proofs.parts.four_parts.Goals as goal

pub returns-in-Some-clause-count : goal.returns-in-Some-clause-count
returns-in-Some-clause-count c =
    let more = c.in-Some.field-0.1.now in
    five_parts _ _ _ _ (parts_between c.args.separator more) c.in_ok-first.ensures.found c.in_ok-second.ensures.found c.in_ok-third.ensures.found c.in-Some.ensures.found (some_part c.args.separator more)
