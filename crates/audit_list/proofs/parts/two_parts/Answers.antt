use Rattle.audit_list.proofs.JoinedParts.{cut_twice}
use Rattle.audit_list.proofs.parts.two_parts.Goals as goal

pub returns-in-Some-clause-count : goal.returns-in-Some-clause-count
returns-in-Some-clause-count c =
    cut_twice c.args.separator c.args.bytes.now c.in_ok-first.rest.now c.in-Some.field-0.1.now c.in_ok-first.ensures.found c.in-Some.ensures.found
