use Rattle.std.proofs.Common.{rules}
use Rattle.std.proofs.lemmas.List.{append-nil}
use Rattle.publish_plan.proofs.places.target_name.Goals as goal

pub returns : goal.returns
returns c = rw (c.if-mapped.false, append-nil) (search rules)
