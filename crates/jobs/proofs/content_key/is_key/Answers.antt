use Rattle.std.proofs.Common.{◌∙◌, ap}
use Rattle.std.specs.Ordering.{is_eq}
use Rattle.jobs.specs.Keys.{key_by}
use Rattle.jobs.proofs.Keys.{same_by_order}
use Rattle.jobs.proofs.content_key.is_key.Goals as goal

-- the key compares as equal
pub returns : goal.returns
returns c =
    c.is_eq.ensures ∙ ap is_eq c.key_order.ensures
    ∙ same_by_order (key_by c.args.size c.args.list.now) c.args.key.now
