use Rattle.std.proofs.Common.{◌+◌, ◌∙◌, ap, take}
use Rattle.http_plain.specs.Head.{head_end}
use Rattle.http_plain.proofs.Ends.{looked_again}
use Rattle.http_plain.proofs.head.find_head_end.Goals as goal

pub find_from-requires-clause-none : goal.find_from-requires-clause-none
find_from-requires-clause-none c =
    ap (λ n. head_end (take (n + 3) c.args.text.now)) c.saturating_sub.ensures ∙ looked_again c.args.looked c.args.text.now c.requires.none
