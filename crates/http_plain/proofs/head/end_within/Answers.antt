use Rattle.std.proofs.Common.{ap, ◌∙◌, take}
use Rattle.http_plain.specs.Head.{head_end}
use Rattle.http_plain.proofs.Ends.{no_end}
use Rattle.http_plain.proofs.Enough.{take_min, end_in}
use Rattle.http_plain.proofs.head.end_within.Goals as goal

pub find_head_end-requires-clause-none : goal.find_head_end-requires-clause-none
find_head_end-requires-clause-none c = no_end

pub returns-clause-end : goal.returns-clause-end
returns-clause-end c =
    c.find_head_end.ensures ∙ ap (λ n. head_end (take n c.args.bytes.now)) c.min.ensures ∙ ap head_end (take_min 65536 c.args.bytes.now)

pub returns-clause-within : goal.returns-clause-within
returns-clause-within c =
    end_in c.args.bytes.now c.find_head_end.result
    (c.find_head_end.ensures ∙ ap (λ n. head_end (take n c.args.bytes.now)) c.min.ensures ∙ ap head_end (take_min 65536 c.args.bytes.now))
