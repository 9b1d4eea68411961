use Rattle.plain_host.proofs.Steps.{parts_behind}
use Rattle.plain_host.proofs.reply.send_both.Goals as goal

pub returns-clause-part : goal.returns-clause-part
returns-clause-part g c = λ t.
    parts_behind c.send_all-2.result _ _ _ c.args.first.now c.args.rest.now (c.in_ok-send_all.ensures.done t) (c.send_all-2.ensures.part t)
