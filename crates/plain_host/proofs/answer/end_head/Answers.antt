use Rattle.std.proofs.Common.{◌∙◌}
use Rattle.plain_host.proofs.Texts.{closed}
use Rattle.plain_host.proofs.answer.end_head.Goals as goal

pub returns : goal.returns
returns c =
    closed c.args.text.now.items c.push_line.new.text.items c.push_line-2.new.text.items c.extend_from_slice.new.self.items c.as_bytes.result.now c.args.count
    c.in_ok-push_line.ensures (c.as_bytes.ensures.value ∙ c.format.ensures.text) c.in_ok-push_line-2.ensures c.in_ok-extend_from_slice.ensures.items
