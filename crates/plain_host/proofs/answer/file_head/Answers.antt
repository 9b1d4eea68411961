use Rattle.std.proofs.Common.{◌∙◌, codes}
use Rattle.http_plain.specs.Served.{type_line}
use Rattle.plain_host.proofs.Texts.{assembled_one, ok_line, typed_by}
use Rattle.plain_host.proofs.answer.file_head.Goals as goal

pub returns : goal.returns
returns c =
    assembled_one 200 c.args.count (codes "OK") (type_line c.args.name.now) c.in_ok-text.text.items c.push_line.new.text.items c.end_head.new.text.items
    (c.in_ok-text.ensures.items ∙ ok_line)
    (typed_by c.in_ok-text.text.items c.push_line.new.text.items c.args.name.now c.type_of.result.now c.in_ok-push_line.ensures c.type_of.ensures)
    c.in_ok-end_head.ensures
