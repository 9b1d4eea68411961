use Rattle.plain_host.proofs.Texts.{deployment_type, manifest_type, other_type}
use Rattle.plain_host.proofs.answer.type_of.Goals as goal

pub returns-then-has_end : goal.returns-then-has_end
returns-then-has_end c =
    deployment_type c.as_bytes-name.result.now c.args.name.now c.as_bytes-name.ensures.value c.has_end.result c.has_end.ensures c.if-has_end.true

pub returns-then-has_end-2 : goal.returns-then-has_end-2
returns-then-has_end-2 c =
    manifest_type c.as_bytes-name.result.now c.args.name.now c.as_bytes-name.ensures.value c.has_end.result c.has_end-2.result c.has_end.ensures c.if-has_end.false
    c.has_end-2.ensures c.if-has_end-2.true

pub returns : goal.returns
returns c =
    other_type c.as_bytes-name.result.now c.args.name.now c.as_bytes-name.ensures.value c.has_end.result c.has_end-2.result c.has_end.ensures c.if-has_end.false
    c.has_end-2.ensures c.if-has_end-2.false
