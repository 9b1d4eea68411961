use Rattle.std.proofs.Common.{Some, ◌∙◌}
use Rattle.http_plain.proofs.Enough.{judged}
use Rattle.http_plain.proofs.response.judge_spans.Goals as goal

pub returns-clause-value : goal.returns-clause-value
returns-clause-value c =
    let covers = c.requires.1 in (
      Some c.requires.0,
      covers.is,
      c.judge.ensures.value ∙ judged c.requires.0 c.args.spans.code _ _ _ covers.parts.code covers.parts.fields c.is_encoded.ensures c.named_length.ensures,
    )
