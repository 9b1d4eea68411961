use Rattle.std.proofs.Common.{sym, ◌∙◌, ◌++◌, ◌+◌, ◌<◌, length, arith}
use Rattle.http_plain.proofs.Enough.{comes, gives_longer, near_room, refused_by, unended_refuses}
use Rattle.http_plain.specs.declared.exchange.TheConstants.{ANSWER_PIECE}
use Rattle.http_plain.proofs.begun.begin.Goals as goal

pub returns-in_default-clause-answers : goal.returns-in_default-clause-answers
returns-in_default-clause-answers c =
    λ left enough. unended_refuses c.args.front.now left c.unended.result (sym c.in_default.is ∙ c.end_within.ensures.end) c.unended.ensures.value enough

pub begin_at-requires-clause-fits : goal.begin_at-requires-clause-fits
begin_at-requires-clause-fits c =
    let few : length c.args.front.now < c.in-Some.end + ANSWER_PIECE =
    near_room ANSWER_PIECE c.args.front.now c.in-Some.end c.requires.few (sym c.in-Some.is ∙ c.end_within.ensures.end) c.requires.near in
    omega (arith, c.requires.fits)

pub returns-in-Ok-clause-answers : goal.returns-in-Ok-clause-answers
returns-in-Ok-clause-answers c =
    λ left enough.
    comes c.args.front.now left c.in-Some.end c.begin_at.result c.in-Ok.size c.requires.few (sym c.in-Some.is ∙ c.end_within.ensures.end) enough
    c.in-Ok.ensures.value c.begin_at.ensures.length c.begin_at.ensures.early

pub returns-in-Err-clause-answers : goal.returns-in-Err-clause-answers
returns-in-Err-clause-answers c =
    λ left enough.
    refused_by (c.args.front.now ++ left) c.in-Err.fault
    (gives_longer c.args.front.now left c.in-Some.end _ (sym c.in-Some.is ∙ c.end_within.ensures.end) enough c.in-Err.ensures.value)
