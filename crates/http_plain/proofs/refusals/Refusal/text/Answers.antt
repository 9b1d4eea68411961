use Rattle.std.proofs.Common.{ap, sym, ◌∙◌}
use Rattle.http_plain.specs.Served.{refusal}
use Rattle.http_plain.proofs.RefusalTexts.{text_400, text_404, text_405, text_431}
use Rattle.http_plain.proofs.refusals.Refusal.text.Goals as goal

pub returns-in-BadRequest : goal.returns-in-BadRequest
returns-in-BadRequest c = text_400 ∙ ap refusal (sym c.in-BadRequest.is)

pub returns-in-NotFound : goal.returns-in-NotFound
returns-in-NotFound c = text_404 ∙ ap refusal (sym c.in-NotFound.is)

pub returns-in-MethodNotAllowed : goal.returns-in-MethodNotAllowed
returns-in-MethodNotAllowed c = text_405 ∙ ap refusal (sym c.in-MethodNotAllowed.is)

pub returns-in-FieldsTooLarge : goal.returns-in-FieldsTooLarge
returns-in-FieldsTooLarge c = text_431 ∙ ap refusal (sym c.in-FieldsTooLarge.is)
