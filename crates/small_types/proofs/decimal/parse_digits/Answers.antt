use Rattle.std.proofs.Common.{◌∙◌}
use Rattle.small_types.proofs.DecimalLemmas.{text_of_digits, parsed}
use Rattle.small_types.proofs.decimal.parse_digits.Goals as goal

pub unreachable-requires : goal.unreachable-requires
unreachable-requires c = c.in_default.ensures.cases.0 (text_of_digits c.args.digits.now c.requires.digits)

pub returns : goal.returns
returns c = c.ok.ensures.value ∙ parsed c.parse.result c.args.digits.now c.in-Ok.text.now c.requires.digits c.requires.some c.in-Ok.ensures.cases.0 c.parse.ensures.value.0
