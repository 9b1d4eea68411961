use Rattle.publication.proofs.Ages.{few_digits}
use Rattle.publication.proofs.values.read_number.Goals as goal

pub returns-clause-few : goal.returns-clause-few
returns-clause-few c = few_digits c.args.digits.now c.read_decimal.result c.if-digits-gt-AGE_DIGIT_LIMIT.false c.read_decimal.ensures
