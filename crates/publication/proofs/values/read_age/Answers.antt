use Rattle.publication.proofs.Ages.{is_age}
use Rattle.publication.proofs.values.read_age.Goals as goal

pub returns-clause-fit : goal.returns-clause-fit
returns-clause-fit c = is_age c.in_ok-number.number c.in_ok-unit.unit c.seconds.result c.seconds.ensures.value c.in_ok-number.ensures.few
