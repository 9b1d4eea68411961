use Rattle.small_types.proofs.Spelled.{first_whole, first_cut}
use Rattle.small_types.proofs.name.first_part.Goals as goal

pub returns-in-Some : goal.returns-in-Some
returns-in-Some c = first_cut c.args.text.now c.in-Some.place c.in-Some.ensures

pub returns-in-None : goal.returns-in-None
returns-in-None c = first_whole c.args.text.now c.in-None.ensures
