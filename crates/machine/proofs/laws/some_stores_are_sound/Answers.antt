use Rattle.machine.proofs.Example.{store, used}
use Rattle.machine.proofs.KeptStores.{empty_sound}
use Rattle.machine.proofs.Lightness.{least_light}
use Rattle.machine.proofs.laws.some_stores_are_sound.Goals as goal

pub returns-clause-empty : goal.returns-clause-empty
returns-clause-empty c = λ room some few least. empty_sound room some few (least_light room least)

pub returns-clause-used : goal.returns-clause-used
returns-clause-used c = (store, used)
