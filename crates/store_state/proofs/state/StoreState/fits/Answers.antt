use Rattle.std.proofs.Common.{Result, Ok, Err, OnErr}
use Rattle.store_state.proofs.state.StoreState.fits.Goals as goal

-- what holds holds after an error
after : {T E P : Type 0} (r : Result T E) → P → OnErr r P
after (Ok x) p = tt
after (Err e) p = p

pub returns-in-Install-clause-answer : goal.returns-in-Install-clause-answer
returns-in-Install-clause-answer c = rw c.in-Install.is c.fits_install.ensures

pub returns-in-Install-clause-memory : goal.returns-in-Install-clause-memory
returns-in-Install-clause-memory c = after c.fits_install.result (rw c.in-Install.is tt)

pub returns-in-Group-clause-answer : goal.returns-in-Group-clause-answer
returns-in-Group-clause-answer c = rw c.in-Group.is c.fits_group.ensures
