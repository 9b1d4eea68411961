use Rattle.jobs.proofs.WholeFiles.{whole_come, whole_stay}
use Rattle.jobs.proofs.beside.whole_files_stay.Goals as goal

pub returns-clause-stay : goal.returns-clause-stay
returns-clause-stay c = whole_stay

pub returns-clause-come : goal.returns-clause-come
returns-clause-come c = whole_come
