use Rattle.folders.proofs.HonestAnswers.{stay_honest}
use Rattle.folders.proofs.laws.honest_folders_stay_honest.Goals as goal

pub returns-clause-next : goal.returns-clause-next
returns-clause-next c = stay_honest
