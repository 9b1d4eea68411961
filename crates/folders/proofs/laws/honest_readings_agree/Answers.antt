use Rattle.std.proofs.Common.{◌∷◌, ◌++◌, ◌∙◌, subst}
use Rattle.std.specs.Prelude.{Option}
use Rattle.folders.specs.declared.answer.FolderAnswer.TheVariants.{Gave, Measured}
use Rattle.folders.specs.Found.{HasLength}
use Rattle.folders.proofs.HonestAnswers.{agreed, file_stays}
use Rattle.folders.proofs.laws.honest_readings_agree.Goals as goal

pub returns-clause-bytes : goal.returns-clause-bytes
returns-clause-bytes c = λ files before between name first second leave honest.
    agreed files (before ++ Gave name first ∷ between) (Gave name second) honest
    ∙ file_stays files before between name first (Gave name second) leave honest

pub returns-clause-length : goal.returns-clause-length
returns-clause-length c = λ files before between name first n leave honest.
    subst (λ (file : Option _). HasLength file n) (file_stays files before between name first (Measured name n) leave honest)
    (agreed files (before ++ Gave name first ∷ between) (Measured name n) honest)
