use Rattle.std.proofs.Common.{length, take, refl}
use Rattle.disks.specs.declared.answer.Answer.TheVariants.{Measured, Gave, Changed}
use Rattle.disks.specs.Answers.{seen_after}
use Rattle.disks.proofs.NextAnswer.{stays_honest, gave_true}
use Rattle.disks.proofs.laws.honest_answers_stay_honest.Goals as goal

pub returns-clause-length : goal.returns-clause-length
returns-clause-length c = λ first answers honest. stays_honest first answers (Measured (length (seen_after first answers))) honest refl

pub returns-clause-read : goal.returns-clause-read
returns-clause-read c = λ first answers place n old new honest gives.
    stays_honest first answers (Gave place (length old) (take n new)) honest (gave_true (seen_after first answers) place n old new gives)

pub returns-clause-change : goal.returns-clause-change
returns-clause-change c = λ first answers call honest. stays_honest first answers (Changed call) honest tt
