use Rattle.disks.specs.declared.answer.Answer.TheVariants.{Measured, Gave}
use Rattle.disks.specs.Answers.{seen_after}
use Rattle.std.proofs.Common.{length, take}
use Rattle.disks.proofs.NextAnswer.{was_honest, agreed, gives_true}
use Rattle.disks.proofs.laws.honest_answers_are_true.Goals as goal

pub returns-clause-before : goal.returns-clause-before
returns-clause-before c = was_honest

pub returns-clause-length : goal.returns-clause-length
returns-clause-length c = λ first answers n honest. agreed first answers (Measured n) honest

pub returns-clause-read : goal.returns-clause-read
returns-clause-read c = λ first answers place n old new fits same rest honest.
    gives_true (seen_after first answers) place n old new fits same rest (agreed first answers (Gave place (length old) (take n new)) honest)
