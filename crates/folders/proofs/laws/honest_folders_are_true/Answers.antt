use Rattle.folders.specs.declared.answer.FolderAnswer.TheVariants.{Listed, Gave, Measured}
use Rattle.folders.proofs.HonestAnswers.{agreed, put_there, stay_apart, were_honest}
use Rattle.folders.proofs.laws.honest_folders_are_true.Goals as goal

pub returns-clause-before : goal.returns-clause-before
returns-clause-before c = were_honest

pub returns-clause-list : goal.returns-clause-list
returns-clause-list c = λ files answers names. agreed files answers (Listed names)

pub returns-clause-read : goal.returns-clause-read
returns-clause-read c = λ files answers name bytes. agreed files answers (Gave name bytes)

pub returns-clause-length : goal.returns-clause-length
returns-clause-length c = λ files answers name n. agreed files answers (Measured name n)

pub returns-clause-put : goal.returns-clause-put
returns-clause-put c = put_there

pub returns-clause-apart : goal.returns-clause-apart
returns-clause-apart c = stay_apart
