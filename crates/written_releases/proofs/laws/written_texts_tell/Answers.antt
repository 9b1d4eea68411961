use Rattle.written_releases.proofs.WrittenTexts.{application_tells, deployment_tells}
use Rattle.written_releases.proofs.laws.written_texts_tell.Goals as goal

pub returns-clause-deployments : goal.returns-clause-deployments
returns-clause-deployments c = λ d publisher product is. deployment_tells d publisher product is

pub returns-clause-applications : goal.returns-clause-applications
returns-clause-applications c = λ a is. application_tells a is
