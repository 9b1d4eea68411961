use Rattle.machine.proofs.ReadApplications.{application_read}
use Rattle.machine.proofs.ReadDeployments.{deployment_read}
use Rattle.machine.proofs.laws.read_manifests_may_be_held.Goals as goal

pub returns-clause-deployments : goal.returns-clause-deployments
returns-clause-deployments c = deployment_read

pub returns-clause-applications : goal.returns-clause-applications
returns-clause-applications c = application_read
