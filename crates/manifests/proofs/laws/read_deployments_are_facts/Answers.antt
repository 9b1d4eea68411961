use Rattle.manifests.proofs.DeploymentsLaw.{read_are_facts}
use Rattle.manifests.proofs.laws.read_deployments_are_facts.Goals as goal

pub returns : goal.returns
returns c = read_are_facts
