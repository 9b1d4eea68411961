use Rattle.manifests.proofs.ApplicationsLaw.{read_are_facts}
use Rattle.manifests.proofs.laws.read_applications_are_facts.Goals as goal

pub returns : goal.returns
returns c = read_are_facts
