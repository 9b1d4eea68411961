use Rattle.manifests.proofs.conditions.is_provider.Goals as goal

pub returns-in-Some : goal.returns-in-Some
returns-in-Some c = rw c.in-Some.is c.is_address.ensures
