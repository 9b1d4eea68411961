use Rattle.record_fields.specs.Spelled.{deployment_field}
use Rattle.record_fields.proofs.Written.{then}
use Rattle.record_fields.proofs.manifest_writers.write_deployment.Goals as goal

pub returns : goal.returns
unfolding deployment_field
returns c = then c.write_terms-next.ensures c.write_listed.ensures
