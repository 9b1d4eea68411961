use Rattle.machine.proofs.InstallExact.{address_exact, deployment_exact, one_reply, release_exact}
use Rattle.machine.proofs.install_laws.one_install_is_given.Goals as goal

pub returns-clause-refusals : goal.returns-clause-refusals
returns-clause-refusals c = record {
  address = address_exact;
  deployment = deployment_exact;
  release = release_exact;
}

pub returns-clause-reply : goal.returns-clause-reply
returns-clause-reply c = one_reply
