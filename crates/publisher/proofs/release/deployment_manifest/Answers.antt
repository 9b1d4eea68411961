use Rattle.std.proofs.Common.{ap, subst}
use Rattle.identity.specs.Version.{IsVersion}
use Rattle.manifests.specs.declared.facts.Deployment.{Deployment}
use Rattle.publisher.proofs.OptionFacts.{deployment_fits, name_content}
use Rattle.publisher.proofs.release.deployment_manifest.Goals as goal

pub write_deployment-requires-clause-facts : goal.write_deployment-requires-clause-facts
write_deployment-requires-clause-facts c =
    deployment_fits c.args.options.now c.args.text.now c.in_ok-deployment.deployment c.requires.options c.requires.fit
    (subst IsVersion (ap (λ (d : Deployment). d.identity.version) c.in_ok-deployment.ensures.deployment) c.in_ok-deployment.ensures.numbers) c.requires.short c.in_ok-deployment.ensures.deployment c.in_ok-deployment.ensures.sized

pub write_deployment-requires-clause-product : goal.write_deployment-requires-clause-product
write_deployment-requires-clause-product c = name_content c.args.options.now c.requires.fit
