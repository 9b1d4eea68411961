use Rattle.std.proofs.Common.{sym, subst}
use Rattle.manifests.specs.Facts.{AreApplicationFacts}
use Rattle.publisher.proofs.OptionFacts.{application_fits}
use Rattle.publisher.proofs.release.application_text.Goals as goal

pub application_manifest-requires : goal.application_manifest-requires
application_manifest-requires c =
    subst AreApplicationFacts (sym c.in_ok-application.ensures.application) (application_fits c.args.options.now c.args.entries c.requires.fit c.requires.files c.requires.each)
