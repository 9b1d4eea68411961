use Rattle.manifests.proofs.FilesLaw.{have_files}
use Rattle.manifests.proofs.laws.applications_have_files.Goals as goal

pub returns : goal.returns
returns c = have_files
