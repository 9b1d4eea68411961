use Rattle.machine.proofs.Contents.{content_decides}
use Rattle.machine.proofs.laws.contents_are_compared.Goals as goal

pub returns : goal.returns
returns c = content_decides
