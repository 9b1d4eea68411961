use Rattle.http_link.proofs.Folders.{is_heard}
use Rattle.http_link.proofs.laws.answers_are_heard.Goals as goal

pub returns : goal.returns
returns c = is_heard
