use Rattle.http_link.proofs.Folders.{gives_file}
use Rattle.http_link.proofs.laws.http_is_folder.Goals as goal

pub returns : goal.returns
returns c = gives_file
