use Rattle.http_plain.proofs.Requested.{fetches}
use Rattle.http_plain.proofs.laws.hosts_are_folders.Goals as goal

pub returns : goal.returns
returns c = fetches
