use Rattle.folders.proofs.SortedNames.{has_one_list}
use Rattle.folders.proofs.laws.one_list_of_names.Goals as goal

pub returns : goal.returns
returns g c = λ f told. has_one_list (g.F.Folder.held f) (g.met.F.Folder.names_differ f told)
