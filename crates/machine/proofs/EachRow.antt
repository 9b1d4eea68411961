-- The facts of each row.
use Rattle.std.proofs.Common.{ℕ, List}
use Rattle.machine.specs.declared.command.Command.{Command}
use Rattle.machine.specs.declared.command.Command.TheVariants.{At, Require, Install, Check, Skip, Rollback, Launch, Read, Local, Put, Remove, Group, Finish, Clean, Show}
use Rattle.machine.specs.declared.command.Command.TheVariants as asks
use Rattle.machine.proofs.AtFacts.{at_facts}
use Rattle.machine.proofs.CheckFacts.{check_facts}
use Rattle.machine.proofs.CleanFacts.{clean_facts}
use Rattle.machine.proofs.FinishFacts.{finish_facts}
use Rattle.machine.proofs.GroupFacts.{group_facts}
use Rattle.machine.proofs.InstallFacts.{install_facts}
use Rattle.machine.proofs.LaunchFacts.{launch_facts}
use Rattle.machine.proofs.ListFacts.{list_facts}
use Rattle.machine.proofs.LocalFacts.{local_facts}
use Rattle.machine.proofs.PutFacts.{put_facts}
use Rattle.machine.proofs.ReadFacts.{read_facts}
use Rattle.machine.proofs.RemoveFacts.{remove_facts}
use Rattle.machine.proofs.RequireFacts.{require_facts}
use Rattle.machine.proofs.RollbackFacts.{rollback_facts}
use Rattle.machine.proofs.ShowFacts.{show_facts}
use Rattle.machine.proofs.SkipFacts.{skip_facts}
use Rattle.machine.proofs.RowFacts.{RowFacts}

pub facts : (now : ℕ) (heard : List (List ℕ)) (command : Command) → RowFacts now heard command
facts now heard (At next) = at_facts now heard next
facts now heard (Require key version) = require_facts now heard key version
facts now heard (Install url) = install_facts now heard url
facts now heard (Check key) = check_facts now heard key
facts now heard (Skip key) = skip_facts now heard key
facts now heard (Rollback key) = rollback_facts now heard key
facts now heard (Launch key) = launch_facts now heard key
facts now heard (Read lease name from count) = read_facts now heard lease name from count
facts now heard (Local lease name from count) = local_facts now heard lease name from count
facts now heard (Put lease name bytes) = put_facts now heard lease name bytes
facts now heard (Remove lease name) = remove_facts now heard lease name
facts now heard (Group lease group) = group_facts now heard lease group
facts now heard (Finish lease) = finish_facts now heard lease
facts now heard Clean = clean_facts now heard
facts now heard asks.List = list_facts now heard
facts now heard (Show key) = show_facts now heard key
