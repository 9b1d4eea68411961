use Rattle.machine.specs.Machine.{refusals}
use Rattle.machine.proofs.FirstRefusal.{none_refuses, one_refuses}
use Rattle.machine.proofs.InstallExact.{address_exact, deployment_exact, release_exact}
use Rattle.machine.proofs.CheckFacts.{check_exact}
use Rattle.machine.proofs.FinishFacts.{finish_exact}
use Rattle.machine.proofs.GroupFacts.{room_exact}
use Rattle.machine.proofs.LaunchFacts.{launch_exact}
use Rattle.machine.proofs.LocalFacts.{local_exact}
use Rattle.machine.proofs.PutFacts.{put_exact}
use Rattle.machine.proofs.ReadFacts.{read_exact}
use Rattle.machine.proofs.RequireFacts.{require_exact}
use Rattle.machine.proofs.RollbackFacts.{rollback_exact}
use Rattle.machine.proofs.ShowFacts.{show_exact}
use Rattle.machine.proofs.SkipFacts.{skip_exact}
use Rattle.machine.proofs.laws.one_refusal_is_given.Goals as goal

pub returns-clause-rows : goal.returns-clause-rows
returns-clause-rows c = record {
  at = λ now heard shape next. tt;
  require = λ now heard shape key version. require_exact key version shape;
  install = record { address = address_exact; deployment = deployment_exact; release = release_exact };
  check = λ now text texts shape key. check_exact key text texts shape;
  skip = λ now heard shape key. skip_exact key now shape;
  rollback = λ now heard shape key. rollback_exact key shape;
  launch = λ now heard shape key. launch_exact key now shape;
  read = λ now heard shape lease name from count. read_exact lease name shape;
  local = λ now heard shape lease name from count. local_exact lease name shape;
  put = λ now heard shape lease name bytes. put_exact lease name bytes shape;
  remove = λ now heard shape lease name. local_exact lease name shape;
  group = λ shape lease group. room_exact lease group shape;
  finish = λ now heard shape lease. finish_exact lease shape;
  clean = λ now heard shape. tt;
  list = λ now heard shape. tt;
  show = λ now heard shape key. show_exact key shape;
}

pub returns-clause-one : goal.returns-clause-one
returns-clause-one c = λ now heard shape command. one_refuses (refusals now heard shape command)

pub returns-clause-none : goal.returns-clause-none
returns-clause-none c = λ now heard shape command. none_refuses (refusals now heard shape command)
