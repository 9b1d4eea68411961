use Rattle.std.proofs.Common.{refl}
use Rattle.machine.specs.Machine.{refusals}
use Rattle.machine.proofs.CheckFacts.{check_refused}
use Rattle.machine.proofs.FirstRefusal.{unchanged_at}
use Rattle.machine.proofs.GroupFacts.{group_unchanged}
use Rattle.machine.proofs.InstallFacts.{install_unchanged}
use Rattle.machine.proofs.LaunchFacts.{launch_unchanged}
use Rattle.machine.proofs.LocalFacts.{local_unchanged}
use Rattle.machine.proofs.PutFacts.{put_unchanged}
use Rattle.machine.proofs.RollbackFacts.{rollback_unchanged}
use Rattle.machine.proofs.SkipFacts.{skip_unchanged}
use Rattle.machine.proofs.laws.refusals_change_nothing.Goals as goal

pub returns-clause-given : goal.returns-clause-given
returns-clause-given c = λ now heard shape command k. unchanged_at k (refusals now heard shape command)

pub returns-clause-rows : goal.returns-clause-rows
returns-clause-rows c = record {
  at = λ now heard shape next. tt;
  require = λ now heard shape key version. ((λ s. refl), ((λ s. refl), tt));
  install = λ now heard shape url. install_unchanged url heard shape;
  skip = λ now heard shape key. skip_unchanged key now shape;
  rollback = λ now heard shape key. rollback_unchanged key shape;
  launch = λ now heard shape key. launch_unchanged key now shape;
  read = λ now heard shape lease name from count. ((λ s. refl), ((λ s. refl), tt));
  local = λ now heard shape lease name from count. local_unchanged lease name shape;
  put = λ now heard shape lease name bytes. put_unchanged lease name bytes shape;
  remove = λ now heard shape lease name. local_unchanged lease name shape;
  group = λ now heard shape lease group. group_unchanged lease group shape;
  finish = λ now heard shape lease. ((λ s. refl), tt);
  clean = λ now heard shape. tt;
  list = λ now heard shape. tt;
  show = λ now heard shape key. ((λ s. refl), tt);
}

pub returns-clause-checks : goal.returns-clause-checks
returns-clause-checks c = λ now heard old key. check_refused key heard old
