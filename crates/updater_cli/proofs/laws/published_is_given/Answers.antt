use Rattle.machine.proofs.DataSteps.{data_is, kept_data_stays}
use Rattle.machine.proofs.LeaseSteps.{read_is}
use Rattle.machine.proofs.KeptSteps.{run_sound}
use Rattle.machine.proofs.ViewSteps.{run_numbers}
use Rattle.updater_cli.proofs.PublishedLaw.{published_given}
use Rattle.updater_cli.proofs.laws.published_is_given.Goals as goal

pub returns : goal.returns
returns c = published_given run_sound kept_data_stays data_is read_is run_numbers
