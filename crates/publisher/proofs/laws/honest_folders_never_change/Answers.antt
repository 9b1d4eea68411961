use Rattle.publisher.proofs.HonestReadings.{never_changed}
use Rattle.publisher.proofs.laws.honest_folders_never_change.Goals as goal

pub returns : goal.returns
returns c = never_changed
