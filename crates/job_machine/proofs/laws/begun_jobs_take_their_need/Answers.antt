use Rattle.job_machine.proofs.Rooms.{blocks_exact}
use Rattle.job_machine.proofs.laws.begun_jobs_take_their_need.Goals as goal

pub returns : goal.returns
returns c = blocks_exact
