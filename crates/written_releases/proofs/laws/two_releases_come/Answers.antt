use Rattle.written_releases.proofs.DemoSession.{session}
use Rattle.written_releases.proofs.laws.two_releases_come.Goals as goal

pub returns : goal.returns
returns c = session c.some_stores_are_sound.ensures.empty c.steps_keep_sound.ensures.runs
