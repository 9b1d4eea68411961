use Rattle.outside_real.proofs.DiskTells.{read_quiet, quiet_on}
use Rattle.outside_real.proofs.told.Told.read.Goals as goal

pub invariant_of-self : goal.invariant_of-self
invariant_of-self c = record { numbered = quiet_on c.args.self.now.calls (read_quiet c.args.self.now.answers.noted c.note.new.self.noted c.args.place c.args.buf.now c.args.answer c.note.ensures) c.args.self.now.numbered }
