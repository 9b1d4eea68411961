use Rattle.std.proofs.Common.{arith}
use Rattle.disks.specs.declared.call.Move.TheVariants.{Sync}
use Rattle.outside_real.proofs.DiskTells.{note_on}
use Rattle.outside_real.proofs.told.Told.sync.Goals as goal

pub invariant_of-self : goal.invariant_of-self
invariant_of-self c = record {
  numbered = note_on c.args.self.now.answers.noted c.note.new.self.noted (record { number = c.args.self.now.calls; act = Sync c.args.done }) c.args.self.now.calls
      c.note.ensures (omega arith) c.args.self.now.numbered;
}
