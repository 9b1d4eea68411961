use Rattle.std.proofs.Common.{length, Ok}
use Rattle.updater_cli.specs.Lines.{IsPending, KeepsSession, place_of, stage_of}
use Rattle.updater_cli.proofs.Pieces.{UpTo}
use Rattle.updater_cli.proofs.session.answer_piece.Given as goal

abbrev pub invariant-loop-part : goal.invariant-loop-part
invariant-loop-part g l =
    let old = place_of l.initial.sink l.initial.disk l.initial.links l.initial.course in
    let new = place_of l.sink l.disk l.links l.course in
    record {
      keeps : KeepsSession g.K.Sink g.D.Disk g.L.Links old (Ok tt) new;
      pending : IsPending l.pending.items;
      done : UpTo g.K.Sink.tells l.initial.pending.items l.piece l.rest l.pending.items (stage_of g.K.Sink g.D.Disk g.L.Links old) (stage_of g.K.Sink g.D.Disk g.L.Links new);
    }

abbrev pub decreases-loop-part : goal.decreases-loop-part
decreases-loop-part g l = length l.rest
