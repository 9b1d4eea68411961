use Rattle.std.proofs.Common.{◌≡◌, Ok}
use Rattle.updater_cli.specs.Lines.{IsPending, KeepsSession, place_of, stage_of}
use Rattle.updater_cli.proofs.InputReads.{Read}
use Rattle.updater_cli.proofs.session.answer_all.Given as goal

abbrev pub invariant-loop-room : goal.invariant-loop-room
invariant-loop-room g l =
    let old = place_of l.initial.sink l.initial.disk l.initial.links l.initial.course in
    let new = place_of l.sink l.disk l.links l.course in
    record {
      keeps : KeepsSession g.K.Sink g.D.Disk g.L.Links old (Ok tt) new;
      pending : IsPending l.pending.items;
      read : Read g.S.Source.tells (g.S.Source.left l.initial.source) (g.S.Source.left l.source) l.room l.pending.items g.K.Sink.tells (stage_of g.K.Sink g.D.Disk g.L.Links old) (stage_of g.K.Sink g.D.Disk g.L.Links new);
      reads : g.S.Source.count l.source ≡ g.S.Source.count l.initial.source;
    }

abbrev pub decreases-loop-room : goal.decreases-loop-room
decreases-loop-room g l = l.room
