use Rattle.std.proofs.Common.{◌≡◌, length}
use Rattle.outside.specs.Streams.{Takes}
use Rattle.outside.proofs.sink.write_all.Given as goal

abbrev pub invariant-loop-rest : goal.invariant-loop-rest
invariant-loop-rest g l = record {
  takes : g.K.Sink.tells → Takes (g.K.Sink.taken l.initial.sink) (g.K.Sink.taken l.sink) l.bytes l.rest;
  count : g.K.Sink.count l.sink ≡ g.K.Sink.count l.initial.sink;
}

abbrev pub decreases-loop-rest : goal.decreases-loop-rest
decreases-loop-rest g l = length l.rest
