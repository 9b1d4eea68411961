use Rattle.std.proofs.Common.{◌≡◌, drop}
use Rattle.outside.specs.Streams.{Takes}
use Rattle.command_text.specs.Pieces.{pieces_text}
use Rattle.command_text.proofs.pieces.print_pieces.Given as goal

abbrev pub invariant-loop-piece : goal.invariant-loop-piece
invariant-loop-piece g l = record {
  takes : g.K.Sink.tells → Takes (g.K.Sink.taken l.initial.sink) (g.K.Sink.taken l.sink) (pieces_text l.pieces) (pieces_text (drop l.piece-index l.pieces));
  count : g.K.Sink.count l.sink ≡ g.K.Sink.count l.initial.sink;
}
