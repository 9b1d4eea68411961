use Rattle.updater_cli.specs.Lines.{place_of, stage_of}
use Rattle.updater_cli.proofs.DeviceCalls.{keeps_none, keeps_then}
use Rattle.updater_cli.proofs.Pieces.{feed_found, piece_begun, piece_ends, piece_kept, piece_on, piece_refused}
use Rattle.updater_cli.proofs.session.answer_piece.Goals as goal

pub loop-part-init : goal.loop-part-init
loop-part-init g c = record {
  keeps = keeps_none g.K.Sink g.D.Disk g.L.Links (place_of c.args.sink.now c.args.disk.now c.args.links.now c.args.course.now) c.requires.ready;
  pending = c.requires.pending;
  done = piece_begun g.K.Sink.tells c.args.pending.now.items c.args.piece.now (stage_of g.K.Sink g.D.Disk g.L.Links (place_of c.args.sink.now c.args.disk.now c.args.links.now c.args.course.now)) c.requires.pending;
}

pub answer_ended-requires : goal.answer_ended-requires
answer_ended-requires g c = record {
  ready = c.loop-part.invariant.keeps.goes_on;
  pending = c.loop-part.invariant.pending;
  part = (feed_found c.loop-part.rest.now c.in-Some.part.now c.in-Some.more.now c.in-Some.ensures.found).free;
}

pub returns-in-Err : goal.returns-in-Err
returns-in-Err g c =
    piece_ends g.K.Sink g.D.Disk g.L.Links c.args.pending.now.items c.args.piece.now c.loop-part.rest.now c.loop-part.pending.items _ _ _ c.loop-part.invariant.done c.loop-part.invariant.keeps
    c.in-Some.part.now c.in-Some.more.now _ (feed_found c.loop-part.rest.now c.in-Some.part.now c.in-Some.more.now c.in-Some.ensures.found) c.in-Err.status c.in-Err.ensures

pub loop-part-preserved : goal.loop-part-preserved
loop-part-preserved g c = record {
  keeps = keeps_then g.K.Sink g.D.Disk g.L.Links _ _ _ _ c.loop-part.invariant.keeps c.in_default-answer_ended.ensures.keeps;
  pending = c.in_default-answer_ended.ensures.pending;
  done = piece_on g.K.Sink g.D.Disk g.L.Links c.args.pending.now.items c.args.piece.now c.loop-part.rest.now c.loop-part.pending.items _ _ _ c.loop-part.invariant.done c.loop-part.invariant.keeps
      c.in-Some.part.now c.in-Some.more.now _ (feed_found c.loop-part.rest.now c.in-Some.part.now c.in-Some.more.now c.in-Some.ensures.found) c.in_default-answer_ended.ensures;
}

pub loop-part-smaller : goal.loop-part-smaller
loop-part-smaller g c = (feed_found c.loop-part.rest.now c.in-Some.part.now c.in-Some.more.now c.in-Some.ensures.found).shorter

pub keep-requires : goal.keep-requires
keep-requires g c = c.loop-part.invariant.pending.within

pub returns-in-Err-keep : goal.returns-in-Err-keep
returns-in-Err-keep g c =
    piece_refused g.K.Sink g.D.Disk g.L.Links c.args.pending.now.items c.args.piece.now c.loop-part.rest.now c.loop-part.pending.items _ _ (place_of c.loop-part.sink c.loop-part.disk c.loop-part.links c.loop-part.course) c.loop-part.invariant.done c.loop-part.invariant.keeps _ (g.met.D.Disk.seen_left c.loop-part.disk)

pub returns-in-Ok : goal.returns-in-Ok
returns-in-Ok g c =
    piece_kept g.K.Sink g.D.Disk g.L.Links c.args.pending.now.items c.args.piece.now c.loop-part.rest.now c.loop-part.pending.items _ _ (place_of c.loop-part.sink c.loop-part.disk c.loop-part.links c.loop-part.course) c.loop-part.invariant.done c.loop-part.invariant.keeps _
    c.loop-part.invariant.pending c.in_default.ensures.none c.in-Ok.ensures.kept
